use Rattle.std.proofs.Common.{◌∙◌, ap, FitsSigned, w64, arith, rules}
use Rattle.std.proofs.lemmas.Int.{to_z-of_z}
use Rattle.lop_lolib.specs.ClampedObject.{clamped_object}
use Rattle.lop_lolib.proofs.WordsLemmas.{words_of-at_most}
use Rattle.lop_lolib.proofs.ObjectsLemmas.{first_objects-further, first_objects-more, first_objects-over, numbers_reading-bad, numbers_reading-length, numbers_reading-all, objects-all}
use Rattle.lop_lolib.proofs.order.read_objects.Goals as goal
use Rattle.lop_lolib.proofs.order.read_objects.Goals.{then-count-n+in_ok-push, else-count-n}

pub returns-in_default-clause-refusal : goal.returns-in_default-clause-refusal
returns-in_default-clause-refusal c =
    numbers_reading-bad c.args.n _ _ _ c.loop-word.count c.loop-word.objects.items c.in-Some.word.now c.loop-word.invariant c.in-Some.ensures.steps c.in_default.ensures

pub overflow_add-count : goal.overflow_add-count
overflow_add-count c =
    let more = first_objects-further c.args.n _ _ _ c.loop-word.count c.loop-word.objects.items c.in-Some.word.now c.loop-word.invariant c.in-Some.ensures.steps in
    omega (arith, more, words_of-at_most c.args.bytes.now)

pub loop-word-preserved : goal.loop-word-preserved
loop-word-preserved c =
    let items = c.loop-word.objects.items in
    let number = c.in-Some-number_of.ensures in
    let fits : FitsSigned w64 c.in-Some-number_of.number = search rules in
    elim c.if-count-n.branch [
      | then-count-n+in_ok-push w ↦
          rw w.objects-is (first_objects-more c.args.n _ _ _ c.loop-word.count items c.in-Some.word.now c.loop-word.invariant c.in-Some.ensures.steps w.clamped_object.result w.push.new.self.items w.if-count-n.true w.in_ok-push.ensures.items number.0 (w.clamped_object.ensures ∙ ap clamped_object (to_z-of_z w64 c.in-Some-number_of.number fits ∙ number.1)))
      | else-count-n w ↦
          rw w.objects-is (first_objects-over c.args.n _ _ _ c.loop-word.count items c.in-Some.word.now c.loop-word.invariant c.in-Some.ensures.steps w.if-count-n.false number.0)
    ]

pub returns-then-count-n-2-clause-refusal : goal.returns-then-count-n-2-clause-refusal
returns-then-count-n-2-clause-refusal c =
    numbers_reading-length c.args.n _ _ c.loop-word.count c.loop-word.objects.items c.loop-word.invariant c.in-None.ensures.steps.0 c.if-count-n-2.true

pub returns-clause-numbers : goal.returns-clause-numbers
returns-clause-numbers c =
    numbers_reading-all c.args.n _ _ c.loop-word.count c.loop-word.objects.items c.loop-word.invariant c.in-None.ensures.steps.0 c.if-count-n-2.false

pub returns-clause-objects : goal.returns-clause-objects
returns-clause-objects c =
    objects-all c.args.n _ _ c.loop-word.count c.loop-word.objects.items c.loop-word.invariant c.in-None.ensures.steps.0 c.if-count-n-2.false
