use Rattle.std.proofs.Common.{◌≡◌, ◌-◌, List, ℕ, length, map, false, replicate, subst, sym, ◌∙◌, ap, arith}
use Rattle.lop_preflib.specs.Line.{pieces_in}
use Rattle.std.proofs.lemmas.List.{length-map, length_push}
use Rattle.lop_desk.specs.Number.{digits_value}
use Rattle.lop_preflib.specs.Text.{is_number_to}
use Rattle.lop_preflib.specs.Groups.{item_of}
use Rattle.lop_preflib.specs.Pieces.{pieces_left}
use Rattle.lop_preflib.proofs.ItemsLemmas.{AreRead, are_read-none, are_read-noted, few_read, items_refusal-bad, items_refusal-repeated, items_refusal-all, objects-all}
use Rattle.lop_preflib.proofs.GroupsLemmas.{AreNumbered, are_numbered-none, are_numbered-more, numbered-all, group_at-le, open_parts}
use Rattle.lop_preflib.proofs.order.read_items.Goals as goal

pub loop-text-init : goal.loop-text-init
loop-text-init c =
    let pieces = pieces_in c.args.list.now in
    let left : pieces_left c.into_iter-text-iterator.result ≡ pieces = ap pieces_left c.into_iter-text-iterator.ensures.into_iter_gives in
    record {
      read = subst (λ (l : List (List ℕ)). AreRead c.args.n c.args.number (map item_of pieces) (map item_of l) c.clear.new.self.objects.items (replicate 513 false)) (sym left) (are_read-none c.args.n c.args.number (map item_of pieces) c.clear.new.self.objects.items c.clear.ensures.objects);
      numbered = subst (λ (l : List (List ℕ)). AreNumbered pieces l (length c.clear.new.self.objects.items) c.clear.new.self.groups.items false 0) (sym left) (are_numbered-none pieces c.clear.new.self.objects.items c.clear.new.self.groups.items c.clear.ensures.objects c.clear.ensures.groups);
    }

pub returns-in_default-clause-refusal : goal.returns-in_default-clause-refusal
returns-in_default-clause-refusal c =
    let item = c.parts_of-piece.ensures.item in
    items_refusal-bad _ _ _ _ _ c.loop-text.ranking.objects.items c.loop-text.seen (item_of c.in-Some.text.now) c.loop-text.invariant.read (ap (map item_of) c.in-Some.ensures.steps) (ap (is_number_to c.args.n) (sym item) ∙ c.in_default.ensures)

pub returns-then-note-clause-refusal : goal.returns-then-note-clause-refusal
returns-then-note-clause-refusal c =
    let number = c.in-Some-number_up_to.ensures in
    let item = c.parts_of-piece.ensures.item in
    items_refusal-repeated _ _ _ _ _ c.loop-text.ranking.objects.items c.loop-text.seen (item_of c.in-Some.text.now) c.loop-text.invariant.read (ap (map item_of) c.in-Some.ensures.steps) c.in-Some-number_up_to.value (ap (is_number_to c.args.n) (sym item) ∙ number.0) (number.1 ∙ ap digits_value item) (omega arith) (sym c.note.ensures.stood ∙ c.if-note.true)

pub next_group-group-requires : goal.next_group-group-requires
next_group-group-requires c =
    let number = c.in-Some-number_up_to.ensures in
    let item = c.parts_of-piece.ensures.item in
    let few = few_read _ _ _ _ _ c.loop-text.ranking.objects.items c.loop-text.seen (item_of c.in-Some.text.now) c.loop-text.invariant.read (ap (map item_of) c.in-Some.ensures.steps) c.in-Some-number_up_to.value (ap (is_number_to c.args.n) (sym item) ∙ number.0) (number.1 ∙ ap digits_value item) (omega arith) (sym c.note.ensures.stood ∙ c.if-note.false) in
    omega (arith, few, c.loop-text.invariant.numbered.group_is, group_at-le (pieces_in c.args.list.now) (length c.loop-text.ranking.objects.items))

pub loop-text-preserved : goal.loop-text-preserved
loop-text-preserved c =
    let parts = c.parts_of-piece.ensures in
    let number = c.in-Some-number_up_to.ensures in
    let ranked = c.loop-text.ranking.objects.items in
    let piece = c.in-Some.text.now in
    let longer = c.in_ok-push.ensures.objects in
    record {
      read = are_read-noted _ _ _ _ _ ranked c.loop-text.seen (item_of piece) c.loop-text.invariant.read (ap (map item_of) c.in-Some.ensures.steps) c.in-Some-number_up_to.value (ap (is_number_to c.args.n) (sym parts.item) ∙ number.0) (number.1 ∙ ap digits_value parts.item) (omega arith) _ c.note.new.seen longer c.note.ensures.noted (sym c.note.ensures.stood ∙ c.if-note.false);
      numbered = are_numbered-more (pieces_in c.args.list.now) _ _ (length ranked) c.loop-text.ranking.groups.items c.loop-text.inside c.loop-text.group piece c.requires.ties c.loop-text.invariant.numbered c.in-Some.ensures.steps _ _ _ _ (c.leaves_open-inside.ensures ∙ open_parts c.loop-text.inside piece _ _ parts.opens parts.closes) (ap length longer ∙ length_push ranked (c.in-Some-number_up_to.value - 1)) c.in_ok-push.ensures.groups c.next_group-group.ensures;
    }

pub returns-clause-objects : goal.returns-clause-objects
returns-clause-objects c = objects-all _ _ _ _ c.loop-text.ranking.objects.items c.loop-text.seen c.loop-text.invariant.read (ap (map item_of) c.in-None.ensures.steps.0)

pub returns-clause-groups : goal.returns-clause-groups
returns-clause-groups c = numbered-all (pieces_in c.args.list.now) _ (length c.loop-text.ranking.objects.items) c.loop-text.ranking.groups.items c.loop-text.inside c.loop-text.group (omega (arith, c.loop-text.invariant.read.present, length-map (pieces_in c.args.list.now) item_of)) c.loop-text.invariant.numbered c.in-None.ensures.steps.0

pub returns-clause-good : goal.returns-clause-good
returns-clause-good c = items_refusal-all _ _ _ _ c.loop-text.ranking.objects.items c.loop-text.seen c.loop-text.invariant.read (ap (map item_of) c.in-None.ensures.steps.0)
