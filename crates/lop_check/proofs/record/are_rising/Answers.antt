use Rattle.std.proofs.Common.{◌≡◌, ◌∙◌, ◌*◌, ◌&&◌, ◌+◌, ◌<◌, false, nat_abs, get_or, pos, ℤ, Bool, drop, ap, sym, length, arith, rules, w64, FitsSigned}
use Rattle.std.proofs.lemmas.Int.{to_z-of_z}
use Rattle.lop_certtext.specs.RecordLine.{are_rising, terms_of}
use Rattle.lop_check.specs.Records.{follows}
use Rattle.lop_check.proofs.NodeLemmas.{rising_step, none_rising}
use Rattle.lop_check.proofs.record.are_rising.Goals as goal

pub returns-then-not-may_follow : goal.returns-then-not-may_follow
returns-then-not-may_follow c =
    let ns = c.args.numbers.now in
    let i = c.loop-term.term in
    let within : 2 * i + 1 < length ns = omega arith in
    let step = rising_step ns c.args.count c.loop-term.last i within in
    let test : follows ns i c.loop-term.last c.args.count ≡ false = sym c.may_follow.ensures ∙ c.if-not-may_follow.true in
    sym (c.loop-term.invariant ∙ step ∙ ap (λ (t : Bool). t && are_rising (nat_abs (get_or ns (2 * i) (pos 0))) c.args.count (terms_of (drop (2 * (i + 1)) ns))) test)

pub loop-term-preserved : goal.loop-term-preserved
loop-term-preserved c =
    let ns = c.args.numbers.now in
    let i = c.loop-term.term in
    let x : ℤ = get_or ns (2 * i) (pos 0) in
    let fits : FitsSigned w64 x = search rules in
    let within : 2 * i + 1 < length ns = omega arith in
    let step = rising_step ns c.args.count c.loop-term.last i within in
    let test = sym c.may_follow.ensures ∙ c.if-not-may_follow.false in
    let last : nat_abs x ≡ c.unsigned_abs-last.result = sym (c.unsigned_abs-last.ensures.value ∙ ap nat_abs (to_z-of_z w64 x fits)) in
    c.loop-term.invariant ∙ step
    ∙ ap (λ (t : Bool). t && are_rising (nat_abs x) c.args.count (terms_of (drop (2 * (i + 1)) ns))) test
    ∙ ap (λ k. are_rising k c.args.count (terms_of (drop (2 * (i + 1)) ns))) last

pub returns : goal.returns
returns c = sym (c.loop-term.invariant ∙ none_rising c.args.numbers.now c.args.count c.loop-term.last (2 * c.loop-term.term) (let half = c.requires.1 in omega (arith, half)))
