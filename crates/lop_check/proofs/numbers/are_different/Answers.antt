use Rattle.std.proofs.Common.{◌≡◌, ◌+◌, rules, w64, to_z, of_z, FitsSigned, ℤ, List, pos, true, false, get_or, drop, ap, ◌∙◌, sym}
use Rattle.std.proofs.lemmas.Int.{to_z-of_z}
use Rattle.std.proofs.lemmas.List.{take_rest}
use Rattle.lop_check.proofs.Objects.{is_among, different_more, different_not, different_all}
use Rattle.lop_check.proofs.numbers.are_different.Goals as goal

pub loop-place-preserved : goal.loop-place-preserved
loop-place-preserved c =
    let ns = c.args.numbers.now in
    let p = c.loop-place.place in
    let x = get_or ns p (pos 0) in
    let fits : FitsSigned w64 x = search rules in
    let free : is_among (drop (p + 1) ns) x ≡ false =
    ap (is_among (drop (p + 1) ns)) (sym (to_z-of_z w64 x fits)) ∙ ap (λ (l : List ℤ). is_among l (to_z w64 (of_z w64 x))) (sym (take_rest ns (p + 1))) ∙ sym c.is_among.ensures ∙ c.if-is_among.false in
    c.loop-place.invariant ∙ different_more ns p c.loop-place-test.true free

pub returns-then-is_among : goal.returns-then-is_among
returns-then-is_among c =
    let ns = c.args.numbers.now in
    let p = c.loop-place.place in
    let x = get_or ns p (pos 0) in
    let fits : FitsSigned w64 x = search rules in
    let found : is_among (drop (p + 1) ns) x ≡ true =
    ap (is_among (drop (p + 1) ns)) (sym (to_z-of_z w64 x fits)) ∙ ap (λ (l : List ℤ). is_among l (to_z w64 (of_z w64 x))) (sym (take_rest ns (p + 1))) ∙ sym c.is_among.ensures ∙ c.if-is_among.true in
    sym (c.loop-place.invariant ∙ different_not ns p c.loop-place-test.true found)

pub returns : goal.returns
returns c = sym (c.loop-place.invariant ∙ different_all c.args.numbers.now c.loop-place.place c.loop-place-test.false)
