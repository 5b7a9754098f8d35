use Rattle.std.proofs.Common.{◌+◌, ◌*◌, ◌-◌, ◌^◌, get_or, pos, neg_ℤ, ◌≤ℤ◌, ◌∙◌, sym, subst, rules, FitsSigned}
use Rattle.std.specs.Int.{w64}
use Rattle.std.proofs.lemmas.Int.{to_z-of_z}
use Rattle.lop_leaf.proofs.MarginLemmas.{signed_forth, margin_low}
use Rattle.lop_leaf.proofs.margins.margin_at.Goals as goal

pub returns-clause-value : goal.returns-clause-value
returns-clause-value c =
    let fits : FitsSigned w64 (get_or c.args.table.now (c.args.a * c.args.n + c.args.b) (pos 0)) = search rules in
    to_z-of_z w64 _ fits ∙ sym (signed_forth c.args.table.now c.args.n c.args.a c.args.b c.requires.rising)

pub returns-clause-low : goal.returns-clause-low
returns-clause-low c =
    let fits : FitsSigned w64 (get_or c.args.table.now (c.args.a * c.args.n + c.args.b) (pos 0)) = search rules in
    subst (λ x. neg_ℤ (pos (2 ^ 63 - 1)) ≤ℤ x) (sym (to_z-of_z w64 _ fits ∙ sym (signed_forth c.args.table.now c.args.n c.args.a c.args.b c.requires.rising)))
    (margin_low c.args.n c.args.a c.args.b c.args.table.now c.requires.bounded c.requires.rising c.requires.second)
