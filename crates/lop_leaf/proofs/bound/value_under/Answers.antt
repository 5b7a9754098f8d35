use Rattle.std.proofs.Common.{◌≡◌, List, [], ◌∷◌, length, refl, sym, ◌∙◌, ap, rules, arith, FitsSigned}
use Rattle.std.specs.Int.{w128}
use Rattle.std.proofs.lemmas.Int.{to_z-of_z}
use Rattle.lop_cuts.specs.Lagrangian.{Term, lagrangian_value}
use Rattle.lop_cuts.proofs.LagrangianLemmas.{lagrangian_value-plain}
use Rattle.lop_leaf.proofs.bound.value_under.Goals as goal

no_term : (terms : List Term) → length terms ≡ 0 → terms ≡ []
no_term [] e = refl
no_term (t ∷ terms) e = absurd (omega (arith, e))

pub returns-then-len-eq0-clause-value : goal.returns-then-len-eq0-clause-value
returns-then-len-eq0-clause-value c =
    let C = c.args.weights.now in
    let G = c.args.fixings.now.pairs in
    let rec = c.args.rec.now in
    let fits : FitsSigned w128 c.plain_bound.result = search rules in
    let one : rec.scale ≡ 1 = omega (arith, c.scale.ensures.value, c.if-scale-eq1.true) in
    let none : rec.terms ≡ [] = no_term rec.terms (omega (arith, c.len.ensures.value, c.if-len-eq0.true)) in
    to_z-of_z w128 c.plain_bound.result fits
    ∙ c.plain_bound.ensures.value
    ∙ sym (lagrangian_value-plain C G)
    ∙ ap (λ k. lagrangian_value C G k []) (sym one)
    ∙ ap (λ (ts : List Term). lagrangian_value C G rec.scale ts) (sym none)
