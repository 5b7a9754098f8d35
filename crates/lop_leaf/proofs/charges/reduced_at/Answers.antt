use Rattle.std.proofs.Common.{◌≡◌, ◌+◌, ◌*◌, ◌^◌, ◌≤◌, ℕ, get_or, ℤ, pos, negsuc, neg_ℤ, ◌-ℤ◌, ◌*ℤ◌, ◌≤ℤ◌, ◌∙◌, ap, sym, subst, rules, arith, to_z, of_z, FitsSigned}
use Rattle.std.specs.Int.{w64, w128}
use Rattle.std.proofs.lemmas.Int.{ints, to_z-of_z, to_z_pos}
use Rattle.lop_cuts.specs.Lagrangian.{charge}
use Rattle.lop_model.specs.Matrix.{entry}
use Rattle.lop_leaf.proofs.ChargeLemmas.{charge-le, entry_low, entry_high}
use Rattle.lop_cuts.proofs.ChargeLemmas.{scaled_high}
use Rattle.lop_cuts.proofs.ChargeLemmas.{scaled_low}
use Rattle.lop_leaf.proofs.charges.reduced_at.Goals as goal

fits_within : (x : ℤ) → neg_ℤ (pos (2 ^ 77)) ≤ℤ x → x ≤ℤ pos (2 ^ 77) → FitsSigned w128 x
fits_within (pos n) h k = omega (arith, ints)
fits_within (negsuc n) h k = omega (arith, ints)

-- what the code computes, where the charge is k
record Computed (s e : ℤ) (S k : ℕ) : Type 0 where
  product : to_z w128 (of_z w128 (to_z w128 (of_z w128 s) *ℤ to_z w128 (of_z w128 e))) ≡ pos S *ℤ e
  low : neg_ℤ (pos (2 ^ 77)) ≤ℤ (pos S *ℤ e -ℤ pos k)
  high : (pos S *ℤ e -ℤ pos k) ≤ℤ pos (2 ^ 77)

computed : (s e : ℤ) (S k : ℕ) → FitsSigned w128 s → FitsSigned w128 e → s ≡ pos S → S ≤ 65536 → neg_ℤ (pos (10 ^ 18)) ≤ℤ e → e ≤ℤ pos (10 ^ 18) → k ≤ 2 ^ 75 → Computed s e S k
computed s e S k fit_s fit_e is limit low high charge =
    let least : neg_ℤ (pos (S * 10 ^ 18)) ≤ℤ (pos S *ℤ e) = scaled_low S (10 ^ 18) e low in
    let most : (pos S *ℤ e) ≤ℤ pos (S * 10 ^ 18) = scaled_high S (10 ^ 18) e high in
    let fits : FitsSigned w128 (pos S *ℤ e) = fits_within (pos S *ℤ e) (omega (arith, ints)) (omega (arith, ints)) in
    record {
      product = rw (to_z-of_z w128 s fit_s, to_z-of_z w128 e fit_e, is) (to_z-of_z w128 (pos S *ℤ e) fits);
      low = omega (arith, ints);
      high = omega (arith, ints);
    }

-- the same for the values at hand
here : (c : goal.After-from-2) → Computed c.from.result c.from-2.result c.args.rec.now.scale (charge c.args.rec.now.terms c.args.a c.args.b)
here c =
    let w = c.args.weights.now in
    let a = c.args.a in
    let b = c.args.b in
    let is = c.scale.ensures.terms in
    let fit_s : FitsSigned w128 c.from.result = search rules in
    let fit_e : FitsSigned w128 c.from-2.result = search rules in
    let fit : FitsSigned w64 c.at.result = search rules in
    let value : c.from-2.result ≡ entry w a b = c.from-2.ensures ∙ to_z-of_z w64 c.at.result fit ∙ c.at.ensures in
    let scale : c.from.result ≡ pos c.args.rec.now.scale = c.from.ensures ∙ ap pos c.scale.ensures.value in
    computed c.from.result c.from-2.result c.args.rec.now.scale (charge c.args.rec.now.terms a b) fit_s fit_e scale is.within_limit
    (rw value (entry_low w a b c.n.ensures.weights c.requires.differ c.requires.first c.requires.second))
    (rw value (entry_high w a b c.n.ensures.weights c.requires.differ c.requires.first c.requires.second))
    (charge-le c.args.rec.now.terms a b is.multipliers is.bounded_count)

-- the cell that is read is the charge
read : (c : goal.After-from-2) → get_or c.args.table.now (c.args.a * c.n.result + c.args.b) 0 ≡ charge c.args.rec.now.terms c.args.a c.args.b
read c = ap (λ n. get_or c.args.table.now (c.args.a * n + c.args.b) 0) c.n.ensures.size ∙ c.requires.charged.each c.args.a c.args.b c.requires.first c.requires.second

small : (c : goal.After-from-2) → get_or c.args.table.now (c.args.a * c.n.result + c.args.b) 0 ≤ 2 ^ 75
small c = rw (read c) (charge-le c.args.rec.now.terms c.args.a c.args.b c.scale.ensures.terms.multipliers c.scale.ensures.terms.bounded_count)

cell_z : (c : goal.After-from-2) → to_z w128 (get_or c.args.table.now (c.args.a * c.n.result + c.args.b) 0) ≡ pos (charge c.args.rec.now.terms c.args.a c.args.b)
cell_z c = to_z_pos w128 (get_or c.args.table.now (c.args.a * c.n.result + c.args.b) 0) (let h = small c in omega (arith, h)) ∙ ap pos (read c)

-- the difference is the reduced entry
difference : (c : goal.After-from-2) → to_z w128 (of_z w128 (to_z w128 (of_z w128 c.from.result) *ℤ to_z w128 (of_z w128 c.from-2.result))) -ℤ to_z w128 (get_or c.args.table.now (c.args.a * c.n.result + c.args.b) 0) ≡ pos c.args.rec.now.scale *ℤ c.from-2.result -ℤ pos (charge c.args.rec.now.terms c.args.a c.args.b)
difference c = ap (λ x. x -ℤ to_z w128 (get_or c.args.table.now (c.args.a * c.n.result + c.args.b) 0)) (here c).product ∙ ap (λ x. pos c.args.rec.now.scale *ℤ c.from-2.result -ℤ x) (cell_z c)

fits : (c : goal.After-from-2) → FitsSigned w128 (pos c.args.rec.now.scale *ℤ c.from-2.result -ℤ pos (charge c.args.rec.now.terms c.args.a c.args.b))
fits c = fits_within _ (here c).low (here c).high

pub overflow_cast-result : goal.overflow_cast-result
overflow_cast-result c = let h = small c in omega (arith, h)

pub overflow_sub-result : goal.overflow_sub-result
overflow_sub-result c = subst (λ x. FitsSigned w128 x) (sym (difference c)) (fits c)

whole : (c : goal.After-from-2) → to_z w128 (of_z w128 (to_z w128 (of_z w128 (to_z w128 (of_z w128 c.from.result) *ℤ to_z w128 (of_z w128 c.from-2.result))) -ℤ to_z w128 (get_or c.args.table.now (c.args.a * c.n.result + c.args.b) 0))) ≡ pos c.args.rec.now.scale *ℤ c.from-2.result -ℤ pos (charge c.args.rec.now.terms c.args.a c.args.b)
whole c = ap (λ x. to_z w128 (of_z w128 x)) (difference c) ∙ to_z-of_z w128 _ (fits c)

pub returns-clause-value : goal.returns-clause-value
returns-clause-value c =
    let fit : FitsSigned w64 c.at.result = search rules in
    let value : c.from-2.result ≡ entry c.args.weights.now c.args.a c.args.b = c.from-2.ensures ∙ to_z-of_z w64 c.at.result fit ∙ c.at.ensures in
    whole c ∙ ap (λ x. pos c.args.rec.now.scale *ℤ x -ℤ pos (charge c.args.rec.now.terms c.args.a c.args.b)) value

pub returns-clause-low : goal.returns-clause-low
returns-clause-low c = subst (λ x. neg_ℤ (pos (2 ^ 77)) ≤ℤ x) (sym (whole c)) (here c).low

pub returns-clause-high : goal.returns-clause-high
returns-clause-high c = subst (λ x. x ≤ℤ pos (2 ^ 77)) (sym (whole c)) (here c).high
