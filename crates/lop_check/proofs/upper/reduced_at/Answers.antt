use Rattle.std.proofs.Common.{◌≡◌, ◌+◌, ◌*◌, ◌^◌, ◌≤◌, ℕ, get_or, ℤ, pos, neg_ℤ, ◌-ℤ◌, ◌*ℤ◌, ◌≤ℤ◌, ◌∙◌, ap, sym, subst, rules, arith, to_z, of_z, FitsSigned}
use Rattle.std.specs.Int.{w64, w128}
use Rattle.std.proofs.lemmas.Int.{to_z-of_z, to_z_pos}
use Rattle.lop_model.specs.Matrix.{entry}
use Rattle.lop_model.specs.Cells.{cell}
use Rattle.lop_check.proofs.Reduced.{Computed, computed}
use Rattle.lop_check.proofs.upper.reduced_at.Goals as goal

-- the charge that is read
abbrev read : goal.After-from-2 → ℕ
read c = get_or c.args.charges.now (c.args.a * c.n.result + c.args.b) 0

read_is : (c : goal.After-from-2) → read c ≡ cell c.args.charges.now c.args.weights.now.size c.args.a c.args.b
read_is c = ap (λ n. get_or c.args.charges.now (c.args.a * n + c.args.b) 0) c.n.ensures.size

small : (c : goal.After-from-2) → read c ≤ 2 ^ 75
small c = rw (read_is c) (c.requires.small.each c.args.a c.args.b c.requires.first c.requires.second)

here : (c : goal.After-from-2) → Computed c.from.result c.from-2.result c.args.scale (read c)
here c =
    let fit_s : FitsSigned w128 c.from.result = search rules in
    let fit_e : FitsSigned w128 c.from-2.result = search rules in
    let fit : FitsSigned w64 c.at.result = search rules in
    let value : c.from-2.result ≡ c.at.result = c.from-2.ensures ∙ to_z-of_z w64 c.at.result fit in
    computed c.from.result c.from-2.result c.args.scale (read c) fit_s fit_e (subst (λ (x : ℤ). FitsSigned w64 x) (sym value) fit) c.from.ensures c.requires.scale (small c)

cell_z : (c : goal.After-from-2) → to_z w128 (read c) ≡ pos (read c)
cell_z c = to_z_pos w128 (read c) (let h = small c in omega (arith, h))

difference : (c : goal.After-from-2) → to_z w128 (of_z w128 (to_z w128 (of_z w128 c.from.result) *ℤ to_z w128 (of_z w128 c.from-2.result))) -ℤ to_z w128 (read c) ≡ pos c.args.scale *ℤ c.from-2.result -ℤ pos (read c)
difference c = ap (λ x. x -ℤ to_z w128 (read c)) (here c).product ∙ ap (λ x. pos c.args.scale *ℤ c.from-2.result -ℤ x) (cell_z c)

pub overflow_cast-result : goal.overflow_cast-result
overflow_cast-result c = let h = small c in omega (arith, h)

pub overflow_sub-result : goal.overflow_sub-result
overflow_sub-result c = subst (λ x. FitsSigned w128 x) (sym (difference c)) (here c).fits

whole : (c : goal.After-from-2) → to_z w128 (of_z w128 (to_z w128 (of_z w128 (to_z w128 (of_z w128 c.from.result) *ℤ to_z w128 (of_z w128 c.from-2.result))) -ℤ to_z w128 (read c))) ≡ pos c.args.scale *ℤ c.from-2.result -ℤ pos (read c)
whole c = ap (λ x. to_z w128 (of_z w128 x)) (difference c) ∙ to_z-of_z w128 _ (here c).fits

pub returns-clause-value : goal.returns-clause-value
returns-clause-value c =
    let fit : FitsSigned w64 c.at.result = search rules in
    let value : c.from-2.result ≡ entry c.args.weights.now c.args.a c.args.b = c.from-2.ensures ∙ to_z-of_z w64 c.at.result fit ∙ c.at.ensures in
    whole c ∙ ap (λ x. pos c.args.scale *ℤ x -ℤ pos (read c)) value ∙ ap (λ (k : ℕ). pos c.args.scale *ℤ entry c.args.weights.now c.args.a c.args.b -ℤ pos k) (read_is c)

pub returns-clause-low : goal.returns-clause-low
returns-clause-low c = subst (λ x. neg_ℤ (pos (2 ^ 80)) ≤ℤ x) (sym (whole c)) (here c).low

pub returns-clause-high : goal.returns-clause-high
returns-clause-high c = subst (λ x. x ≤ℤ pos (2 ^ 80)) (sym (whole c)) (here c).high
