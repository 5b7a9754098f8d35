-- No order weighs more than the packing bound with nothing fixed.
use Rattle.std.proofs.Common.{◌≡◌, ◌≢◌, ℕ, ◌+◌, ◌-◌, ◌<◌, Bool, true, false, cond, ltb, ◌&&◌, List, [], ◌∷◌, ◌++◌, length, refl, subst, arith, ℤ, pos, ◌+ℤ◌, ◌*ℤ◌, ◌≤ℤ◌}
use Rattle.std.specs.Prelude.{All, nat_eq}
use Rattle.std.specs.List.{IsDistinct}
use Rattle.std.proofs.Math.IntN.{suc_ℤ-*ℤ, zero-*ℤ}
use Rattle.std.proofs.lemmas.Int.{ints}
use Rattle.std.proofs.lemmas.Bool.Decides.{nat_tests}
use Rattle.std.proofs.lemmas.List.Elements.{All-nil, All-push}
use Rattle.lop_model.specs.declared.pair.Pair.{Pair}
use Rattle.lop_model.specs.Order.{IsOrder}
use Rattle.lop_model.specs.Matrix.{Matrix, weight}
use Rattle.lop_model.proofs.BoundLemmas.{IsLinearExtension-none}
use Rattle.lop_cuts.specs.Kind.{IsCut}
use Rattle.lop_cuts.specs.Lagrangian.{Term, reduced_entry, lagrangian_value}
use Rattle.lop_cuts.proofs.LagrangianLemmas.{AreValid-AreCuts, weight-le-lagrangian_value}
use Rattle.lop_leaf.specs.Packing.{cycle_residual, dicycle, pack_cycle, pack_triple, pack_pair, pack_object, packed_terms, packing_bound}
use Rattle.lop_leaf.proofs.PackingValue.{in_turn-keeps, packing_bound-shown}

-- each term's cut is one
abbrev AreCuts : List Term → Type 0
AreCuts terms = All (λ t. IsCut t.cut) terms

differ : (x y : ℕ) → x ≢ y → nat_eq x y ≡ false
differ x y h = grind (arith, nat_tests)

three_distinct : (a b c : ℕ) → a ≢ b → b ≢ c → a ≢ c → IsDistinct nat_eq (a ∷ b ∷ c ∷ [])
unfolding IsDistinct
three_distinct a b c ab bc ac = ((differ a b ab, (differ a c ac, tt)), ((differ b c bc, tt), (tt, tt)))

cond_keeps : {X : Type 0} (P : X → Type 0) (p q : Bool) (x y : X) → P x → P y → P (cond (p && q) x y)
cond_keeps P true true x y h k = h
cond_keeps P true false x y h k = k
cond_keeps P false q x y h k = k

cycle_cuts : (C : Matrix) (G : List Pair) (a b c : ℕ) (terms : List Term) → a ≢ b → b ≢ c → a ≢ c → AreCuts terms → AreCuts (pack_cycle C G a b c terms)
cycle_cuts C G a b c terms ab bc ac is =
    let m = cycle_residual G (reduced_entry C 1 terms) a b c in
    cond_keeps AreCuts (ltb 0 m) (ltb (length terms) 4096) (terms ++ dicycle a b c m ∷ []) terms
    (All-push (λ (t : Term). IsCut t.cut) terms (dicycle a b c m) is (record { size = refl; distinct = three_distinct a b c ab bc ac })) is

triple_cuts : (C : Matrix) (G : List Pair) (i j k : ℕ) (terms : List Term) → i < j → j < k → AreCuts terms → AreCuts (pack_triple C G i j k terms)
triple_cuts C G i j k terms l m is =
    cycle_cuts C G i k j (pack_cycle C G i j k terms) (λ e. omega arith) (λ e. omega arith) (λ e. omega arith) (cycle_cuts C G i j k terms (λ e. omega arith) (λ e. omega arith) (λ e. omega arith) is)

pair_cuts : (C : Matrix) (G : List Pair) (i j : ℕ) (terms : List Term) → i < j → AreCuts terms → AreCuts (pack_pair C G i j terms)
pair_cuts C G i j terms l is = in_turn-keeps AreCuts (j + 1) (C.size - (j + 1)) (pack_triple C G i j) terms (λ k y p q. triple_cuts C G i j k y l (omega arith)) is

object_cuts : (C : Matrix) (G : List Pair) (i : ℕ) (terms : List Term) → AreCuts terms → AreCuts (pack_object C G i terms)
object_cuts C G i terms is = in_turn-keeps AreCuts (i + 1) (C.size - (i + 1)) (pack_pair C G i) terms (λ j y p q. pair_cuts C G i j y (omega arith)) is

packed_cuts : (C : Matrix) (G : List Pair) → AreCuts (packed_terms C G)
packed_cuts C G = in_turn-keeps AreCuts 0 C.size (pack_object C G) [] (λ i y p q. object_cuts C G i y) (All-nil (λ (t : Term). IsCut t.cut))

once : (x : ℤ) → pos 1 *ℤ x ≡ x
once x =
    let one : pos 1 *ℤ x ≡ pos 0 *ℤ x +ℤ x = suc_ℤ-*ℤ (pos 0) x in
    omega (arith, ints, zero-*ℤ x)

pub weight-le-packing_bound : (C : Matrix) (s : List ℕ) → IsOrder C.size s → weight C s ≤ℤ packing_bound C []
weight-le-packing_bound C s o =
    let low : (pos 1 *ℤ weight C s) ≤ℤ lagrangian_value C [] 1 (packed_terms C []) = weight-le-lagrangian_value C [] 1 (packed_terms C []) s o (IsLinearExtension-none s) (AreValid-AreCuts C.size (packed_terms C []) (packed_cuts C [])) in
    subst (λ (x : ℤ). x ≤ℤ packing_bound C []) (once (weight C s)) (subst (λ (y : ℤ). (pos 1 *ℤ weight C s) ≤ℤ y) (packing_bound-shown C []) low)
