-- Each step of packing lowers the Lagrangian value by the cycle's multiplier, so what packing leaves shows the packing bound.
use Rattle.std.proofs.Common.{◌≡◌, ◌≢◌, ℕ, zero, suc, ◌+◌, ◌-◌, ◌*◌, ◌<◌, ◌≤◌, Bool, true, false, cond, eqb, ltb, ◌&&◌, ◌||◌, List, [], ◌∷◌, ◌++◌, length, refl, sym, ◌∙◌, ap, inl, inr, Option, Some, None, ℤ, pos, ◌+ℤ◌, ◌-ℤ◌, ◌*ℤ◌, ◌≤ℤ◌, subst, arith}
use Rattle.std.specs.Prelude.{⊤}
use Rattle.std.specs.List.{All, sum_by}
use Rattle.std.specs.Int.{int_max}
use Rattle.std.proofs.Math.IntN.{suc_ℤ-*ℤ, zero-*ℤ}
use Rattle.std.proofs.lemmas.Int.{ints, clamps}
use Rattle.std.proofs.lemmas.Bool.{cases_lt}
use Rattle.std.proofs.lemmas.Bool.Decides.{nat_tests}
use Rattle.std.proofs.lemmas.List.Sums.{sum_by_push}
use Rattle.lop_model.specs.declared.pair.Pair.{Pair}
use Rattle.lop_model.specs.Sums.{pair_sum}
use Rattle.lop_model.specs.Order.{IsOrder}
use Rattle.lop_model.specs.Matrix.{Matrix, weight}
use Rattle.lop_model.specs.Fixings.{has_pair, IsLinearExtension}
use Rattle.lop_model.specs.Bound.{pair_value, pair_bound}
use Rattle.lop_model.proofs.SumLemmas.{pair_sum-same, pair_sum-add, pair_sum-one}
use Rattle.lop_cuts.specs.Arcs.{cycle_arcs}
use Rattle.lop_cuts.specs.Kind.{IsCut, right_side_of}
use Rattle.lop_cuts.specs.Lagrangian.{Term, right_sides, reduced_entry, lagrangian_value}
use Rattle.lop_cuts.proofs.LagrangianLemmas.{lagrangian_value-plain, weight-le-lagrangian_value, AreValid-AreCuts}
use Rattle.lop_leaf.specs.Record.{ScaledTerms}
use Rattle.lop_leaf.specs.Bound.{record_value}
use Rattle.lop_leaf.specs.Packing.{positive_part, residual, lesser, residual_number, cycle_residual, dicycle, pack_cycle, pack_triple, pack_pair, pack_object, packed_terms, packing_bound, in_turn, AreThree}
use Rattle.lop_leaf.proofs.ResidualLemmas.{part-positive, residual_of, arc_cases, one_way, reduced-dicycle}

-- ---- residuals of at least m

-- m is within the residual
abbrev IsWithin : ℕ → Option ℕ → Type 0
IsWithin m None = ⊤
IsWithin m (Some k) = m ≤ k

within_each : (A B D : Option ℕ) (m : ℕ) → residual_number (lesser A (lesser B D)) ≡ m → 0 < m → IsWithin m A × IsWithin m B × IsWithin m D
within_each (Some a) (Some b) (Some d) m e h = (omega arith, omega arith, omega arith)
within_each (Some a) (Some b) None m e h = (omega arith, omega arith, tt)
within_each (Some a) None (Some d) m e h = (omega arith, tt, omega arith)
within_each (Some a) None None m e h = (omega arith, tt, tt)
within_each None (Some b) (Some d) m e h = (tt, omega arith, omega arith)
within_each None (Some b) None m e h = (tt, omega arith, tt)
within_each None None (Some d) m e h = (tt, tt, omega arith)
within_each None None None m e h = absurd (omega arith)

part_more : (x : ℤ) (m : ℕ) → 0 < m → m ≤ positive_part x → pos m ≤ℤ x
part_more x m h l = let is : x ≡ pos (positive_part x) = part-positive x (positive_part x) refl (omega arith) in omega (arith, ints)

-- ---- what a pair of objects loses

free_first : (u v : ℤ) (m : ℕ) → 0 < m → m ≤ positive_part (u -ℤ v) → int_max u v ≡ int_max (u -ℤ pos m) (v -ℤ pos 0) +ℤ pos (m + 0)
free_first u v m h l = let more : pos m ≤ℤ (u -ℤ v) = part_more (u -ℤ v) m h l in omega (arith, ints, clamps)

free_second : (u v : ℤ) (m : ℕ) → 0 < m → m ≤ positive_part (v -ℤ u) → int_max u v ≡ int_max (u -ℤ pos 0) (v -ℤ pos m) +ℤ pos (0 + m)
free_second u v m h l = let more : pos m ≤ℤ (v -ℤ u) = part_more (v -ℤ u) m h l in omega (arith, ints, clamps)

nothing_lost : (x : ℤ) → x ≡ (x -ℤ pos 0) +ℤ pos (0 + 0)
nothing_lost x = omega (arith, ints)

first_lost : (x : ℤ) (m : ℕ) → x ≡ (x -ℤ pos m) +ℤ pos (m + 0)
first_lost x m = omega (arith, ints)

second_lost : (x : ℤ) (m : ℕ) → x ≡ (x -ℤ pos m) +ℤ pos (0 + m)
second_lost x m = omega (arith, ints)

none_lost_free : (u v : ℤ) → int_max u v ≡ int_max (u -ℤ pos 0) (v -ℤ pos 0) +ℤ pos (0 + 0)
none_lost_free u v = omega (arith, ints, clamps)

value_step : (g h p q : Bool) (u v : ℤ) (m : ℕ) → 0 < m → (p ≡ true → IsWithin m (residual_of g h (u -ℤ v))) → (q ≡ true → IsWithin m (residual_of h g (v -ℤ u))) → (p ≡ true → q ≡ true → ⊥)
    → cond h u (cond g v (int_max u v)) ≡ cond h (u -ℤ pos (cond p m 0)) (cond g (v -ℤ pos (cond q m 0)) (int_max (u -ℤ pos (cond p m 0)) (v -ℤ pos (cond q m 0)))) +ℤ pos (cond p m 0 + cond q m 0)
value_step g h true true u v m z k l o = absurd (o refl refl)
value_step true h true false u v m z k l o = let most : m ≤ 0 = k refl in absurd (omega arith)
value_step false true true false u v m z k l o = first_lost u m
value_step false false true false u v m z k l o = free_first u v m z (k refl)
value_step g true false true u v m z k l o = let most : m ≤ 0 = l refl in absurd (omega arith)
value_step true false false true u v m z k l o = second_lost v m
value_step false false false true u v m z k l o = free_second u v m z (l refl)
value_step g true false false u v m z k l o = nothing_lost u
value_step true false false false u v m z k l o = nothing_lost v
value_step false false false false u v m z k l o = none_lost_free u v

-- ---- how often the pairs of objects meet the arcs

-- m where the pair i, j is the arc from a to b or its reverse
arc_hit : ℕ → ℕ → ℕ → ℕ → ℕ → ℤ
arc_hit a b m i j = pos (cond (eqb a i && eqb b j) m 0 + cond (eqb a j && eqb b i) m 0)

missed : (a b m i j : ℕ) → (a ≡ i → b ≡ j → ⊥) → (a ≡ j → b ≡ i → ⊥) → arc_hit a b m i j ≡ pos 0
unfolding arc_hit
missed a b m i j h k =
    let f : (eqb a i && eqb b j) ≡ false = grind (arith, nat_tests) in
    let g : (eqb a j && eqb b i) ≡ false = grind (arith, nat_tests) in
    rw (f, g) refl

hit_forth : (a b m : ℕ) → a < b → arc_hit a b m a b ≡ pos m
unfolding arc_hit
hit_forth a b m l =
    let f : (eqb a a && eqb b b) ≡ true = grind (arith, nat_tests) in
    let g : (eqb a b && eqb b a) ≡ false = grind (arith, nat_tests) in
    rw (f, g) (omega (arith, ints))

hit_back : (a b m : ℕ) → b < a → arc_hit a b m b a ≡ pos m
unfolding arc_hit
hit_back a b m l =
    let f : (eqb a b && eqb b a) ≡ false = grind (arith, nat_tests) in
    let g : (eqb a a && eqb b b) ≡ true = grind (arith, nat_tests) in
    rw (f, g) (omega (arith, ints))

one_hit : (n a b m : ℕ) → a < n → b < n → a ≢ b → pair_sum n (arc_hit a b m) ≡ pos m
one_hit n a b m la lb differ = elim (cases_lt a b) [
  | inl before ↦
      pair_sum-one n a b (arc_hit a b m) before lb (λ i j l k other. missed a b m i j (λ e f. elim other [ inl ne ↦ ne (sym e) | inr ne ↦ ne (sym f) ]) (λ e f. absurd (omega arith)))
      ∙ hit_forth a b m before
  | inr after ↦
      pair_sum-one n b a (arc_hit a b m) (omega arith) la (λ i j l k other. missed a b m i j (λ e f. absurd (omega arith)) (λ e f. elim other [ inl ne ↦ ne (sym f) | inr ne ↦ ne (sym e) ]))
      ∙ hit_back a b m (omega arith)
]

split_three : (p q s : Bool) (m : ℕ) → (p ≡ true → q ≡ true → ⊥) → (q ≡ true → s ≡ true → ⊥) → (p ≡ true → s ≡ true → ⊥) → cond (p || (q || (s || false))) m 0 ≡ cond p m 0 + (cond q m 0 + cond s m 0)
split_three true true s m pq qs ps = absurd (pq refl refl)
split_three true false true m pq qs ps = absurd (ps refl refl)
split_three true false false m pq qs ps = omega arith
split_three false true true m pq qs ps = absurd (qs refl refl)
split_three false true false m pq qs ps = omega arith
split_three false false true m pq qs ps = omega arith
split_three false false false m pq qs ps = omega arith

apart : (a b c d i j : ℕ) → (a ≡ c → ⊥) → (eqb a i && eqb b j) ≡ true → (eqb c i && eqb d j) ≡ true → ⊥
apart a b c d i j h e f = grind (arith, nat_tests)

split_arcs : (n a b c m i j : ℕ) → AreThree n a b c → cond (has_pair (cycle_arcs (a ∷ b ∷ c ∷ [])) i j) m 0 ≡ cond (eqb a i && eqb b j) m 0 + (cond (eqb b i && eqb c j) m 0 + cond (eqb c i && eqb a j) m 0)
split_arcs n a b c m i j three = split_three (eqb a i && eqb b j) (eqb b i && eqb c j) (eqb c i && eqb a j) m (apart a b b c i j three.first_second) (apart b c c a i j three.second_third) (apart a b c a i j three.first_third)

regroup : (x y z u v w x' : ℕ) (y' : ℕ) → x' ≡ x + (y + z) → y' ≡ u + (v + w) → pos (x' + y') ≡ pos (x + u) +ℤ (pos (y + v) +ℤ pos (z + w))
regroup x y z u v w x' y' e f = omega (arith, ints)

cycle_hit : (n a b c m i j : ℕ) → AreThree n a b c → pos (cond (has_pair (cycle_arcs (a ∷ b ∷ c ∷ [])) i j) m 0 + cond (has_pair (cycle_arcs (a ∷ b ∷ c ∷ [])) j i) m 0) ≡ arc_hit a b m i j +ℤ (arc_hit b c m i j +ℤ arc_hit c a m i j)
unfolding arc_hit
cycle_hit n a b c m i j three =
    regroup (cond (eqb a i && eqb b j) m 0) (cond (eqb b i && eqb c j) m 0) (cond (eqb c i && eqb a j) m 0) (cond (eqb a j && eqb b i) m 0) (cond (eqb b j && eqb c i) m 0) (cond (eqb c j && eqb a i) m 0) _ _
    (split_arcs n a b c m i j three) (split_arcs n a b c m j i three)

-- the arcs of a cycle are met three times
three_hits : (n a b c m : ℕ) → AreThree n a b c → pair_sum n (λ i j. pos (cond (has_pair (cycle_arcs (a ∷ b ∷ c ∷ [])) i j) m 0 + cond (has_pair (cycle_arcs (a ∷ b ∷ c ∷ [])) j i) m 0)) ≡ pos m +ℤ (pos m +ℤ pos m)
three_hits n a b c m three =
    pair_sum-same n (λ i j. pos (cond (has_pair (cycle_arcs (a ∷ b ∷ c ∷ [])) i j) m 0 + cond (has_pair (cycle_arcs (a ∷ b ∷ c ∷ [])) j i) m 0)) (λ i j. arc_hit a b m i j +ℤ (arc_hit b c m i j +ℤ arc_hit c a m i j)) (λ i j _ _. cycle_hit n a b c m i j three)
    ∙ pair_sum-add n (arc_hit a b m) (λ i j. arc_hit b c m i j +ℤ arc_hit c a m i j)
    ∙ ap (λ x. pair_sum n (arc_hit a b m) +ℤ x) (pair_sum-add n (arc_hit b c m) (arc_hit c a m))
    ∙ ap (λ x. x +ℤ (pair_sum n (arc_hit b c m) +ℤ pair_sum n (arc_hit c a m))) (one_hit n a b m three.first three.second three.first_second)
    ∙ ap (λ x. pos m +ℤ (x +ℤ pair_sum n (arc_hit c a m))) (one_hit n b c m three.second three.third three.second_third)
    ∙ ap (λ x. pos m +ℤ (pos m +ℤ x)) (one_hit n c a m three.third three.first (λ e. three.first_third (sym e)))

-- ---- one step

within_arc : (G : List Pair) (r : ℕ → ℕ → ℤ) (a b c x y m : ℕ) → IsWithin m (residual G r a b) → IsWithin m (residual G r b c) → IsWithin m (residual G r c a) → has_pair (cycle_arcs (a ∷ b ∷ c ∷ [])) x y ≡ true → IsWithin m (residual G r x y)
within_arc G r a b c x y m h k l e = elim (arc_cases a b c x y e) [
  | inl p ↦ moved a b x y p.0 p.1 h
  | inr rest ↦ elim rest [ inl p ↦ moved b c x y p.0 p.1 k | inr p ↦ moved c a x y p.0 p.1 l ]
]
  where
    moved : (a b x y : ℕ) → a ≡ x → b ≡ y → IsWithin m (residual G r a b) → IsWithin m (residual G r x y)
    moved a b x y e f w = let P : ℕ → Type 0 = λ z. IsWithin m (residual G r z b) in let Q : ℕ → Type 0 = λ z. IsWithin m (residual G r x z) in subst Q f (subst P e w)

lowered_sum : (rs rs' m : ℕ) (s s' : ℤ) → rs' ≡ rs + m * 2 → s ≡ s' +ℤ (pos m +ℤ (pos m +ℤ pos m)) → (pos rs' +ℤ s') +ℤ pos m ≡ pos rs +ℤ s
lowered_sum rs rs' m s s' e f = omega (arith, ints)

-- one more cycle with its least residual lowers the Lagrangian value by that
pub lagrangian_value-dicycle : (C : Matrix) (G : List Pair) (terms : List Term) (a b c m : ℕ) → AreThree C.size a b c → cycle_residual G (reduced_entry C 1 terms) a b c ≡ m → 0 < m → lagrangian_value C G 1 (terms ++ dicycle a b c m ∷ []) +ℤ pos m ≡ lagrangian_value C G 1 terms
lagrangian_value-dicycle C G terms a b c m three e h =
    let r : ℕ → ℕ → ℤ = reduced_entry C 1 terms in
    let r' : ℕ → ℕ → ℤ = reduced_entry C 1 (terms ++ dicycle a b c m ∷ []) in
    let arcs = cycle_arcs (a ∷ b ∷ c ∷ []) in
    let lost : ℕ → ℕ → ℤ = λ i j. pos (cond (has_pair arcs i j) m 0 + cond (has_pair arcs j i) m 0) in
    let within = within_each (residual G r a b) (residual G r b c) (residual G r c a) m e h in
    let at : (i j : ℕ) → pair_value G r i j ≡ pair_value G r' i j +ℤ lost i j = λ i j.
    value_step (has_pair G j i) (has_pair G i j) (has_pair arcs i j) (has_pair arcs j i) (r i j) (r j i) m h
    (within_arc G r a b c i j m within.0 within.1 within.2) (within_arc G r a b c j i m within.0 within.1 within.2) (one_way C.size a b c i j three)
    ∙ ap (λ (x : ℤ). cond (has_pair G i j) x (cond (has_pair G j i) (r j i -ℤ pos (cond (has_pair arcs j i) m 0)) (int_max x (r j i -ℤ pos (cond (has_pair arcs j i) m 0)))) +ℤ lost i j) (sym (reduced-dicycle C terms a b c m i j))
    ∙ ap (λ (y : ℤ). cond (has_pair G i j) (r' i j) (cond (has_pair G j i) y (int_max (r' i j) y)) +ℤ lost i j) (sym (reduced-dicycle C terms a b c m j i)) in
    let values : pair_sum C.size (pair_value G r) ≡ pair_sum C.size (pair_value G r') +ℤ (pos m +ℤ (pos m +ℤ pos m)) =
    pair_sum-same C.size (pair_value G r) (λ i j. pair_value G r' i j +ℤ lost i j) (λ i j _ _. at i j)
    ∙ pair_sum-add C.size (pair_value G r') lost
    ∙ ap (λ x. pair_sum C.size (pair_value G r') +ℤ x) (three_hits C.size a b c m three) in
    let sides : right_sides (terms ++ dicycle a b c m ∷ []) ≡ right_sides terms + m * 2 = sum_by_push (λ t. t.multiplier * right_side_of t.cut) terms (dicycle a b c m) in
    lowered_sum (right_sides terms) (right_sides (terms ++ dicycle a b c m ∷ [])) m (pair_sum C.size (pair_value G r)) (pair_sum C.size (pair_value G r')) sides values

-- ---- all steps

-- the Lagrangian value and what the cycles took are the pair bound
IsLowered : Matrix → List Pair → List Term → Type 0
IsLowered C G terms = lagrangian_value C G 1 terms +ℤ pos (sum_by (λ t. t.multiplier) terms) ≡ pair_bound C G

cond_keeps : {X : Type 0} (P : X → Type 0) (p q : Bool) (x y : X) → (p ≡ true → P x) → P y → P (cond (p && q) x y)
cond_keeps P true true x y h k = h refl
cond_keeps P true false x y h k = k
cond_keeps P false q x y h k = k

positive_test : (m : ℕ) → ltb 0 m ≡ true → 0 < m
positive_test m e = grind (arith, nat_tests)

balance : (v v' : ℤ) (k m k' : ℕ) (b : ℤ) → v' +ℤ pos m ≡ v → k' ≡ k + m → v +ℤ pos k ≡ b → v' +ℤ pos k' ≡ b
balance v v' k m k' b e f g = omega (arith, ints)

cycle_keeps : (C : Matrix) (G : List Pair) (a b c : ℕ) (terms : List Term) → AreThree C.size a b c → IsLowered C G terms → IsLowered C G (pack_cycle C G a b c terms)
unfolding IsLowered
cycle_keeps C G a b c terms three is =
    let m = cycle_residual G (reduced_entry C 1 terms) a b c in
    cond_keeps (λ (ts : List Term). lagrangian_value C G 1 ts +ℤ pos (sum_by (λ t. t.multiplier) ts) ≡ pair_bound C G) (ltb 0 m) (ltb (length terms) 4096) (terms ++ dicycle a b c m ∷ []) terms
    (λ t. balance (lagrangian_value C G 1 terms) (lagrangian_value C G 1 (terms ++ dicycle a b c m ∷ [])) (sum_by (λ u. u.multiplier) terms) m (sum_by (λ u. u.multiplier) (terms ++ dicycle a b c m ∷ [])) (pair_bound C G)
    (lagrangian_value-dicycle C G terms a b c m three refl (positive_test m t)) (sum_by_push (λ u. u.multiplier) terms (dicycle a b c m)) is)
    is

triple_keeps : (C : Matrix) (G : List Pair) (i j k : ℕ) (terms : List Term) → i < j → j < k → k < C.size → IsLowered C G terms → IsLowered C G (pack_triple C G i j k terms)
triple_keeps C G i j k terms l m n is =
    let one : AreThree C.size i j k = record { first = omega arith; second = omega arith; third = n; first_second = omega arith; second_third = omega arith; first_third = omega arith } in
    let two : AreThree C.size i k j = record { first = omega arith; second = n; third = omega arith; first_second = omega arith; second_third = omega arith; first_third = omega arith } in
    cycle_keeps C G i k j (pack_cycle C G i j k terms) two (cycle_keeps C G i j k terms one is)

pub in_turn-keeps : {X : Type 0} (P : X → Type 0) (a count : ℕ) (step : ℕ → X → X) (x : X) → ((k : ℕ) (y : X) → a ≤ k → k < a + count → P y → P (step k y)) → P x → P (in_turn a count step x)
in_turn-keeps P a zero step x h is = is
in_turn-keeps P a (suc count) step x h is = h (a + count) (in_turn a count step x) (omega arith) (omega arith) (in_turn-keeps P a count step x (λ k y l m. h k y l (omega arith)) is)

pair_keeps : (C : Matrix) (G : List Pair) (i j : ℕ) (terms : List Term) → i < j → j < C.size → IsLowered C G terms → IsLowered C G (pack_pair C G i j terms)
pair_keeps C G i j terms l m is = in_turn-keeps (IsLowered C G) (j + 1) (C.size - (j + 1)) (pack_triple C G i j) terms (λ k y p q. triple_keeps C G i j k y l (omega arith) (omega arith)) is

object_keeps : (C : Matrix) (G : List Pair) (i : ℕ) (terms : List Term) → i < C.size → IsLowered C G terms → IsLowered C G (pack_object C G i terms)
object_keeps C G i terms l is = in_turn-keeps (IsLowered C G) (i + 1) (C.size - (i + 1)) (pack_pair C G i) terms (λ j y p q. pair_keeps C G i j y (omega arith) (omega arith)) is

start : (v b : ℤ) → v ≡ b → v +ℤ pos 0 ≡ b
start v b e = omega (arith, ints)

none_lowered : (C : Matrix) (G : List Pair) → IsLowered C G []
unfolding IsLowered
none_lowered C G = start (lagrangian_value C G 1 []) (pair_bound C G) (lagrangian_value-plain C G)

all_lowered : (C : Matrix) (G : List Pair) → IsLowered C G (packed_terms C G)
all_lowered C G = in_turn-keeps (IsLowered C G) 0 C.size (pack_object C G) [] (λ i y p q. object_keeps C G i y (omega arith)) (none_lowered C G)

taken_away : (v b : ℤ) (k : ℕ) → v +ℤ pos k ≡ b → v ≡ b -ℤ pos k
taken_away v b k e = omega (arith, ints)

-- what packing leaves shows the packing bound
pub packing_bound-shown : (C : Matrix) (G : List Pair) → lagrangian_value C G 1 (packed_terms C G) ≡ packing_bound C G
unfolding IsLowered
packing_bound-shown C G = taken_away (lagrangian_value C G 1 (packed_terms C G)) (pair_bound C G) (sum_by (λ t. t.multiplier) (packed_terms C G)) (all_lowered C G)

less_at_most : (b : ℤ) (k : ℕ) → (b -ℤ pos k) ≤ℤ b
less_at_most b k = omega (arith, ints)

-- it is at most the pair bound
pub packing_bound-le : (C : Matrix) (G : List Pair) → packing_bound C G ≤ℤ pair_bound C G
packing_bound-le C G = less_at_most (pair_bound C G) (sum_by (λ t. t.multiplier) (packed_terms C G))

-- ---- what a record at scale 1 bounds

once : (x : ℤ) → pos 1 *ℤ x ≡ x
once x =
    let one : pos 1 *ℤ x ≡ pos 0 *ℤ x +ℤ x = suc_ℤ-*ℤ (pos 0) x in
    omega (arith, ints, zero-*ℤ x)

-- no order that extends the closed pairs weighs more than the value of a record at scale 1
pub record_bounds : (C : Matrix) (G : List Pair) (r : ScaledTerms) (v : ℤ) (s : List ℕ) → r.scale ≡ 1 → IsOrder C.size s → IsLinearExtension s G → All (λ t. IsCut t.cut) r.terms → v ≡ record_value C G r → weight C s ≤ℤ v
record_bounds C G r v s scale order extends cuts is =
    let most : (pos 1 *ℤ weight C s) ≤ℤ lagrangian_value C G 1 r.terms = weight-le-lagrangian_value C G 1 r.terms s order extends (AreValid-AreCuts C.size r.terms cuts) in
    let value : v ≡ lagrangian_value C G 1 r.terms = is ∙ ap (λ k. lagrangian_value C G k r.terms) scale in
    subst (λ x. weight C s ≤ℤ x) (sym value) (subst (λ x. x ≤ℤ lagrangian_value C G 1 r.terms) (once (weight C s)) most)
