-- Residuals in words of 64 bits, and what a step of packing makes of them.
use Rattle.std.proofs.Common.{◌≡◌, ◌⊎◌, ℕ, ◌+◌, ◌-◌, ◌^◌, ◌<◌, ◌≤◌, min, Bool, true, false, cond, eqb, ltb, ◌&&◌, ◌||◌, List, [], ◌∷◌, ◌++◌, length, refl, sym, ◌∙◌, ap, inl, inr, Option, Some, None, ℤ, pos, negsuc, ◌-ℤ◌, ◌*ℤ◌, ◌≤ℤ◌, arith}
use Rattle.std.proofs.lemmas.Int.{ints, by_lt_z}
use Rattle.std.proofs.lemmas.Bool.Decides.{nat_tests}
use Rattle.std.proofs.lemmas.List.Sums.{sum_by_push}
use Rattle.lop_model.specs.declared.pair.Pair.{Pair}
use Rattle.lop_model.specs.Matrix.{Matrix, entry}
use Rattle.lop_model.specs.Fixings.{has_pair, one_pair, pair_then}
use Rattle.lop_cuts.specs.Arcs.{cycle_arcs}
use Rattle.lop_cuts.specs.Kind.{arcs_of}
use Rattle.lop_cuts.specs.Lagrangian.{Term, charge, reduced_entry}
use Rattle.lop_fix.specs.PartialOrder.{IsPartialOrder}
use Rattle.lop_leaf.specs.Packing.{positive_part, residual, lesser, residual_number, cycle_residual, dicycle, pack_cycle, AreThree}
use Rattle.lop_leaf.specs.Table.{IsResidualWord, lowered}

-- ---- positive parts

pub part-from_zero : (x : ℤ) → pos 0 ≤ℤ x → pos (positive_part x) ≡ x
part-from_zero (pos n) h = refl
part-from_zero (negsuc n) h = absurd (omega (arith, ints))

pub part-to_zero : (x : ℤ) → x ≤ℤ pos 0 → positive_part x ≡ 0
part-to_zero (pos n) h = omega (arith, ints)
part-to_zero (negsuc n) h = refl

pub part-is : (x : ℤ) (k : ℕ) → x ≡ pos k → positive_part x ≡ k
part-is x k e = ap positive_part e

-- what has a positive part is that part
pub part-positive : (x : ℤ) (w : ℕ) → w ≡ positive_part x → 0 < w → x ≡ pos w
part-positive x w e h = by_lt_z (pos 0) x
    (λ l. let is : pos (positive_part x) ≡ x = part-from_zero x (omega (arith, ints)) in sym (ap pos e ∙ is))
    (λ l. let none : positive_part x ≡ 0 = part-to_zero x l in absurd (omega arith))

-- ---- words

abbrev pub residual_of : Bool → Bool → ℤ → Option ℕ
residual_of g h d = cond g (Some 0) (cond h None (Some (positive_part d)))

pub lowered-limited : (w m : ℕ) → w < 2 ^ 62 → lowered w m ≡ w - m
lowered-limited w m l = let test : eqb w (2 ^ 63 - 1) ≡ false = grind (arith, nat_tests) in rw test refl

lowered-free : (w m : ℕ) → w ≡ 2 ^ 63 - 1 → lowered w m ≡ w
lowered-free w m e = let test : eqb w (2 ^ 63 - 1) ≡ true = grind (arith, nat_tests) in rw test refl

-- nothing stays nothing
pub lowered-zero : (p : Bool) (w m : ℕ) → w ≡ 0 → cond p (lowered w m) w ≡ 0
lowered-zero true w m e = lowered-limited w m (omega arith) ∙ omega arith
lowered-zero false w m e = e

lowered_arc : (u v : ℤ) (w m : ℕ) → w ≡ positive_part (u -ℤ v) → w < 2 ^ 62 → 0 < m → m ≤ w → IsResidualWord (Some (positive_part ((u -ℤ pos m) -ℤ (v -ℤ pos 0)))) (lowered w m)
lowered_arc u v w m e l h k =
    let is : u -ℤ v ≡ pos w = part-positive (u -ℤ v) w e (omega arith) in
    let left : positive_part ((u -ℤ pos m) -ℤ (v -ℤ pos 0)) ≡ w - m = part-is ((u -ℤ pos m) -ℤ (v -ℤ pos 0)) (w - m) (omega (arith, ints)) in
    (lowered-limited w m l ∙ sym left, omega (arith, left))

raised_reverse : (u v : ℤ) (w w2 m : ℕ) → w ≡ positive_part (u -ℤ v) → w2 ≡ positive_part (v -ℤ u) → 0 < m → m ≤ w2 → IsResidualWord (Some (positive_part ((u -ℤ pos 0) -ℤ (v -ℤ pos m)))) w
raised_reverse u v w w2 m e f h k =
    let is : v -ℤ u ≡ pos w2 = part-positive (v -ℤ u) w2 f (omega arith) in
    let before : positive_part (u -ℤ v) ≡ 0 = part-to_zero (u -ℤ v) (omega (arith, ints)) in
    let after : positive_part ((u -ℤ pos 0) -ℤ (v -ℤ pos m)) ≡ 0 = part-to_zero ((u -ℤ pos 0) -ℤ (v -ℤ pos m)) (omega (arith, ints)) in
    (e ∙ before ∙ sym after, omega (arith, after))

unchanged : (u v : ℤ) (w : ℕ) → w ≡ positive_part (u -ℤ v) → w < 2 ^ 62 → IsResidualWord (Some (positive_part ((u -ℤ pos 0) -ℤ (v -ℤ pos 0)))) w
unchanged u v w e l =
    let same : (u -ℤ pos 0) -ℤ (v -ℤ pos 0) ≡ u -ℤ v = omega (arith, ints) in
    let part : positive_part ((u -ℤ pos 0) -ℤ (v -ℤ pos 0)) ≡ positive_part (u -ℤ v) = ap positive_part same in
    (e ∙ sym part, omega (arith, part, e))

-- the word of an arc after m has been taken off the arcs of a cycle: p says that it is one of them, q that its reverse is
pub word_step : (g h p q : Bool) (u v : ℤ) (w w2 m : ℕ) → IsResidualWord (residual_of g h (u -ℤ v)) w → IsResidualWord (residual_of h g (v -ℤ u)) w2 → 0 < m → (p ≡ true → m ≤ w) → (q ≡ true → m ≤ w2) → (p ≡ true → q ≡ true → ⊥)
    → IsResidualWord (residual_of g h ((u -ℤ pos (cond p m 0)) -ℤ (v -ℤ pos (cond q m 0)))) (cond p (lowered w m) w)
word_step true h true q u v w w2 m e f z k l o = let most : m ≤ w = k refl in absurd (omega (arith, e.0))
word_step true h false q u v w w2 m e f z k l o = e
word_step false true true q u v w w2 m e f z k l o = lowered-free w m e ∙ e
word_step false true false q u v w w2 m e f z k l o = e
word_step false false true true u v w w2 m e f z k l o = absurd (o refl refl)
word_step false false true false u v w w2 m e f z k l o = lowered_arc u v w m e.0 (omega (arith, e.0, e.1)) z (k refl)
word_step false false false true u v w w2 m e f z k l o = raised_reverse u v w w2 m e.0 f.0 z (l refl)
word_step false false false false u v w w2 m e f z k l o = unchanged u v w e.0 (omega (arith, e.0, e.1))

-- ---- the least of three

-- the least residual of a cycle, where not all are without limit, is the least of the words
pub least_word : (A B D : Option ℕ) (x y z : ℕ) → IsResidualWord A x → IsResidualWord B y → IsResidualWord D z → (A ≡ None → B ≡ None → D ≡ None → ⊥) → (residual_number (lesser A (lesser B D)) ≡ min x (min y z)) × (min x (min y z) < 2 ^ 62)
least_word (Some a) (Some b) (Some d) x y z e f g o = (omega (arith, e.0, f.0, g.0), omega (arith, e.0, e.1, f.0, g.0))
least_word (Some a) (Some b) None x y z e f g o = (omega (arith, e.0, e.1, f.0, f.1, g), omega (arith, e.0, e.1, f.0, g))
least_word (Some a) None (Some d) x y z e f g o = (omega (arith, e.0, e.1, f, g.0, g.1), omega (arith, e.0, e.1, f, g.0))
least_word (Some a) None None x y z e f g o = (omega (arith, e.0, e.1, f, g), omega (arith, e.0, e.1, f, g))
least_word None (Some b) (Some d) x y z e f g o = (omega (arith, e, f.0, f.1, g.0, g.1), omega (arith, e, f.0, f.1, g.0))
least_word None (Some b) None x y z e f g o = (omega (arith, e, f.0, f.1, g), omega (arith, e, f.0, f.1, g))
least_word None None (Some d) x y z e f g o = (omega (arith, e, f, g.0, g.1), omega (arith, e, f, g.0, g.1))
least_word None None None x y z e f g o = absurd (o refl refl refl)

unlimited : (g h : Bool) (d : ℤ) → residual_of g h d ≡ None → h ≡ true
unlimited true h d e = absurd (cc)
unlimited false true d e = refl
unlimited false false d e = absurd (cc)

-- where the pairs have no cycle, the arcs of a cycle don't all have residuals without limit
pub limited : (n : ℕ) (G : List Pair) (r : ℕ → ℕ → ℤ) (a b c : ℕ) → IsPartialOrder (record { size = n; pairs = G }) → residual G r a b ≡ None → residual G r b c ≡ None → residual G r c a ≡ None → ⊥
limited n G r a b c is e f g =
    let ab : has_pair G a b ≡ true = unlimited (has_pair G b a) (has_pair G a b) (r a b -ℤ r b a) e in
    let bc : has_pair G b c ≡ true = unlimited (has_pair G c b) (has_pair G b c) (r b c -ℤ r c b) f in
    let ca : has_pair G c a ≡ true = unlimited (has_pair G a c) (has_pair G c a) (r c a -ℤ r a c) g in
    is.no_cycle a (pair_then ab (pair_then bc (one_pair ca)))

-- ---- arcs of a cycle of three

arc_test : (a b x y : ℕ) → (eqb a x && eqb b y) ≡ true → (a ≡ x) × (b ≡ y)
arc_test a b x y t = grind (arith, nat_tests)

one_of_three : (p q s : Bool) → (p || (q || (s || false))) ≡ true → (p ≡ true) ⊎ ((q ≡ true) ⊎ (s ≡ true))
one_of_three true q s e = inl refl
one_of_three false true s e = inr (inl refl)
one_of_three false false true e = inr (inr refl)
one_of_three false false false e = absurd (cc)

pub arc_cases : (a b c x y : ℕ) → has_pair (cycle_arcs (a ∷ b ∷ c ∷ [])) x y ≡ true → ((a ≡ x) × (b ≡ y)) ⊎ (((b ≡ x) × (c ≡ y)) ⊎ ((c ≡ x) × (a ≡ y)))
arc_cases a b c x y e = elim (one_of_three (eqb a x && eqb b y) (eqb b x && eqb c y) (eqb c x && eqb a y) e) [
  | inl p ↦ inl (arc_test a b x y p)
  | inr rest ↦ elim rest [
    | inl q ↦ inr (inl (arc_test b c x y q))
    | inr s ↦ inr (inr (arc_test c a x y s))
  ]
]

-- no arc of a cycle of three stands in it both ways
pub one_way : (n a b c x y : ℕ) → AreThree n a b c → has_pair (cycle_arcs (a ∷ b ∷ c ∷ [])) x y ≡ true → has_pair (cycle_arcs (a ∷ b ∷ c ∷ [])) y x ≡ true → ⊥
one_way n a b c x y three e f =
    let ab = three.first_second in
    let bc = three.second_third in
    let ac = three.first_third in
    elim (arc_cases a b c x y e) [
      | inl p ↦ elim (arc_cases a b c y x f) [ inl q ↦ ab (q.0 ∙ sym p.1) | inr rest ↦ elim rest [ inl q ↦ ac (p.0 ∙ sym q.1) | inr q ↦ bc (p.1 ∙ sym q.0) ] ]
      | inr rest ↦ elim rest [
        | inl p ↦ elim (arc_cases a b c y x f) [ inl q ↦ ac (q.0 ∙ sym p.1) | inr more ↦ elim more [ inl q ↦ bc (p.0 ∙ sym q.1) | inr q ↦ ab (q.1 ∙ sym p.0) ] ]
        | inr p ↦ elim (arc_cases a b c y x f) [ inl q ↦ bc (q.1 ∙ sym p.0) | inr more ↦ elim more [ inl q ↦ ab (p.1 ∙ sym q.0) | inr q ↦ ac (p.1 ∙ sym q.0) ] ]
      ]
    ]

-- ---- one more dicycle

-- its multiplier is charged at its arcs
pub charge-dicycle : (terms : List Term) (a b c m x y : ℕ) → charge (terms ++ dicycle a b c m ∷ []) x y ≡ charge terms x y + cond (has_pair (cycle_arcs (a ∷ b ∷ c ∷ [])) x y) m 0
charge-dicycle terms a b c m x y = sum_by_push (λ t. cond (has_pair (arcs_of t.cut) x y) t.multiplier 0) terms (dicycle a b c m)

less_more : (e : ℤ) (k l : ℕ) → e -ℤ pos (k + l) ≡ (e -ℤ pos k) -ℤ pos l
less_more e k l = omega (arith, ints)

-- and taken off the reduced entries there
pub reduced-dicycle : (C : Matrix) (terms : List Term) (a b c m x y : ℕ) → reduced_entry C 1 (terms ++ dicycle a b c m ∷ []) x y ≡ reduced_entry C 1 terms x y -ℤ pos (cond (has_pair (cycle_arcs (a ∷ b ∷ c ∷ [])) x y) m 0)
reduced-dicycle C terms a b c m x y =
    ap (λ k. pos 1 *ℤ entry C x y -ℤ pos k) (charge-dicycle terms a b c m x y)
    ∙ less_more (pos 1 *ℤ entry C x y) (charge terms x y) (cond (has_pair (cycle_arcs (a ∷ b ∷ c ∷ [])) x y) m 0)

-- ---- when a cycle is taken

both_hold : {X : Type 0} (p q : Bool) (x y : X) → p ≡ true → q ≡ true → cond (p && q) x y ≡ x
both_hold true true x y e f = refl
both_hold true false x y e f = absurd (cc)
both_hold false q x y e f = absurd (cc)

first_fails : {X : Type 0} (p q : Bool) (x y : X) → p ≡ false → cond (p && q) x y ≡ y
first_fails true q x y e = absurd (cc)
first_fails false q x y e = refl

second_fails : {X : Type 0} (p q : Bool) (x y : X) → q ≡ false → cond (p && q) x y ≡ y
second_fails true true x y e = absurd (cc)
second_fails true false x y e = refl
second_fails false q x y e = refl

below_true : (x y : ℕ) → x < y → ltb x y ≡ true
below_true x y l = grind (arith, nat_tests)

below_false : (x y : ℕ) → y ≤ x → ltb x y ≡ false
below_false x y l = grind (arith, nat_tests)

pub pack_cycle-taken : (C : Matrix) (G : List Pair) (a b c m : ℕ) (terms : List Term) → cycle_residual G (reduced_entry C 1 terms) a b c ≡ m → 0 < m → length terms < 4096 → pack_cycle C G a b c terms ≡ terms ++ dicycle a b c m ∷ []
pack_cycle-taken C G a b c m terms e h l =
    let k = cycle_residual G (reduced_entry C 1 terms) a b c in
    both_hold (ltb 0 k) (ltb (length terms) 4096) (terms ++ dicycle a b c k ∷ []) terms (below_true 0 k (omega (arith, e))) (below_true (length terms) 4096 l)
    ∙ ap (λ j. terms ++ dicycle a b c j ∷ []) e

pub pack_cycle-none : (C : Matrix) (G : List Pair) (a b c : ℕ) (terms : List Term) → cycle_residual G (reduced_entry C 1 terms) a b c ≡ 0 → pack_cycle C G a b c terms ≡ terms
pack_cycle-none C G a b c terms e =
    let k = cycle_residual G (reduced_entry C 1 terms) a b c in
    first_fails (ltb 0 k) (ltb (length terms) 4096) (terms ++ dicycle a b c k ∷ []) terms (below_false 0 k (omega (arith, e)))

pub pack_cycle-full : (C : Matrix) (G : List Pair) (a b c : ℕ) (terms : List Term) → 4096 ≤ length terms → pack_cycle C G a b c terms ≡ terms
pack_cycle-full C G a b c terms l =
    let k = cycle_residual G (reduced_entry C 1 terms) a b c in
    second_fails (ltb 0 k) (ltb (length terms) 4096) (terms ++ dicycle a b c k ∷ []) terms (below_false (length terms) 4096 l)
