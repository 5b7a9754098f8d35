-- What terms charge at arcs, one arc after another, and what the scale times a number is between.
use Rattle.std.proofs.Common.{◌≡◌, ℕ, zero, suc, ◌+◌, ◌*◌, ◌<◌, Bool, true, false, cond, eqb, ◌&&◌, List, length, take, get_or, set, refl, sym, ◌∙◌, ap, ℤ, pos, neg_ℤ, ◌+ℤ◌, ◌*ℤ◌, ◌≤ℤ◌, arith}
use Rattle.std.proofs.Math.IntN.{suc_ℤ-*ℤ, zero-*ℤ}
use Rattle.std.proofs.lemmas.Int.{ints}
use Rattle.std.proofs.lemmas.Bool.Decides.{nat_tests}
use Rattle.std.proofs.lemmas.List.Sums.{sum_by_more}
use Rattle.lop_model.specs.declared.pair.Pair.{Pair}
use Rattle.lop_model.specs.Cells.{cell}
use Rattle.lop_model.proofs.CellLemmas.{read-set}
use Rattle.lop_cuts.specs.Arcs.{arc, same_arc}
use Rattle.lop_cuts.specs.Kind.{right_side_of}
use Rattle.lop_cuts.specs.Lagrangian.{Term, right_sides}
use Rattle.lop_cuts.specs.Charges.{arc_count}

-- ---- one more arc

pub more_times : (m k : ℕ) → m * (k + 1) ≡ m * k + m
more_times m k = omega arith

one_of : (b : Bool) → ℕ
one_of b = cond b 1 0

at_arc : (p q : Bool) (m k v o w : ℕ) → p ≡ q → (p ≡ true → w ≡ v) → cond p (w + m) v ≡ v + m * cond q 1 0
at_arc true true m k v o w e h = let same : w ≡ v = h refl in omega (arith)
at_arc false false m k v o w e h = omega arith
at_arc true false m k v o w e h = absurd (cc)
at_arc false true m k v o w e h = absurd (cc)

flipped : (a b c d : ℕ) → (eqb a c && eqb b d) ≡ (eqb c a && eqb d b)
flipped a b c d = grind (arith, nat_tests)

both_true : (a b c d : ℕ) → (eqb a c && eqb b d) ≡ true → (a ≡ c) × (b ≡ d)
both_true a b c d t = grind (arith, nat_tests)

-- one more arc has been charged
pub charge_step : (t old : List ℕ) (n m : ℕ) (arcs : List Pair) (i a b : ℕ) (x : Pair) → length t ≡ n * n → i < length arcs → (get_or arcs i x).before < n → (get_or arcs i x).after < n → b < n
    → cell t n a b ≡ cell old n a b + m * arc_count a b (take i arcs)
    → cell (set t ((get_or arcs i x).before * n + (get_or arcs i x).after) (cell t n (get_or arcs i x).before (get_or arcs i x).after + m)) n a b ≡ cell old n a b + m * arc_count a b (take (i + 1) arcs)
charge_step t old n m arcs i a b x whole l row column within e =
    let y = get_or arcs i x in
    let w = cell t n y.before y.after in
    let written : cell (set t (y.before * n + y.after) (w + m)) n a b ≡ cond (eqb a y.before && eqb b y.after) (w + m) (cell t n a b) = read-set t n y.before y.after a b (w + m) 0 whole row column within in
    let here : (eqb a y.before && eqb b y.after) ≡ true → w ≡ cell t n a b = λ h. let e = both_true a b y.before y.after h in ap (λ k. cell t n k y.after) (sym e.0) ∙ ap (λ k. cell t n a k) (sym e.1) in
    let counted : arc_count a b (take (i + 1) arcs) ≡ arc_count a b (take i arcs) + cond (same_arc y (arc a b)) 1 0 = sum_by_more (λ z. cond (same_arc z (arc a b)) 1 0) arcs i x l in
    let step : cond (eqb a y.before && eqb b y.after) (w + m) (cell t n a b) ≡ cell t n a b + m * cond (same_arc y (arc a b)) 1 0 = at_arc (eqb a y.before && eqb b y.after) (same_arc y (arc a b)) m 0 (cell t n a b) 0 w (flipped a b y.before y.after) here in
    written ∙ step ∙ sum_up (cell old n a b) m (arc_count a b (take i arcs)) (cond (same_arc y (arc a b)) 1 0) (cell t n a b) (arc_count a b (take (i + 1) arcs)) e counted
  where
    sum_up : (o m k c v k' : ℕ) → v ≡ o + m * k → k' ≡ k + c → v + m * c ≡ o + m * k'
    sum_up o m k c v k' e f = rw (e, f) (omega arith)

-- ---- bounds

-- m times a number from -k on is from -m k on
pub scaled_low : (m k : ℕ) (x : ℤ) → neg_ℤ (pos k) ≤ℤ x → neg_ℤ (pos (m * k)) ≤ℤ (pos m *ℤ x)
scaled_low zero k x h = rw (zero-*ℤ x) (omega (arith, ints))
scaled_low (suc m) k x h =
    let here : neg_ℤ (pos (m * k)) ≤ℤ (pos m *ℤ x) = scaled_low m k x h in
    let more : pos (suc m) *ℤ x ≡ pos m *ℤ x +ℤ x = suc_ℤ-*ℤ (pos m) x in
    omega (arith, ints)

-- m times a number up to k is at most m k
pub scaled_high : (m k : ℕ) (x : ℤ) → x ≤ℤ pos k → (pos m *ℤ x) ≤ℤ pos (m * k)
scaled_high zero k x h = rw (zero-*ℤ x) (omega (arith, ints))
scaled_high (suc m) k x h =
    let here : (pos m *ℤ x) ≤ℤ pos (m * k) = scaled_high m k x h in
    let more : pos (suc m) *ℤ x ≡ pos m *ℤ x +ℤ x = suc_ℤ-*ℤ (pos m) x in
    omega (arith, ints)

-- ---- right sides

pub right_side_more : (terms : List Term) (i : ℕ) (d : Term) → i < length terms → right_sides (take (i + 1) terms) ≡ right_sides (take i terms) + (get_or terms i d).multiplier * right_side_of (get_or terms i d).cut
right_side_more terms i d l = sum_by_more (λ t. t.multiplier * right_side_of t.cut) terms i d l
