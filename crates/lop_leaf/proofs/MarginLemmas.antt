-- The table of signed margins: what a write of one leaves, and what the first ones show.
use Rattle.std.proofs.Common.{◌≡◌, ◌≢◌, ◌⊎◌, ℕ, zero, suc, ◌+◌, ◌-◌, ◌*◌, ◌^◌, ◌<◌, ◌≤◌, min, Bool, true, false, cond, eqb, ltb, ◌&&◌, List, [], length, get_or, set, refl, sym, ◌∙◌, ap, subst, inl, inr, Option, Some, None, ℤ, pos, negsuc, neg_ℤ, ◌-ℤ◌, ◌≤ℤ◌, arith, to_z, of_z, FitsSigned}
use Rattle.std.specs.Prelude.{unsigned_abs}
use Rattle.std.specs.Int.{w64, int_max, int_min}
use Rattle.std.proofs.lemmas.Int.{ints, clamps, to_z-of_z}
use Rattle.std.proofs.lemmas.Bool.{cases_lt, cases_eq}
use Rattle.std.proofs.lemmas.Bool.Decides.{nat_tests}
use Rattle.std.proofs.lemmas.List.{get_or-set_same, get_or-set_other}
use Rattle.lop_model.specs.declared.pair.Pair.{Pair}
use Rattle.lop_model.specs.Sums.{sum_below, above}
use Rattle.lop_model.specs.Matrix.{Matrix, entry, pair_absolute, absolute_total, IsWeights}
use Rattle.lop_model.specs.Fixings.{has_pair}
use Rattle.lop_model.specs.Bound.{pair_value}
use Rattle.lop_model.proofs.CellLemmas.{read-set}
use Rattle.lop_model.proofs.MatrixLemmas.{unsigned_abs_bounds}
use Rattle.lop_cuts.specs.Lagrangian.{Term, reduced_entry}
use Rattle.lop_leaf.specs.Packing.{positive_part, residual}
use Rattle.lop_leaf.specs.Table.{way, signed, slack, lowered, IsResidualWord, IsMargin, HasResiduals, AreBounded}
use Rattle.lop_leaf.proofs.ChargeLemmas.{entry_low}
use Rattle.lop_leaf.proofs.ResidualLemmas.{part-is, part-to_zero}
use Rattle.lop_leaf.proofs.PackingLemmas.{free_word}
use Rattle.lop_model.proofs.RowSums.{IsBetween, row_between}

-- ---- margins of either way

pub signed_forth : (t : List ℤ) (n a b : ℕ) → a < b → signed t n a b ≡ get_or t (a * n + b) (pos 0)
signed_forth t n a b l = let test : ltb a b ≡ true = grind (arith, nat_tests) in rw test refl

pub signed_back : (t : List ℤ) (n a b : ℕ) → b ≤ a → signed t n a b ≡ neg_ℤ (get_or t (b * n + a) (pos 0))
signed_back t n a b l = let test : ltb a b ≡ false = grind (arith, nat_tests) in rw test refl

pub signed_turned : (t : List ℤ) (n a b : ℕ) → a < b → signed t n b a ≡ neg_ℤ (signed t n a b)
signed_turned t n a b l = signed_back t n b a (omega arith) ∙ ap neg_ℤ (sym (signed_forth t n a b l))

-- ---- a write

pick : (x y a b : ℕ) → (((x ≡ a) × (y ≡ b)) ⊎ ((eqb x a && eqb y b) ≡ false))
pick x y a b = elim (cases_eq x a) [
  | inl e ↦ elim (cases_eq y b) [ inl f ↦ inl (e, f) | inr f ↦ inr (grind (arith, nat_tests)) ]
  | inr e ↦ inr (grind (arith, nat_tests))
]

at_once : (a b : ℕ) → (eqb a a && eqb b b) ≡ true
at_once a b = grind (arith, nat_tests)

-- what a write above the diagonal leaves
pub signed_set : (t : List ℤ) (n r c x y : ℕ) (v : ℤ) → length t ≡ n * n → r < c → c < n → x < y → y < n → signed (set t (r * n + c) v) n x y ≡ cond (eqb x r && eqb y c) v (signed t n x y)
signed_set t n r c x y v whole l k m o =
    signed_forth (set t (r * n + c) v) n x y m
    ∙ read-set t n r c x y v (pos 0) whole (omega arith) k o
    ∙ ap (λ (w : ℤ). cond (eqb x r && eqb y c) v w) (sym (signed_forth t n x y m))

choose : (p : Bool) (f : ℤ → ℕ) (v w : ℤ) → f (cond p v w) ≡ cond p (f v) (f w)
choose true f v w = refl
choose false f v w = refl

slack_forth : (t : List ℤ) (n r c x y : ℕ) (v : ℤ) → length t ≡ n * n → r < c → c < n → x < y → y < n → slack (set t (r * n + c) v) n x y ≡ cond (eqb x r && eqb y c) (positive_part v) (slack t n x y)
slack_forth t n r c x y v whole l k m o = ap positive_part (signed_set t n r c x y v whole l k m o) ∙ choose (eqb x r && eqb y c) positive_part v (signed t n x y)

negated : (p : Bool) (v w : ℤ) → neg_ℤ (cond p v w) ≡ cond p (neg_ℤ v) (neg_ℤ w)
negated true v w = refl
negated false v w = refl

slack_back : (t : List ℤ) (n r c x y : ℕ) (v : ℤ) → length t ≡ n * n → r < c → c < n → y < x → x < n → slack (set t (r * n + c) v) n x y ≡ cond (eqb y r && eqb x c) (positive_part (neg_ℤ v)) (slack t n x y)
slack_back t n r c x y v whole l k m o =
    ap positive_part (signed_turned (set t (r * n + c) v) n y x m ∙ ap neg_ℤ (signed_set t n r c y x v whole l k m o) ∙ negated (eqb y r && eqb x c) v (signed t n y x))
    ∙ choose (eqb y r && eqb x c) positive_part (neg_ℤ v) (neg_ℤ (signed t n y x))
    ∙ ap (λ (w : ℤ). cond (eqb y r && eqb x c) (positive_part (neg_ℤ v)) (positive_part w)) (sym (signed_turned t n y x m))

slack_same : (t : List ℤ) (n r c x : ℕ) (v : ℤ) → length t ≡ n * n → r < c → c < n → x < n → slack (set t (r * n + c) v) n x x ≡ slack t n x x
slack_same t n r c x v whole l k m =
    let none : (eqb x r && eqb x c) ≡ false = grind (arith, nat_tests) in
    ap positive_part (signed_back (set t (r * n + c) v) n x x (omega arith) ∙ ap neg_ℤ (read-set t n r c x x v (pos 0) whole (omega arith) k m ∙ ap (λ p. cond p v (get_or t (x * n + x) (pos 0))) none) ∙ sym (signed_back t n x x (omega arith)))

pub not_here : (p : Bool) (u w : ℕ) → p ≡ false → cond p u w ≡ w
not_here true u w e = absurd (cc)
not_here false u w e = refl

is_here : (p : Bool) (u w : ℕ) → p ≡ true → cond p u w ≡ u
is_here true u w e = refl
is_here false u w e = absurd (cc)

no_up : (x y r c : ℕ) → r < c → x < y → (eqb y r && eqb x c) ≡ false
no_up x y r c l m = grind (arith, nat_tests)

no_down : (x y r c : ℕ) → r < c → y ≤ x → (eqb x r && eqb y c) ≡ false
no_down x y r c l m = grind (arith, nat_tests)

tests_hold : (x y a b : ℕ) → x ≡ a → y ≡ b → (eqb x a && eqb y b) ≡ true
tests_hold x y a b e f = grind (arith, nat_tests)

-- what both arcs of a pair, and all others, can lose after a write
slack_set : (t : List ℤ) (n r c x y : ℕ) (v : ℤ) → length t ≡ n * n → r < c → c < n → x < n → y < n
    → slack (set t (r * n + c) v) n x y ≡ cond (eqb x r && eqb y c) (positive_part v) (cond (eqb y r && eqb x c) (positive_part (neg_ℤ v)) (slack t n x y))
slack_set t n r c x y v whole l k lx ly =
    let there = slack t n x y in
    let turned = cond (eqb y r && eqb x c) (positive_part (neg_ℤ v)) there in
    elim (cases_lt x y) [
      | inl up ↦ slack_forth t n r c x y v whole l k up ly ∙ ap (λ (w : ℕ). cond (eqb x r && eqb y c) (positive_part v) w) (sym (not_here (eqb y r && eqb x c) (positive_part (neg_ℤ v)) there (no_up x y r c l up)))
      | inr rest ↦ elim (cases_lt y x) [
        | inl down ↦ slack_back t n r c x y v whole l k down lx ∙ sym (not_here (eqb x r && eqb y c) (positive_part v) turned (no_down x y r c l rest))
        | inr more ↦
            let same : x ≡ y = omega arith in
            ap (λ z. slack (set t (r * n + c) v) n x z) (sym same) ∙ slack_same t n r c x v whole l k lx ∙ ap (λ z. slack t n x z) same
            ∙ sym (not_here (eqb y r && eqb x c) (positive_part (neg_ℤ v)) there (no_down y x r c l more))
            ∙ sym (not_here (eqb x r && eqb y c) (positive_part v) turned (no_down x y r c l rest))
      ]
    ]

-- the residual of an arc of which the pair was written is lowered, where the other arc has what it had
lowered_pair : (t : List ℤ) (n a b x y m s k l : ℕ) → s ≡ lowered (slack t n a b) m → k ≡ slack t n b a → l ≡ cond (eqb x a && eqb y b) s (cond (eqb y a && eqb x b) k (slack t n x y))
    → l ≡ cond (eqb x a && eqb y b) (lowered (slack t n x y) m) (slack t n x y)
lowered_pair t n a b x y m s k l e f g = elim (pick x y a b) [
  | inl is ↦
      let test = tests_hold x y a b is.0 is.1 in
      g ∙ is_here (eqb x a && eqb y b) s (cond (eqb y a && eqb x b) k (slack t n x y)) test ∙ e
      ∙ ap (λ z. lowered (slack t n z b) m) (sym is.0) ∙ ap (λ z. lowered (slack t n x z) m) (sym is.1)
      ∙ sym (is_here (eqb x a && eqb y b) (lowered (slack t n x y) m) (slack t n x y) test)
  | inr other ↦
      g ∙ not_here (eqb x a && eqb y b) s (cond (eqb y a && eqb x b) k (slack t n x y)) other
      ∙ elim (pick y x a b) [
        | inl is ↦ is_here (eqb y a && eqb x b) k (slack t n x y) (tests_hold y x a b is.0 is.1) ∙ f ∙ ap (λ z. slack t n b z) (sym is.0) ∙ ap (λ z. slack t n z y) (sym is.1)
        | inr apart ↦ not_here (eqb y a && eqb x b) k (slack t n x y) apart
      ]
      ∙ sym (not_here (eqb x a && eqb y b) (lowered (slack t n x y) m) (slack t n x y) other)
]

-- a margin above the diagonal is lowered
pub lowered_forth : (t : List ℤ) (n a b x y m : ℕ) (v : ℤ) → length t ≡ n * n → a < b → b < n → x < n → y < n → positive_part v ≡ lowered (slack t n a b) m → positive_part (neg_ℤ v) ≡ slack t n b a
    → slack (set t (a * n + b) v) n x y ≡ cond (eqb x a && eqb y b) (lowered (slack t n x y) m) (slack t n x y)
lowered_forth t n a b x y m v whole l k lx ly e f =
    lowered_pair t n a b x y m (positive_part v) (positive_part (neg_ℤ v)) (slack (set t (a * n + b) v) n x y) e f (slack_set t n a b x y v whole l k lx ly)

swapped : (p q : Bool) (u k w : ℕ) → (p ≡ true → q ≡ true → ⊥) → cond p u (cond q k w) ≡ cond q k (cond p u w)
swapped true true u k w h = absurd (h refl refl)
swapped true false u k w h = refl
swapped false true u k w h = refl
swapped false false u k w h = refl

both_ways : (x y a b : ℕ) → a ≢ b → (eqb x b && eqb y a) ≡ true → (eqb y b && eqb x a) ≡ true → ⊥
both_ways x y a b h e f = grind (arith, nat_tests)

flip_tests : (x y a b : ℕ) → (eqb y b && eqb x a) ≡ (eqb x a && eqb y b)
flip_tests x y a b = grind (arith, nat_tests)

-- and so is one below it, by its reverse
pub lowered_back : (t : List ℤ) (n a b x y m : ℕ) (v : ℤ) → length t ≡ n * n → b < a → a < n → x < n → y < n → positive_part (neg_ℤ v) ≡ lowered (slack t n a b) m → positive_part v ≡ slack t n b a
    → slack (set t (b * n + a) v) n x y ≡ cond (eqb x a && eqb y b) (lowered (slack t n x y) m) (slack t n x y)
lowered_back t n a b x y m v whole l k lx ly e f =
    let there = slack t n x y in
    let forth = positive_part v in
    let back = positive_part (neg_ℤ v) in
    let g : slack (set t (b * n + a) v) n x y ≡ cond (eqb x a && eqb y b) back (cond (eqb y a && eqb x b) forth there) =
    slack_set t n b a x y v whole l k lx ly
    ∙ swapped (eqb x b && eqb y a) (eqb y b && eqb x a) forth back there (both_ways x y a b (omega arith))
    ∙ ap (λ p. cond p back (cond (eqb x b && eqb y a) forth there)) (flip_tests x y a b)
    ∙ ap (λ p. cond (eqb x a && eqb y b) back (cond p forth there)) (flip_tests y x a b) in
    lowered_pair t n a b x y m back forth (slack (set t (b * n + a) v) n x y) e f g

lowered_small : (w m : ℕ) → w < 2 ^ 63 → lowered w m < 2 ^ 63
lowered_small w m l = elim (cases_eq w (2 ^ 63 - 1)) [
  | inl e ↦ let test : eqb w (2 ^ 63 - 1) ≡ true = grind (arith, nat_tests) in rw test l
  | inr e ↦ let test : eqb w (2 ^ 63 - 1) ≡ false = grind (arith, nat_tests) in rw test (omega arith)
]

one_of : (p : Bool) (u w k : ℕ) → u < k → w < k → cond p u w < k
one_of true u w k l m = l
one_of false u w k l m = m

pub bounded_after : (n a b m : ℕ) (t u : List ℤ) → AreBounded n t → ((x y : ℕ) → x < n → y < n → slack u n x y ≡ cond (eqb x a && eqb y b) (lowered (slack t n x y) m) (slack t n x y)) → AreBounded n u
bounded_after n a b m t u bounded each = record {
  each = λ x y lx ly differ. subst (λ k. k < 2 ^ 63) (sym (each x y lx ly)) (one_of (eqb x a && eqb y b) (lowered (slack t n x y) m) (slack t n x y) (2 ^ 63) (lowered_small (slack t n x y) m (bounded.each x y lx ly differ)) (bounded.each x y lx ly differ));
}

word_small : (o : Option ℕ) (x : ℕ) → IsResidualWord o x → x < 2 ^ 63
word_small None x is = omega (arith, is)
word_small (Some m) x is = omega (arith, is.0, is.1)

-- the residuals of all arcs are bounded
pub residuals_bounded : (C : Matrix) (G : List Pair) (terms : List Term) (t : List ℤ) → HasResiduals C G terms t → AreBounded C.size t
residuals_bounded C G terms t has = record { each = λ a b la lb differ. word_small (residual G (reduced_entry C 1 terms) a b) (slack t C.size a b) (has.each a b la lb differ) }

part_low : (v : ℤ) (k : ℕ) → positive_part (neg_ℤ v) ≤ k → neg_ℤ (pos k) ≤ℤ v
part_low (pos m) k h = omega (arith, ints)
part_low (negsuc m) k h = omega (arith, ints)

-- a bounded margin above the diagonal can be turned round
pub margin_low : (n a b : ℕ) (t : List ℤ) → AreBounded n t → a < b → b < n → neg_ℤ (pos (2 ^ 63 - 1)) ≤ℤ signed t n a b
margin_low n a b t bounded l k =
    let small : slack t n b a < 2 ^ 63 = bounded.each b a k (omega arith) (omega arith) in
    let turned : slack t n b a ≡ positive_part (neg_ℤ (signed t n a b)) = ap positive_part (signed_turned t n a b l) in
    part_low (signed t n a b) (2 ^ 63 - 1) (omega (arith, small, turned))

-- ---- the first margins

pub margin-before : (C : Matrix) (G : List Pair) (i j : ℕ) (v : ℤ) → has_pair G i j ≡ true → has_pair G j i ≡ false → v ≡ pos (2 ^ 63 - 1) → IsMargin C G i j v
margin-before C G i j v f g e = record { forth = rw (g, f) (rw e refl); back = rw f (rw e (refl, omega arith)) }

pub margin-after : (C : Matrix) (G : List Pair) (i j : ℕ) (v : ℤ) → has_pair G i j ≡ false → has_pair G j i ≡ true → v ≡ neg_ℤ (pos (2 ^ 63 - 1)) → IsMargin C G i j v
margin-after C G i j v f g e = record { forth = rw g (rw e (refl, omega arith)); back = rw (f, g) (rw e refl) }

turned_part : (x y v : ℤ) → v ≡ x -ℤ y → positive_part (neg_ℤ v) ≡ positive_part (y -ℤ x)
turned_part x y v e = ap positive_part (let is : neg_ℤ v ≡ y -ℤ x = omega (arith, ints) in is)

pub margin-free : (C : Matrix) (G : List Pair) (i j : ℕ) (v : ℤ) → IsWeights C → i < C.size → j < C.size → i ≢ j → has_pair G i j ≡ false → has_pair G j i ≡ false → v ≡ entry C i j -ℤ entry C j i → IsMargin C G i j v
margin-free C G i j v is l m differ f g e = record {
  forth = free_word C G i j (positive_part v) is l m differ f g (ap positive_part e);
  back = free_word C G j i (positive_part (neg_ℤ v)) is m l (λ h. differ (sym h)) g f (turned_part (entry C i j) (entry C j i) v e);
}

-- a table of first margins above the diagonal has the residuals of all arcs
pub margins_loaded : (C : Matrix) (G : List Pair) (t : List ℤ) → length t ≡ C.size * C.size → ((i j : ℕ) → i < j → j < C.size → IsMargin C G i j (signed t C.size i j)) → HasResiduals C G [] t
margins_loaded C G t square each = record {
  square = square;
  each = λ a b la lb differ. elim (cases_lt a b) [
    | inl up ↦ (each a b up lb).forth
    | inr down ↦
        let less : b < a = omega arith in
        subst (λ (v : ℤ). IsResidualWord (residual G (reduced_entry C 1 []) a b) (positive_part v)) (sym (signed_turned t C.size b a less)) (each b a less la).back
  ];
}

-- ---- the greater way

-- of two ways of which a fixing leaves one out the greater is what the pair gives
pub greater_way : (C : Matrix) (G : List Pair) (i j : ℕ) → IsWeights C → i < C.size → j < C.size → i ≢ j → (has_pair G i j ≡ true → has_pair G j i ≡ true → ⊥) → int_max (way C G i j) (way C G j i) ≡ pair_value G (entry C) i j
greater_way C G i j is l m differ apart =
    greater (has_pair G i j) (has_pair G j i) (entry C i j) (entry C j i) apart (entry_low C i j is differ l m) (entry_low C j i is (λ e. differ (sym e)) m l)
  where
    greater : (h g : Bool) (x y : ℤ) → (h ≡ true → g ≡ true → ⊥) → neg_ℤ (pos (10 ^ 18)) ≤ℤ x → neg_ℤ (pos (10 ^ 18)) ≤ℤ y
        → int_max (cond g (neg_ℤ (pos (2 ^ 63))) x) (cond h (neg_ℤ (pos (2 ^ 63))) y) ≡ cond h x (cond g y (int_max x y))
    greater true true x y o a b = absurd (o refl refl)
    greater true false x y o a b = omega (arith, ints, clamps)
    greater false true x y o a b = omega (arith, ints, clamps)
    greater false false x y o a b = refl

-- ---- rows

-- one more place of a row is written
pub written : (t : List ℤ) (k i : ℕ) (v : ℤ) (f : ℕ → ℤ) → k < length t → v ≡ f k → ((j : ℕ) → i < j → j < k → get_or t j (pos 0) ≡ f j) → (j : ℕ) → i < j → j < k + 1 → get_or (set t k v) j (pos 0) ≡ f j
written t k i v f within e before j l m = elim (cases_eq j k) [
  | inl same ↦ ap (λ p. get_or (set t k v) p (pos 0)) same ∙ get_or-set_same t k v (pos 0) within ∙ e ∙ ap f (sym same)
  | inr other ↦ get_or-set_other t k j v (pos 0) other ∙ before j l (omega arith)
]

-- the sum of two numbers that are no more than 10^18 apart from 0 fits
pub fits_word : (x : ℤ) → neg_ℤ (pos (10 ^ 18)) ≤ℤ x → x ≤ℤ pos (10 ^ 18) → FitsSigned w64 x
fits_word (pos n) h k = omega (arith, ints)
fits_word (negsuc n) h k = omega (arith, ints)

chosen_between : (h g : Bool) (x y : ℤ) (k : ℕ) → neg_ℤ (pos k) ≤ℤ x → x ≤ℤ pos k → neg_ℤ (pos k) ≤ℤ y → y ≤ℤ pos k → IsBetween (cond h x (cond g y (int_max x y))) (pos k)
chosen_between true g x y k a b c d = record { low = a; high = b }
chosen_between false true x y k a b c d = record { low = c; high = d }
chosen_between false false x y k a b c d = record { low = omega (arith, ints, clamps); high = omega (arith, ints, clamps) }

-- what a pair gives is between the absolute values of its entries
pub value_between : (C : Matrix) (G : List Pair) (i j : ℕ) → IsBetween (pair_value G (entry C) i j) (pair_absolute C i j)
value_between C G i j =
    let x = entry C i j in
    let y = entry C j i in
    let k = unsigned_abs x + unsigned_abs y in
    let a = unsigned_abs_bounds x in
    let b = unsigned_abs_bounds y in
    let ah : x ≤ℤ pos (unsigned_abs x) = a.0 in
    let al : neg_ℤ (pos (unsigned_abs x)) ≤ℤ x = a.1 in
    let bh : y ≤ℤ pos (unsigned_abs y) = b.0 in
    let bl : neg_ℤ (pos (unsigned_abs y)) ≤ℤ y = b.1 in
    chosen_between (has_pair G i j) (has_pair G j i) x y k (omega (arith, ints)) (omega (arith, ints)) (omega (arith, ints)) (omega (arith, ints))

-- a part of a row of what pairs give is no more than 10^18 apart from 0
pub row_within : (C : Matrix) (G : List Pair) (m i : ℕ) → IsWeights C → i < C.size → m ≤ C.size → IsBetween (sum_below m (above (pair_value G (entry C)) i)) (pos (10 ^ 18))
row_within C G m i is l k =
    let between = row_between C.size m i (pair_value G (entry C)) (pair_absolute C) (λ a b. omega (arith, ints)) (λ a b _ _. value_between C G a b) l k in
    let low : neg_ℤ (absolute_total C) ≤ℤ sum_below m (above (pair_value G (entry C)) i) = between.low in
    let high : sum_below m (above (pair_value G (entry C)) i) ≤ℤ absolute_total C = between.high in
    let most : absolute_total C ≤ℤ pos (10 ^ 18) = is.bounded_sum in
    record { low = omega (arith, ints); high = omega (arith, ints) }

-- ---- which way a fixing leaves out

-- a way that was left out is that of a fixed pair
pub left_out : (h : Bool) (x v : ℤ) → neg_ℤ (pos (10 ^ 18)) ≤ℤ x → v ≡ cond h (neg_ℤ (pos (2 ^ 63))) x → v ≡ neg_ℤ (pos (2 ^ 63)) → h ≡ true
left_out true x v low e f = refl
left_out false x v low e f = absurd (omega (arith, ints))

-- one that wasn't is the entry
pub kept_way : (h : Bool) (x v : ℤ) → v ≡ cond h (neg_ℤ (pos (2 ^ 63))) x → (v ≡ neg_ℤ (pos (2 ^ 63)) → ⊥) → (h ≡ false) × (v ≡ x)
kept_way true x v e other = absurd (other e)
kept_way false x v e other = (refl, e)

-- ---- the least of three margins

part_min : (x y : ℤ) → positive_part (int_min x y) ≡ min (positive_part x) (positive_part y)
part_min (pos a) (pos b) = part-is (int_min (pos a) (pos b)) (min a b) (omega (arith, ints, clamps))
part_min (pos a) (negsuc b) = part-to_zero (int_min (pos a) (negsuc b)) (omega (arith, ints, clamps)) ∙ omega arith
part_min (negsuc a) (pos b) = part-to_zero (int_min (negsuc a) (pos b)) (omega (arith, ints, clamps)) ∙ omega arith
part_min (negsuc a) (negsuc b) = part-to_zero (int_min (negsuc a) (negsuc b)) (omega (arith, ints, clamps)) ∙ omega arith

pub part_least : (x y z : ℤ) → positive_part (int_min x (int_min y z)) ≡ min (positive_part x) (min (positive_part y) (positive_part z))
part_least x y z = part_min x (int_min y z) ∙ ap (λ k. min (positive_part x) k) (part_min y z)

pub slack_turned : (t : List ℤ) (n a b : ℕ) → a < b → positive_part (neg_ℤ (signed t n a b)) ≡ slack t n b a
slack_turned t n a b l = ap positive_part (sym (signed_turned t n a b l))

-- ---- turning round

zero_less : (x : ℤ) → pos 0 -ℤ x ≡ neg_ℤ x
zero_less x = omega (arith, ints)

turned_fits : (x : ℤ) → neg_ℤ (pos (2 ^ 63 - 1)) ≤ℤ x → FitsSigned w64 x → FitsSigned w64 (neg_ℤ x)
turned_fits (pos zero) h f = f
turned_fits (pos (suc n)) h f = omega (arith, f)
turned_fits (negsuc n) h f = omega (arith, ints)

-- a margin that is turned round in a word
pub turned_word : (x : ℤ) → neg_ℤ (pos (2 ^ 63 - 1)) ≤ℤ x → FitsSigned w64 x → to_z w64 (of_z w64 (pos 0 -ℤ to_z w64 (of_z w64 x))) ≡ neg_ℤ x
turned_word x low fits =
    ap (λ y. to_z w64 (of_z w64 (pos 0 -ℤ y))) (to_z-of_z w64 x fits)
    ∙ ap (λ y. to_z w64 (of_z w64 y)) (zero_less x)
    ∙ to_z-of_z w64 (neg_ℤ x) (turned_fits x low fits)

pub twice_turned : (x : ℤ) → neg_ℤ (neg_ℤ x) ≡ x
twice_turned x = omega (arith, ints)

-- ---- a row of first margins

pick_z : (p : Bool) (v o : ℤ) → p ≡ true → cond p v o ≡ v
pick_z true v o e = refl
pick_z false v o e = absurd (cc)

keep_z : (p : Bool) (v o : ℤ) → p ≡ false → cond p v o ≡ o
keep_z true v o e = absurd (cc)
keep_z false v o e = refl

other_row : (x y r c : ℕ) → x < r → (eqb x r && eqb y c) ≡ false
other_row x y r c l = grind (arith, nat_tests)

other_column : (x y r c : ℕ) → y < c → (eqb x r && eqb y c) ≡ false
other_column x y r c l = grind (arith, nat_tests)

-- one more margin of a row is written
pub row_more : (C : Matrix) (G : List Pair) (t : List ℤ) (i j : ℕ) (v : ℤ) → length t ≡ C.size * C.size → i < j → j < C.size → IsMargin C G i j v → ((k : ℕ) → i < k → k < j → IsMargin C G i k (signed t C.size i k))
    → (k : ℕ) → i < k → k < j + 1 → IsMargin C G i k (signed (set t (i * C.size + j) v) C.size i k)
row_more C G t i j v whole l m is before k ik kj =
    let n = C.size in
    let reading = signed_set t n i j i k v whole l m ik (omega arith) in
    elim (cases_lt k j) [
      | inl less ↦ subst (λ (z : ℤ). IsMargin C G i k z) (sym (reading ∙ keep_z (eqb i i && eqb k j) v (signed t n i k) (other_column i k i j less))) (before k ik less)
      | inr most ↦
          let last : k ≡ j = omega arith in
          let here : IsMargin C G i k v = subst (λ (z : ℕ). IsMargin C G i z v) (sym last) is in
          subst (λ (z : ℤ). IsMargin C G i k z) (sym (reading ∙ pick_z (eqb i i && eqb k j) v (signed t n i k) (tests_hold i k i j refl last))) here
    ]

-- and those of the rows before stand
pub rows_before : (t : List ℤ) (n i j x y : ℕ) (v : ℤ) → length t ≡ n * n → i < j → j < n → x < i → x < y → y < n → signed (set t (i * n + j) v) n x y ≡ signed t n x y
rows_before t n i j x y v whole l m xi xy yn = signed_set t n i j x y v whole l m xy yn ∙ keep_z (eqb x i && eqb y j) v (signed t n x y) (other_row x y i j xi)
