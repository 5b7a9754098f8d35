-- What terms charge at arcs, and bounds of reduced entries.
use Rattle.std.proofs.Common.{◌≡◌, ◌≢◌, ◌⊎◌, ℕ, ◌+◌, ◌*◌, ◌^◌, ◌<◌, ◌≤◌, Bool, true, false, cond, eqb, ◌&&◌, List, length, take, get_or, refl, inl, inr, ℤ, pos, neg_ℤ, ◌≤ℤ◌, arith}
use Rattle.std.specs.Prelude.{unsigned_abs}
use Rattle.std.specs.List.{All}
use Rattle.std.proofs.Math.Nat.{mul-le-mul_left}
use Rattle.std.proofs.lemmas.Int.{ints}
use Rattle.std.proofs.lemmas.Bool.{cases_lt}
use Rattle.std.proofs.lemmas.Bool.Decides.{nat_tests}
use Rattle.std.proofs.lemmas.List.Elements.{All-take}
use Rattle.std.proofs.lemmas.List.{length-take-le}
use Rattle.std.proofs.lemmas.List.Sums.{sum_by-le}
use Rattle.lop_model.specs.Sums.{pair_sum}
use Rattle.lop_model.specs.Matrix.{Matrix, entry, pair_absolute, absolute_total, IsWeights}
use Rattle.lop_model.proofs.SumLemmas.{pair_sum-le, pair_sum-one}
use Rattle.lop_model.proofs.MatrixLemmas.{unsigned_abs_bounds}
use Rattle.lop_cuts.specs.Kind.{arcs_of}
use Rattle.lop_cuts.specs.Lagrangian.{Term, charge}
use Rattle.lop_model.specs.Fixings.{has_pair}
use Rattle.lop_leaf.specs.Record.{IsMultiplier, ScaledTerms, IsScaledTerms}

-- ---- bounds

-- at most 4,096 terms charge at most 2^75
pub charge-le : (terms : List Term) (a b : ℕ) → All (λ t. IsMultiplier t.multiplier) terms → length terms ≤ 4096 → charge terms a b ≤ 2 ^ 75
charge-le terms a b h l =
    let most : charge terms a b ≤ length terms * 2 ^ 63 = sum_by-le (λ t. cond (has_pair (arcs_of t.cut) a b) t.multiplier 0) (2 ^ 63) terms (λ k d m. one (has_pair (arcs_of (get_or terms k d).cut) a b) (get_or terms k d).multiplier (h k d m)) in
    omega (arith)
  where
    one : (b : Bool) (m : ℕ) → IsMultiplier m → cond b m 0 ≤ 2 ^ 63
    one true m h = omega (arith, h.within_limit)
    one false m h = omega arith

pub charge_take-le : (r : ScaledTerms) (i a b : ℕ) → IsScaledTerms r → i ≤ length r.terms → charge (take i r.terms) a b ≤ 2 ^ 75
charge_take-le r i a b is l = charge-le (take i r.terms) a b (All-take (λ t. IsMultiplier t.multiplier) i r.terms is.multipliers) (omega (arith, length-take-le i r.terms l, is.bounded_count))

-- ---- entries

at_most_itself : (b : Bool) (k : ℕ) → cond b (pos k) (pos 0) ≤ℤ pos k
at_most_itself true k = omega (arith, ints)
at_most_itself false k = omega (arith, ints)

not_there : (i j a b : ℕ) (x : ℤ) → (i ≢ a) ⊎ (j ≢ b) → cond (eqb i a && eqb j b) x (pos 0) ≡ pos 0
not_there i j a b x (inl h) = let f : (eqb i a && eqb j b) ≡ false = grind (arith, nat_tests) in rw f refl
not_there i j a b x (inr h) = let f : (eqb i a && eqb j b) ≡ false = grind (arith, nat_tests) in rw f refl

there : (a b : ℕ) (x : ℤ) → cond (eqb a a && eqb b b) x (pos 0) ≡ x
there a b x = let f : (eqb a a && eqb b b) ≡ true = grind (arith, nat_tests) in rw f refl

pair_within : (C : Matrix) (a b : ℕ) → IsWeights C → a < b → b < C.size → unsigned_abs (entry C a b) + unsigned_abs (entry C b a) ≤ 10 ^ 18
pair_within C a b is l m =
    let f : ℕ → ℕ → ℤ = λ i j. cond (eqb i a && eqb j b) (pair_absolute C i j) (pos 0) in
    let one : pair_sum C.size f ≡ f a b = pair_sum-one C.size a b f l m (λ i j _ _ h. not_there i j a b (pair_absolute C i j) h) in
    let whole : f a b ≡ pair_absolute C a b = there a b (pair_absolute C a b) in
    let most : pair_sum C.size f ≤ℤ absolute_total C = pair_sum-le C.size f (pair_absolute C) (λ i j _ _. at_most_itself (eqb i a && eqb j b) (unsigned_abs (entry C i j) + unsigned_abs (entry C j i))) in
    let limit : absolute_total C ≤ℤ pos (10 ^ 18) = is.bounded_sum in
    omega (arith, ints)

-- the absolute values of the entries of two objects sum to at most 10^18
pub entries_within : (C : Matrix) (a b : ℕ) → IsWeights C → a ≢ b → a < C.size → b < C.size → unsigned_abs (entry C a b) + unsigned_abs (entry C b a) ≤ 10 ^ 18
entries_within C a b is differ l m = elim (cases_lt a b) [
  | inl before ↦ pair_within C a b is before m
  | inr after ↦ omega (arith, pair_within C b a is (omega arith) l)
]

pub entry_low : (C : Matrix) (a b : ℕ) → IsWeights C → a ≢ b → a < C.size → b < C.size → neg_ℤ (pos (10 ^ 18)) ≤ℤ entry C a b
entry_low C a b is differ l m =
    let bounds = unsigned_abs_bounds (entry C a b) in
    let low : neg_ℤ (pos (unsigned_abs (entry C a b))) ≤ℤ entry C a b = bounds.1 in
    let within = entries_within C a b is differ l m in
    omega (arith, ints, within)

pub entry_high : (C : Matrix) (a b : ℕ) → IsWeights C → a ≢ b → a < C.size → b < C.size → entry C a b ≤ℤ pos (10 ^ 18)
entry_high C a b is differ l m =
    let bounds = unsigned_abs_bounds (entry C a b) in
    let high : entry C a b ≤ℤ pos (unsigned_abs (entry C a b)) = bounds.0 in
    let within = entries_within C a b is differ l m in
    omega (arith, ints, within)

-- ---- right sides

-- a multiplier times a right side of at most 64
pub side-le : (m k : ℕ) → m < 2 ^ 63 → k ≤ 64 → m * k ≤ 2 ^ 69
side-le m k h l =
    let by_side : m * k ≤ m * 64 = mul-le-mul_left m l in
    omega (arith)
