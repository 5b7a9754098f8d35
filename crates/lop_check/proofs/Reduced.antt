-- The numbers that the checker computes for pairs of objects, and the Lagrangian value.
use Rattle.std.proofs.Common.{◌≡◌, ℕ, ◌*◌, ◌^◌, ◌<◌, ◌≤◌, Bool, cond, List, ℤ, pos, negsuc, neg_ℤ, ◌+ℤ◌, ◌-ℤ◌, ◌*ℤ◌, ◌≤ℤ◌, ap, arith, to_z, of_z, FitsSigned}
use Rattle.std.specs.Int.{w64, w128, int_max}
use Rattle.std.proofs.lemmas.Int.{ints, to_z-of_z}
use Rattle.lop_model.specs.declared.pair.Pair.{Pair}
use Rattle.lop_model.specs.Sums.{pair_sum}
use Rattle.lop_model.specs.Matrix.{Matrix, entry}
use Rattle.lop_model.specs.Fixings.{has_pair}
use Rattle.lop_model.specs.Bound.{pair_value}
use Rattle.lop_model.proofs.SumLemmas.{pair_sum-same}
use Rattle.lop_cuts.specs.Lagrangian.{Term, charge, right_sides, reduced_entry, lagrangian_value}
use Rattle.lop_cuts.specs.Charges.{HasCharges}
use Rattle.lop_cuts.proofs.ChargeLemmas.{scaled_low, scaled_high}
use Rattle.lop_check.specs.Charges.{table_entry}

fits_within : (x : ℤ) → neg_ℤ (pos (2 ^ 80)) ≤ℤ x → x ≤ℤ pos (2 ^ 80) → FitsSigned w128 x
fits_within (pos n) h k = omega (arith, ints)
fits_within (negsuc n) h k = omega (arith, ints)

fits_below : (x : ℤ) → neg_ℤ (pos (2 ^ 99)) ≤ℤ x → x ≤ℤ pos (2 ^ 99) → FitsSigned w128 x
fits_below (pos n) h k = omega (arith, ints)
fits_below (negsuc n) h k = omega (arith, ints)

pub fits_wide : (sides : ℕ) (pairs : ℤ) → sides ≤ 2 ^ 82 → neg_ℤ (pos (2 ^ 98)) ≤ℤ pairs → pairs ≤ℤ pos (2 ^ 98) → FitsSigned w128 (pos sides +ℤ pairs)
fits_wide sides pairs few low high = fits_below (pos sides +ℤ pairs) (omega (arith, ints)) (omega (arith, ints))

-- what the code computes, where the charge is k
pub record Computed (s e : ℤ) (S k : ℕ) : Type 0 where
  pub product : to_z w128 (of_z w128 (to_z w128 (of_z w128 s) *ℤ to_z w128 (of_z w128 e))) ≡ pos S *ℤ e
  pub low : neg_ℤ (pos (2 ^ 80)) ≤ℤ (pos S *ℤ e -ℤ pos k)
  pub high : (pos S *ℤ e -ℤ pos k) ≤ℤ pos (2 ^ 80)
  pub fits : FitsSigned w128 (pos S *ℤ e -ℤ pos k)

entry_low : (e : ℤ) → FitsSigned w64 e → neg_ℤ (pos (2 ^ 63)) ≤ℤ e
entry_low (pos n) f = omega (arith, ints)
entry_low (negsuc n) f = omega (arith, ints, f)

entry_high : (e : ℤ) → FitsSigned w64 e → e ≤ℤ pos (2 ^ 63)
entry_high (pos n) f = omega (arith, ints, f)
entry_high (negsuc n) f = omega (arith, ints)

pub computed : (s e : ℤ) (S k : ℕ) → FitsSigned w128 s → FitsSigned w128 e → FitsSigned w64 e → s ≡ pos S → S ≤ 65536 → k ≤ 2 ^ 75 → Computed s e S k
computed s e S k fit_s fit_e narrow is limit charge =
    let least : neg_ℤ (pos (S * 2 ^ 63)) ≤ℤ (pos S *ℤ e) = scaled_low S (2 ^ 63) e (entry_low e narrow) in
    let most : (pos S *ℤ e) ≤ℤ pos (S * 2 ^ 63) = scaled_high S (2 ^ 63) e (entry_high e narrow) in
    let fits : FitsSigned w128 (pos S *ℤ e) = fits_within (pos S *ℤ e) (omega (arith, ints)) (omega (arith, ints)) in
    let low : neg_ℤ (pos (2 ^ 80)) ≤ℤ (pos S *ℤ e -ℤ pos k) = omega (arith, ints) in
    let high : (pos S *ℤ e -ℤ pos k) ≤ℤ pos (2 ^ 80) = omega (arith, ints) in
    record {
      product = rw (to_z-of_z w128 s fit_s, to_z-of_z w128 e fit_e, is) (to_z-of_z w128 (pos S *ℤ e) fits);
      low = low;
      high = high;
      fits = fits_within (pos S *ℤ e -ℤ pos k) low high;
    }

-- ---- the charges stand for the terms

module _ (C : Matrix) (G : List Pair) (scale : ℕ) (terms : List Term) (charges : List ℕ) (has : HasCharges C.size terms charges) where
  entry_is : (a b : ℕ) → a < C.size → b < C.size → table_entry C scale charges a b ≡ reduced_entry C scale terms a b
  entry_is a b l m = ap (λ (k : ℕ). pos scale *ℤ entry C a b -ℤ pos k) (has.each a b l m)

  same_choice : (f g : Bool) (x y x' y' : ℤ) → x ≡ x' → y ≡ y' → cond f x (cond g y (int_max x y)) ≡ cond f x' (cond g y' (int_max x' y'))
  same_choice f g x y x' y' a b = cc

  value_is : (i j : ℕ) → i < j → j < C.size → pair_value G (table_entry C scale charges) i j ≡ pair_value G (reduced_entry C scale terms) i j
  value_is i j l m =
      let k : i < C.size = omega arith in
      same_choice (has_pair G i j) (has_pair G j i) (table_entry C scale charges i j) (table_entry C scale charges j i) (reduced_entry C scale terms i j) (reduced_entry C scale terms j i) (entry_is i j k m) (entry_is j i m k)

  pub whole_value : pos (right_sides terms) +ℤ pair_sum C.size (pair_value G (table_entry C scale charges)) ≡ lagrangian_value C G scale terms
  whole_value = ap (λ (x : ℤ). pos (right_sides terms) +ℤ x) (pair_sum-same C.size (pair_value G (table_entry C scale charges)) (pair_value G (reduced_entry C scale terms)) value_is)
