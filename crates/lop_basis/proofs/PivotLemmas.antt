-- A pivot from its two passes.
use Rattle.std.proofs.Common.{◌≡◌, ◌≢◌, ℕ, suc, ◌<◌, List, inl, inr, sym, ◌∙◌, subst, arith, ℤ, ◌-ℤ◌, w64, false, eqb, ⊎_elim}
use Rattle.std.specs.Prelude.{FitsSigned}
use Rattle.std.proofs.lemmas.Bool.{cases_eq}
use Rattle.std.proofs.lemmas.Bool.Decides.{nat_tests}
use Rattle.lop_basis.specs.Fixed.{product}
use Rattle.lop_basis.specs.Table.{at, cell}
use Rattle.lop_basis.specs.Cells.{difference, ChangesRow, IsFirstInRow, ChangesOthersBelow, IsFirstInOthers, HasAllNew}
use Rattle.lop_basis.specs.Pivot.{new_of_pivot_row, new_cell, turn, IsFirstToLeave}
use Rattle.lop_basis.proofs.RowLemmas.{difference_kept}

-- the new entries of the pivot row
pub new-pivot_row : (t : List ℤ) (n r : ℕ) (column : List ℤ) (j : ℕ) → new_cell t n r column r j ≡ new_of_pivot_row t n r column j
new-pivot_row t n r column j = grind (arith, nat_tests)

-- the new entries of the other rows, where u is the table after the pivot row was divided
pub new-other : (t u : List ℤ) (n r : ℕ) (column : List ℤ) (i j : ℕ) → ChangesRow n r (new_of_pivot_row t n r column) t u → i < n → j < n → i ≢ r → difference u n r column i j ≡ new_cell t n r column i j
new-other t u n r column i j h l m differ =
    let step : difference u n r column i j ≡ cell t n i j -ℤ product (at column i) (new_of_pivot_row t n r column j) = difference_kept (at column i) _ _ _ _ (h.others i j l m differ) (h.row j m) in
    let test : eqb i r ≡ false = grind (arith, nat_tests) in
    rw test step

turn-pivot_row : (r : ℕ) → turn r r ≡ 0
turn-pivot_row r = grind (arith, nat_tests)

turn-other : (r i : ℕ) → i ≢ r → turn r i ≡ suc i
turn-other r i differ = grind (arith, nat_tests)

pub all_new : (t u v : List ℤ) (n r : ℕ) (column : List ℤ) → ChangesRow n r (new_of_pivot_row t n r column) t u → ChangesOthersBelow n r n (difference u n r column) u v → HasAllNew n (new_cell t n r column) v
all_new t u v n r column h k = record {
  fit = λ i j l m. elim (cases_eq i r) [
    | inl e ↦ subst (λ (x : ℕ). FitsSigned w64 (new_cell t n r column x j)) (sym e) (subst (FitsSigned w64) (sym (new-pivot_row t n r column j)) (h.fit j m))
    | inr o ↦ subst (FitsSigned w64) (new-other t u n r column i j h l m o) (k.fit i j l m o)
  ];
  each = λ i j l m. elim (cases_eq i r) [
    | inl e ↦ subst (λ (x : ℕ). cell v n x j ≡ new_cell t n r column x j) (sym e) (k.pivot_row j m ∙ h.row j m ∙ sym (new-pivot_row t n r column j))
    | inr o ↦ k.others i j l m o ∙ new-other t u n r column i j h l m o
  ];
}

-- a number of the pivot row leaves 64 bits
pub first_in_pivot_row : (t : List ℤ) (n r : ℕ) (column : List ℤ) (j : ℕ) → r < n → IsFirstInRow n (new_of_pivot_row t n r column) j → IsFirstToLeave n r (new_cell t n r column) r j
first_in_pivot_row t n r column j row h = record {
  row = row;
  column = h.column;
  leaves = λ fits. h.leaves (subst (FitsSigned w64) (new-pivot_row t n r column j) fits);
  before = λ k l m c before. ⊎_elim
      (λ earlier. let none = turn-pivot_row r in absurd (omega arith))
      (λ same. subst (λ (x : ℕ). FitsSigned w64 (new_cell t n r column x l)) (sym same.0) (subst (FitsSigned w64) (sym (new-pivot_row t n r column l)) (h.before l same.1)))
      before;
}

-- a number of another row leaves 64 bits
pub first_elsewhere : (t u : List ℤ) (n r : ℕ) (column : List ℤ) (i j : ℕ) → ChangesRow n r (new_of_pivot_row t n r column) t u → IsFirstInOthers n r (difference u n r column) i j → IsFirstToLeave n r (new_cell t n r column) i j
first_elsewhere t u n r column i j h f =
    let place = turn-other r i f.other in
    record {
      row = f.row;
      column = f.column;
      leaves = λ fits. f.leaves (subst (FitsSigned w64) (sym (new-other t u n r column i j h f.row f.column f.other)) fits);
      before = λ k l m c before. elim (cases_eq k r) [
        | inl e ↦ subst (λ (x : ℕ). FitsSigned w64 (new_cell t n r column x l)) (sym e) (subst (FitsSigned w64) (sym (new-pivot_row t n r column l)) (h.fit l c))
        | inr o ↦ ⊎_elim
            (λ earlier. let turns = turn-other r k o in let less : k < i = omega arith in subst (FitsSigned w64) (new-other t u n r column k l h m c o) (f.rows_before k l less c o))
            (λ same. subst (λ (x : ℕ). FitsSigned w64 (new_cell t n r column x l)) (sym same.0) (subst (FitsSigned w64) (new-other t u n r column i l h f.row c f.other) (f.before l same.1)))
            before
      ];
    }
