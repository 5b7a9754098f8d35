-- A pass over one row of a table.
use Rattle.std.proofs.Common.{◌≡◌, ◌≢◌, ℕ, ◌+◌, ◌*◌, ◌<◌, ◌≤◌, List, length, set, inl, inr, refl, sym, ◌∙◌, ap, subst, arith, ℤ, ◌-ℤ◌, w64}
use Rattle.std.specs.Prelude.{FitsSigned}
use Rattle.std.proofs.lemmas.Bool.{cases_eq}
use Rattle.std.proofs.lemmas.List.{length-set}
use Rattle.lop_basis.specs.Fixed.{product}
use Rattle.lop_basis.specs.Table.{cell}
use Rattle.lop_basis.specs.Table.{at}
use Rattle.lop_basis.specs.Cells.{difference, ChangesRow, IsFirstInRow, ChangesOthersBelow, IsFirstInOthers}
use Rattle.lop_basis.proofs.TableLemmas.{cell_written, cell_elsewhere}

-- row r has the new numbers in the columns below p, and all else is as it was
pub record HasChangedBelow (n r p : ℕ) (new : ℕ → ℤ) (t u : List ℤ) : Type 0 where
  pub same_length : length u ≡ length t
  pub fit : (j : ℕ) → j < p → FitsSigned w64 (new j)
  pub row : (j : ℕ) → j < p → cell u n r j ≡ new j
  pub later : (j : ℕ) → p ≤ j → j < n → cell u n r j ≡ cell t n r j
  pub others : (i j : ℕ) → i < n → j < n → i ≢ r → cell u n i j ≡ cell t n i j

pub nothing_changed : (n r : ℕ) (new : ℕ → ℤ) (t : List ℤ) → HasChangedBelow n r 0 new t t
nothing_changed n r new t = record {
  same_length = refl;
  fit = λ j l. absurd (omega arith);
  row = λ j l. absurd (omega arith);
  later = λ j l m. refl;
  others = λ i j l m differ. refl;
}

-- one more column is written
pub changed_more : (n r p : ℕ) (new : ℕ → ℤ) (t u : List ℤ) (v : ℤ) → length t ≡ n * n → r < n → p < n → HasChangedBelow n r p new t u → v ≡ new p → FitsSigned w64 (new p) → HasChangedBelow n r (p + 1) new t (set u (r * n + p) v)
changed_more n r p new t u v square row column h is fit =
    let whole : length u ≡ n * n = h.same_length ∙ square in
    record {
      same_length = length-set u (r * n + p) v ∙ h.same_length;
      fit = λ j l. elim (cases_eq j p) [ inl e ↦ subst (λ (k : ℕ). FitsSigned w64 (new k)) (sym e) fit | inr d ↦ h.fit j (omega arith) ];
      row = λ j l. elim (cases_eq j p) [
        | inl e ↦ subst (λ (k : ℕ). cell (set u (r * n + p) v) n r k ≡ new k) (sym e) (cell_written u n r p v whole row column ∙ is)
        | inr d ↦ cell_elsewhere u n r p r j v column (omega arith) (λ _ same. d same) ∙ h.row j (omega arith)
      ];
      later = λ j l m. cell_elsewhere u n r p r j v column m (λ _ same. absurd (omega arith)) ∙ h.later j (omega arith) m;
      others = λ i j l m differ. cell_elsewhere u n r p i j v column m (λ same _. differ same) ∙ h.others i j l m differ;
    }

pub changed_all : (n r : ℕ) (new : ℕ → ℤ) (t u : List ℤ) → HasChangedBelow n r n new t u → ChangesRow n r new t u
changed_all n r new t u h = record { same_length = h.same_length; fit = h.fit; row = h.row; others = h.others }

pub first_in_row : (n r p : ℕ) (new : ℕ → ℤ) (t u : List ℤ) → p < n → HasChangedBelow n r p new t u → ¬ (FitsSigned w64 (new p)) → IsFirstInRow n new p
first_in_row n r p new t u column h leaves = record { column = column; leaves = leaves; before = h.fit }

-- a difference of equal numbers
pub difference_kept : (f a b x y : ℤ) → a ≡ b → x ≡ y → a -ℤ product f x ≡ b -ℤ product f y
difference_kept f a b x y p q = ap (λ (z : ℤ). z -ℤ product f x) p ∙ ap (λ (z : ℤ). b -ℤ product f z) q

-- the rows below p but the pivot row have their differences, and all else is as it was
pub record HaveChangedBelow (n r p : ℕ) (column t u : List ℤ) : Type 0 where
  pub changes : ChangesOthersBelow n r p (difference t n r column) t u
  pub later : (i j : ℕ) → p ≤ i → i < n → j < n → cell u n i j ≡ cell t n i j

pub no_row_changed : (n r : ℕ) (column t : List ℤ) → HaveChangedBelow n r 0 column t t
no_row_changed n r column t = record {
  changes = record { same_length = refl; fit = λ i j l m d. absurd (omega arith); others = λ i j l m d. absurd (omega arith); pivot_row = λ j l. refl };
  later = λ i j l m k. refl;
}

-- the pivot row is passed over
pub pivot_row_passed : (n r p : ℕ) (column t u : List ℤ) → p ≡ r → HaveChangedBelow n r p column t u → HaveChangedBelow n r (p + 1) column t u
pivot_row_passed n r p column t u e h = record {
  changes = record {
    same_length = h.changes.same_length;
    fit = λ i j l m d. h.changes.fit i j (omega arith) m d;
    others = λ i j l m d. h.changes.others i j (omega arith) m d;
    pivot_row = h.changes.pivot_row;
  };
  later = λ i j l m k. h.later i j (omega arith) m k;
}

-- the differences of a row that was not changed yet
same_difference : (n r p : ℕ) (column t u : List ℤ) → p < n → HaveChangedBelow n r p column t u → (j : ℕ) → j < n → difference u n r column p j ≡ difference t n r column p j
same_difference n r p column t u row h j l =
    difference_kept (at column p) _ _ _ _ (h.later p j (omega arith) row l) (h.changes.pivot_row j l)

-- one more row is changed
pub row_changed : (n r p : ℕ) (column t u v : List ℤ) → r < n → p < n → p ≢ r → HaveChangedBelow n r p column t u → ChangesRow n p (difference u n r column p) u v → HaveChangedBelow n r (p + 1) column t v
row_changed n r p column t u v pivot row differ h k =
    let same = same_difference n r p column t u row h in
    record {
      changes = record {
        same_length = k.same_length ∙ h.changes.same_length;
        fit = λ i j l m d. elim (cases_eq i p) [
          | inl e ↦ subst (λ (x : ℕ). FitsSigned w64 (difference t n r column x j)) (sym e) (subst (FitsSigned w64) (same j m) (k.fit j m))
          | inr o ↦ h.changes.fit i j (omega arith) m d
        ];
        others = λ i j l m d. elim (cases_eq i p) [
          | inl e ↦ subst (λ (x : ℕ). cell v n x j ≡ difference t n r column x j) (sym e) (k.row j m ∙ same j m)
          | inr o ↦ k.others i j (omega arith) m o ∙ h.changes.others i j (omega arith) m d
        ];
        pivot_row = λ j m. k.others r j pivot m (λ e. differ (sym e)) ∙ h.changes.pivot_row j m;
      };
      later = λ i j l m c. k.others i j m c (λ e. absurd (omega arith)) ∙ h.later i j (omega arith) m c;
    }

pub first_in_others : (n r p j : ℕ) (column t u : List ℤ) → p < n → p ≢ r → HaveChangedBelow n r p column t u → IsFirstInRow n (difference u n r column p) j → IsFirstInOthers n r (difference t n r column) p j
first_in_others n r p j column t u row differ h k =
    let same = same_difference n r p column t u row h in
    record {
      row = row;
      other = differ;
      column = k.column;
      leaves = λ fits. k.leaves (subst (FitsSigned w64) (sym (same j k.column)) fits);
      rows_before = λ i l m c d. h.changes.fit i l m c d;
      before = λ l m. subst (FitsSigned w64) (same l (let c = k.column in omega arith)) (k.before l m);
    }
