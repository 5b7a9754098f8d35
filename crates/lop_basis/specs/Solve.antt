-- Solving with the inverse from the left (costs times the inverse) and from the right (the inverse times a column).
use Rattle.std.specs.Prelude.{◌≡◌, ℕ, zero, suc, ◌<◌, ◌≤◌, List, ℤ, pos, ◌+ℤ◌, FitsSigned}
use Rattle.std.specs.Int.{w64}
use Rattle.lop_basis.specs.declared.answer.Solved.{Solved}
use Rattle.lop_basis.specs.declared.answer.Solved.TheVariants.{Done, Overflow}
use Rattle.lop_basis.specs.Fixed.{product}
use Rattle.lop_basis.specs.Table.{at, cell}
use Rattle.lop_basis.specs.Basis.{one_more}

-- f 0 + f 1 + .. + f (n - 1)
abbrev pub sum_below : ℕ → (ℕ → ℤ) → ℤ
sum_below zero f = pos 0
sum_below (suc n) f = sum_below n f +ℤ f n

-- costs times column j, each product cut before it is added
abbrev pub row_sum : List ℤ → ℕ → List ℤ → ℕ → ℤ
row_sum t n costs j = sum_below n (λ i. product (at costs i) (cell t n i j))

-- row i times a column, each product cut before it is added
abbrev pub column_sum : List ℤ → ℕ → List ℤ → ℕ → ℤ
column_sum t n column i = sum_below n (λ j. product (cell t n i j) (at column j))

-- the sums at the places below p fit 64 bits and are written, the rest of the list is as it was
pub record AreWrittenBelow (sum : ℕ → ℤ) (p : ℕ) (old new : List ℤ) : Type 0 where
  pub fit : (k : ℕ) → k < p → FitsSigned w64 (sum k)
  pub written : (k : ℕ) → k < p → at new k ≡ sum k
  pub rest : (k : ℕ) → p ≤ k → at new k ≡ at old k

-- all n sums are written, or those before the first that leaves 64 bits
abbrev pub IsSolved : ℕ → (ℕ → ℤ) → List ℤ → Solved → List ℤ → Type 0
IsSolved n sum old Done new = AreWrittenBelow sum n old new
IsSolved n sum old (Overflow p) new = (p < n) × (¬ (FitsSigned w64 (sum p))) × AreWrittenBelow sum p old new

-- the count of refusals after a solve
abbrev pub refused_after : ℕ → Solved → ℕ
refused_after refused Done = refused
refused_after refused (Overflow p) = one_more refused
