-- Reads and writes of tables of n rows of n numbers.
use Rattle.std.proofs.Common.{◌≡◌, ℕ, ◌+◌, ◌*◌, ◌<◌, List, length, set, inl, inr, sym, ◌∙◌, ap, arith, ℤ, pos, ◌^◌, Bool, true, ◌&&◌, if◌then◌else◌}
use Rattle.std.proofs.lemmas.Bool.{cases_eq}
use Rattle.std.proofs.lemmas.List.{get_or-set_same, get_or-set_other}
use Rattle.std.specs.Prelude.{◌==◌, nat_lt}
use Rattle.std.proofs.lemmas.Bool.Decides.{nat_tests}
use Rattle.std.proofs.lemmas.Nat.{mul-add-lt, same_from_place}
use Rattle.lop_basis.specs.Table.{cell}

-- a row and a column below n have a place in the table
pub place_within : (n i j : ℕ) → i < n → j < n → i * n + j < n * n
place_within n i j l m = mul-add-lt i n j n l m

-- the number that was written
pub cell_written : (t : List ℤ) (n r c : ℕ) (v : ℤ) → length t ≡ n * n → r < n → c < n → cell (set t (r * n + c) v) n r c ≡ v
cell_written t n r c v whole row column = get_or-set_same t (r * n + c) v (pos 0) (omega (arith, place_within n r c row column))

-- the numbers elsewhere
pub cell_elsewhere : (t : List ℤ) (n r c i j : ℕ) (v : ℤ) → c < n → j < n → (i ≡ r → j ≡ c → ⊥) → cell (set t (r * n + c) v) n i j ≡ cell t n i j
cell_elsewhere t n r c i j v column m apart =
    get_or-set_other t (r * n + c) (i * n + j) v (pos 0) (λ same. let place = same_from_place i j r c n m column same in apart place.0 place.1)

-- the diagonal is written up to row i
abbrev pub diagonal_below : ℕ → ℕ → ℕ → ℤ
diagonal_below i a b = if a == b && nat_lt a i then pos (2 ^ 32) else pos 0

choice : (p q : Bool) (x y : ℤ) → p ≡ q → (if p then x else y) ≡ (if q then x else y)
choice p q x y e = ap (λ (v : Bool). if v then x else y) e

-- one more is written on the diagonal
pub diagonal_more : (t : List ℤ) (n i : ℕ) → length t ≡ n * n → i < n → ((a b : ℕ) → a < n → b < n → cell t n a b ≡ diagonal_below i a b) → (a b : ℕ) → a < n → b < n → cell (set t (i * n + i) (pos (2 ^ 32))) n a b ≡ diagonal_below (i + 1) a b
diagonal_more t n i whole row h a b l m =
    elim (cases_eq a i) [
      | inl e ↦ elim (cases_eq b i) [
        | inl f ↦
            let test : (a == b && nat_lt a (i + 1)) ≡ true = grind (arith, nat_tests) in
            ap (λ k. cell (set t (i * n + i) (pos (2 ^ 32))) n k b) e
            ∙ ap (λ k. cell (set t (i * n + i) (pos (2 ^ 32))) n i k) f
            ∙ cell_written t n i i (pos (2 ^ 32)) whole row row
            ∙ sym (choice (a == b && nat_lt a (i + 1)) true (pos (2 ^ 32)) (pos 0) test)
        | inr g ↦
            let test : (a == b && nat_lt a i) ≡ (a == b && nat_lt a (i + 1)) = grind (arith, nat_tests) in
            cell_elsewhere t n i i a b (pos (2 ^ 32)) row m (λ _ same. g same) ∙ h a b l m ∙ choice _ _ (pos (2 ^ 32)) (pos 0) test
      ]
      | inr d ↦
          let test : (a == b && nat_lt a i) ≡ (a == b && nat_lt a (i + 1)) = grind (arith, nat_tests) in
          cell_elsewhere t n i i a b (pos (2 ^ 32)) row m (λ same _. d same) ∙ h a b l m ∙ choice _ _ (pos (2 ^ 32)) (pos 0) test
    ]
