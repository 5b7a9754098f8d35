-- Lists of objects that are in range and differ.
use Rattle.std.proofs.Common.{◌≡◌, ◌+◌, ◌<◌, ℕ, false, List, [], ◌∷◌, length, take, get_or, nat_eq, refl, sym, ◌∙◌, subst}
use Rattle.std.specs.List.{IsDistinct, list_any}
use Rattle.std.proofs.lemmas.Cmp.{nat_eq_equiv}
use Rattle.std.proofs.lemmas.List.{take_more}
use Rattle.std.proofs.lemmas.List.Elements.{All-more, All-nil}
use Rattle.std.proofs.lemmas.Map.Keys.{IsDistinct-push}
use Rattle.lop_cuts.specs.Fault.{AreObjects}

-- no objects all differ
pub IsDistinct-none : IsDistinct nat_eq []
unfolding IsDistinct
IsDistinct-none = tt

-- no objects are all right
pub AreObjects-none : (n : ℕ) → AreObjects n []
unfolding IsDistinct
AreObjects-none n = record { in_range = All-nil (λ x. x < n); distinct = tt }

-- a test with its arguments the other way round
pub list_any-nat_eq : (x : ℕ) (xs : List ℕ) → list_any (nat_eq x) xs ≡ list_any (λ y. nat_eq y x) xs
list_any-nat_eq x [] = refl
list_any-nat_eq x (y ∷ ys) = rw (nat_eq_equiv.symm x y, list_any-nat_eq x ys)

-- one more object, other than those before
pub IsDistinct_more : (xs : List ℕ) (i : ℕ) → i < length xs → list_any (λ y. nat_eq y (get_or xs i 0)) (take i xs) ≡ false → IsDistinct nat_eq (take i xs) → IsDistinct nat_eq (take (i + 1) xs)
IsDistinct_more xs i l new before =
    let x = get_or xs i 0 in
    let P : List ℕ → Type 0 = λ ys. IsDistinct nat_eq ys in
    subst P (sym (take_more xs i 0 l)) (IsDistinct-push nat_eq_equiv (take i xs) x before (list_any-nat_eq x (take i xs) ∙ new))

-- one more object, in range and other than those before
pub AreObjects_more : (n : ℕ) (xs : List ℕ) (i : ℕ) → i < length xs → get_or xs i 0 < n → list_any (λ y. nat_eq y (get_or xs i 0)) (take i xs) ≡ false → AreObjects n (take i xs) → AreObjects n (take (i + 1) xs)
AreObjects_more n xs i l in_range new before =
    record {
      in_range = All-more (λ y. y < n) xs i 0 l before.in_range in_range;
      distinct = IsDistinct_more xs i l new before.distinct;
    }
