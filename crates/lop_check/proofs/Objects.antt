-- The numbers of an order's line, and the order that they spell.
use Rattle.std.proofs.Common.{◌≡◌, ℕ, zero, suc, ◌+◌, ◌-◌, ◌<◌, ◌≤◌, Bool, true, false, not, nat_eq, eqb, ◌&&◌, ◌||◌, List, [], ◌∷◌, length, get_or, drop, ℤ, pos, negsuc, nat_abs, refl, sym, ◌∙◌, ap, add-one, drop-cons, arith}
use Rattle.std.specs.Prelude.{int_le}
use Rattle.std.specs.List.{list_all, list_any}
use Rattle.std.proofs.lemmas.Bool.{leb-true}
use Rattle.std.proofs.lemmas.Bool.Decides.{nat_tests}
use Rattle.std.proofs.lemmas.List.{get_or-map, length-map, drop_all}
use Rattle.lop_model.specs.Order.{IsOrder}
use Rattle.lop_cuts.specs.CutTests.{are_different}
use Rattle.lop_certtext.specs.CutLine.{objects_of, name_objects}
use Rattle.lop_certtext.specs.Answer.{is_order}
use Rattle.lop_certtext.proofs.ObjectNumbers.{IsOrder-is_order}

-- ---- no object twice, number by number

-- a number's object is one that these stand for
abbrev pub is_among : List ℤ → ℤ → Bool
is_among ns x = list_any (λ y. nat_eq (nat_abs x - 1) (nat_abs y - 1)) ns

others_free : (x : ℤ) (ns : List ℤ) → list_all (λ a. not (nat_eq (nat_abs x - 1) a)) (objects_of ns) ≡ not (is_among ns x)
others_free x [] = refl
others_free x (y ∷ ns) = ap (λ (b : Bool). not (nat_eq (nat_abs x - 1) (nat_abs y - 1)) && b) (others_free x ns) ∙ neither_of (nat_eq (nat_abs x - 1) (nat_abs y - 1)) (is_among ns x)
  where
    neither_of : (a b : Bool) → (not a && not b) ≡ not (a || b)
    neither_of true b = refl
    neither_of false b = refl

-- the test from the number at p on
pub different_from : (ns : List ℤ) (p : ℕ) → p < length ns → are_different (objects_of (drop p ns)) ≡ (not (is_among (drop (p + 1) ns) (get_or ns p (pos 0))) && are_different (objects_of (drop (p + 1) ns)))
different_from ns p l =
    let x = get_or ns p (pos 0) in
    ap (λ (xs : List ℤ). are_different (objects_of xs)) (drop-cons ns p (pos 0) l ∙ ap (λ (k : ℕ). x ∷ drop k ns) (sym (add-one p)))
    ∙ ap (λ (b : Bool). b && are_different (objects_of (drop (p + 1) ns))) (others_free x (drop (p + 1) ns))

pub different_more : (ns : List ℤ) (p : ℕ) → p < length ns → is_among (drop (p + 1) ns) (get_or ns p (pos 0)) ≡ false → are_different (objects_of (drop p ns)) ≡ are_different (objects_of (drop (p + 1) ns))
different_more ns p l e = different_from ns p l ∙ ap (λ (b : Bool). not b && are_different (objects_of (drop (p + 1) ns))) e

pub different_not : (ns : List ℤ) (p : ℕ) → p < length ns → is_among (drop (p + 1) ns) (get_or ns p (pos 0)) ≡ true → are_different (objects_of (drop p ns)) ≡ false
different_not ns p l e = different_from ns p l ∙ ap (λ (b : Bool). not b && are_different (objects_of (drop (p + 1) ns))) e

pub different_all : (ns : List ℤ) (p : ℕ) → length ns ≤ p → are_different (objects_of (drop p ns)) ≡ true
different_all ns p l = ap (λ (xs : List ℤ). are_different (objects_of xs)) (drop_all p ns l)

-- ---- what the test shows

both : (a b : Bool) → (a && b) ≡ true → (a ≡ true) × (b ≡ true)
both true true e = (refl, refl)
both true false e = (refl, e)
both false b e = (e, absurd cc)

first_bound : (x : ℤ) → int_le (pos 1) x ≡ true → 0 < nat_abs x
first_bound (pos a) e = let h : 1 ≤ a = leb-true 1 a e in omega arith
first_bound (negsuc a) e = absurd cc

last_bound : (x : ℤ) (n : ℕ) → int_le (pos 1) x ≡ true → int_le x (pos n) ≡ true → nat_abs x ≤ n
last_bound (pos a) n f e = leb-true a n e
last_bound (negsuc a) n f e = absurd cc

abbrev IsBetween : ℕ → ℕ → Type 0
IsBetween n k = (0 < k) × (k ≤ n)

each_between : (n : ℕ) (ns : List ℤ) → name_objects n ns ≡ true → (k : ℕ) → k < length ns → IsBetween n (nat_abs (get_or ns k (pos 0)))
each_between n [] e k l = absurd (omega arith)
each_between n (x ∷ xs) e zero l =
    let range = both (int_le (pos 1) x) (int_le x (pos n)) (both (int_le (pos 1) x && int_le x (pos n)) (name_objects n xs) e).0 in
    (first_bound x range.0, last_bound x n range.0 range.1)
each_between n (x ∷ xs) e (suc k) l = each_between n xs (both (int_le (pos 1) x && int_le x (pos n)) (name_objects n xs) e).1 k (omega arith)

module _ (n : ℕ) (ns : List ℤ) (e : is_order n ns ≡ true) where
  passes : (length ns ≡ n) × (name_objects n ns ≡ true)
  passes =
      let t = both (eqb (length ns) n) (name_objects n ns) (both (eqb (length ns) n && name_objects n ns) (are_different (objects_of ns)) e).0 in
      let whole : eqb (length ns) n ≡ true = t.0 in
      (grind (arith, nat_tests), t.1)

  pub numbers_whole : length ns ≡ n
  numbers_whole = passes.0

  pub number_between : (k : ℕ) → k < length ns → IsBetween n (nat_abs (get_or ns k (pos 0)))
  number_between = each_between n ns passes.1

  pub object_read : (k : ℕ) → k < length ns → get_or (objects_of ns) k 0 ≡ nat_abs (get_or ns k (pos 0)) - 1
  object_read k l = get_or-map (λ x. nat_abs x - 1) ns k (pos 0) 0 l

  pub objects_whole : length (objects_of ns) ≡ n
  objects_whole = length-map ns (λ x. nat_abs x - 1) ∙ numbers_whole

  -- numbers that pass the test spell an order
  pub IsOrder-objects_of : IsOrder n (objects_of ns)
  IsOrder-objects_of = (IsOrder-is_order n ns e).0
