-- Objects and the numbers that stand for them in a line.
use Rattle.std.proofs.Common.{◌≡◌, ℕ, ◌+◌, ◌-◌, ◌<◌, ◌≤◌, zero, suc, Bool, true, ◌&&◌, ◌==◌, List, [], ◌∷◌, length, get_or, nat_eq, nat_abs, ℤ, pos, negsuc, refl, sym, ◌∙◌, ap, arith}
use Rattle.std.specs.Prelude.{All, int_le}
use Rattle.std.specs.List.{IsDistinct}
use Rattle.std.proofs.lemmas.Bool.{and_parts, and_from, false≢true, leb-true, le-leb, eq-eqb, ne_eqb, eqb-true, eqb-false}
use Rattle.std.proofs.lemmas.Grind.{get_or_default_zero}
use Rattle.std.proofs.lemmas.List.{length-map}
use Rattle.std.proofs.lemmas.List.Elements.{All-nil, All-cons, All-head, All-tail, All-from_get_or}
use Rattle.std.proofs.lemmas.Map.Keys.{apart_from_distinct, IsDistinct-from_apart}
use Rattle.lop_model.specs.Order.{IsOrder}
use Rattle.lop_cuts.specs.CutTests.{are_different}
use Rattle.lop_cuts.proofs.CutTests.{IsDistinct-are_different, are_different-IsDistinct}
use Rattle.lop_certtext.specs.Answer.{is_order}
use Rattle.lop_certtext.specs.CutLine.{numbers_of_objects, objects_of, name_objects}

abbrev in_range : ℕ → ℤ → Bool
in_range n x = int_le (pos 1) x && int_le x (pos n)

-- a number of 1 to n stands for an object below n
pub one_object : (n : ℕ) (x : ℤ) → in_range n x ≡ true → (pos ((nat_abs x - 1) + 1) ≡ x) × (nat_abs x - 1 < n)
one_object n (pos zero) e = absurd (false≢true e)
one_object n (pos (suc a)) e =
    let high : suc a ≤ n = leb-true (suc a) n (and_parts (int_le (pos 1) (pos (suc a))) (int_le (pos (suc a)) (pos n)) e).1 in
    let same : (suc a - 1) + 1 ≡ suc a = omega arith in
    (ap pos same, omega arith)
one_object n (negsuc a) e = absurd (false≢true e)

pub numbers_of_objects-objects_of : (n : ℕ) (ns : List ℤ) → name_objects n ns ≡ true → numbers_of_objects (objects_of ns) ≡ ns
numbers_of_objects-objects_of n [] e = refl
numbers_of_objects-objects_of n (x ∷ ns) e =
    let parts = and_parts (in_range n x) (name_objects n ns) e in
    ap (λ (y : ℤ). y ∷ numbers_of_objects (objects_of ns)) (one_object n x parts.0).0 ∙ ap (λ (l : List ℤ). x ∷ l) (numbers_of_objects-objects_of n ns parts.1)

pub objects_of-below : (n : ℕ) (ns : List ℤ) → name_objects n ns ≡ true → All (λ a. a < n) (objects_of ns)
objects_of-below n [] e = All-nil (λ a. a < n)
objects_of-below n (x ∷ ns) e =
    let parts = and_parts (in_range n x) (name_objects n ns) e in
    All-cons (λ a. a < n) (nat_abs x - 1) (objects_of ns) (one_object n x parts.0).1 (objects_of-below n ns parts.1)

pub objects_of-numbers : (s : List ℕ) → objects_of (numbers_of_objects s) ≡ s
objects_of-numbers [] = refl
objects_of-numbers (a ∷ s) =
    let same : (a + 1) - 1 ≡ a = omega arith in
    ap (λ (x : ℕ). x ∷ objects_of (numbers_of_objects s)) same ∙ ap (λ (l : List ℕ). a ∷ l) (objects_of-numbers s)

pub name_objects-numbers : (n : ℕ) (s : List ℕ) → All (λ a. a < n) s → name_objects n (numbers_of_objects s) ≡ true
name_objects-numbers n [] h = refl
name_objects-numbers n (a ∷ s) h =
    let below : a < n = All-head (λ x. x < n) a s h in
    and_from _ _ (and_from _ _ (le-leb 1 (a + 1) (omega arith)) (le-leb (a + 1) n (omega arith))) (name_objects-numbers n s (All-tail (λ x. x < n) a s h))

-- ---- the numbers of an order

pub is_order-order : (n : ℕ) (s : List ℕ) → IsOrder n s → is_order n (numbers_of_objects s) ≡ true
is_order-order n s o =
    let whole : length s ≡ n = o.complete in
    let below : All (λ a. a < n) s = All-from_get_or (λ a. a < n) s 0 (λ p l. o.below p (omega arith)) in
    let apart : IsDistinct nat_eq s = IsDistinct-from_apart nat_eq s (λ i j d l m.
    ne_eqb (get_or s i d) (get_or s j d) (λ e. o.distinct i j l (omega arith) (sym (get_or_default_zero s i d (omega arith)) ∙ e ∙ get_or_default_zero s j d (omega arith)))) in
    and_from _ _ (and_from _ _ (eq-eqb _ n (length-map s (λ a. pos (a + 1)) ∙ whole)) (name_objects-numbers n s below)) (ap are_different (objects_of-numbers s) ∙ are_different-IsDistinct s apart)

pub IsOrder-is_order : (n : ℕ) (ns : List ℤ) → is_order n ns ≡ true → IsOrder n (objects_of ns) × (numbers_of_objects (objects_of ns) ≡ ns)
IsOrder-is_order n ns e =
    let s = objects_of ns in
    let parts = and_parts (length ns == n && name_objects n ns) (are_different s) e in
    let first = and_parts (length ns == n) (name_objects n ns) parts.0 in
    let whole : length s ≡ n = length-map ns (λ m. nat_abs m - 1) ∙ eqb-true (length ns) n first.0 in
    let below : All (λ a. a < n) s = objects_of-below n ns first.1 in
    let apart : IsDistinct nat_eq s = IsDistinct-are_different s parts.1 in (
      record {
        complete = whole;
        below = λ p l. below p 0 (omega arith);
        distinct = λ p q l m. eqb-false (get_or s p 0) (get_or s q 0) (apart_from_distinct nat_eq s p q 0 apart l (omega arith));
      },
      numbers_of_objects-objects_of n ns first.1,
    )
