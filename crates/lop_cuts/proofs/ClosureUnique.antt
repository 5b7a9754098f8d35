-- Two closures of the same pairs are the same list: they have the same pairs, and both rise.
use Rattle.std.proofs.Common.{◌≡◌, ◌⊎◌, ℕ, suc, ◌<◌, Bool, true, false, ◌||◌, List, [], ◌∷◌, length, get_or, refl, sym, ◌∙◌, ap, subst, inl, inr, arith}
use Rattle.std.specs.Prelude.{IsTrue}
use Rattle.std.specs.List.{AllPairs}
use Rattle.std.proofs.lemmas.Bool.{false≢true}
use Rattle.lop_model.specs.declared.pair.Pair.{Pair}
use Rattle.lop_model.specs.Fixings.{has_pair, ComesBefore, IsClosure}
use Rattle.lop_cuts.specs.Arcs.{arc, same_arc}
use Rattle.lop_cuts.proofs.ArcLemmas.{same_arc-true, same_arc-refl}

same_tests : (f g : Bool) → (IsTrue f → IsTrue g) → (IsTrue g → IsTrue f) → f ≡ g
same_tests true g p q = sym (p refl)
same_tests false true p q = q refl
same_tests false false p q = refl

-- two closures of the same pairs have the same pairs
pub has_pair-closures : (F G H : List Pair) (a b : ℕ) → IsClosure F G → IsClosure F H → has_pair G a b ≡ has_pair H a b
has_pair-closures F G H a b c d = same_tests (has_pair G a b) (has_pair H a b) (λ t. (d.each a b).1 ((c.each a b).0 t)) (λ t. (c.each a b).1 ((d.each a b).0 t))

-- where a pair of the list stands
record Place (xs : List Pair) (p : Pair) : Type 0 where
  place : ℕ
  within : place < length xs
  is : get_or xs place (arc 0 0) ≡ p

either : (s h : Bool) → (s || h) ≡ true → (s ≡ true) ⊎ (h ≡ true)
either true h e = inl refl
either false h e = inr e

place_in : (xs : List Pair) (p : Pair) → has_pair xs p.before p.after ≡ true → Place xs p
place_in [] p e = absurd (false≢true e)
place_in (x ∷ xs) p e = elim (either (same_arc x p) (has_pair xs p.before p.after) e) [
  | inl here ↦ record { place = 0; within = omega arith; is = same_arc-true x p here }
  | inr there ↦ let later = place_in xs p there in record { place = suc later.place; within = let l = later.within in omega (arith, l); is = later.is }
]

first_before : (x : Pair) (xs : List Pair) (p : Pair) → AllPairs ComesBefore (x ∷ xs) → has_pair xs p.before p.after ≡ true → ComesBefore x p
first_before x xs p rising e =
    let at = place_in xs p e in
    subst (λ q. ComesBefore x q) at.is (rising 0 (suc at.place) (arc 0 0) (omega arith) (let l = at.within in omega (arith, l)))

not_both_ways : (p q : Pair) → ComesBefore p q → ComesBefore q p → ⊥
not_both_ways p q (inl h) (inl k) = omega arith
not_both_ways p q (inl h) (inr k) = let e = k.0 in omega (arith, e)
not_both_ways p q (inr h) (inl k) = let e = h.0 in omega (arith, e)
not_both_ways p q (inr h) (inr k) = let e = h.1 in let f = k.1 in omega (arith, e, f)

tail_rises : (x : Pair) (xs : List Pair) → AllPairs ComesBefore (x ∷ xs) → AllPairs ComesBefore xs
tail_rises x xs rising i j d l m = rising (suc i) (suc j) d (omega arith) (omega arith)

first_in : (s h : Bool) → s ≡ true → (s || h) ≡ true
first_in true h e = refl
first_in false h e = absurd (false≢true e)

same_first : (x y : Pair) (xs ys : List Pair) → AllPairs ComesBefore (x ∷ xs) → AllPairs ComesBefore (y ∷ ys) → ((a b : ℕ) → has_pair (x ∷ xs) a b ≡ has_pair (y ∷ ys) a b) → x ≡ y
same_first x y xs ys rx ry same =
    let x_in : has_pair (y ∷ ys) x.before x.after ≡ true = sym (same x.before x.after) ∙ first_in (same_arc x x) (has_pair xs x.before x.after) (same_arc-refl x) in
    let y_in : has_pair (x ∷ xs) y.before y.after ≡ true = same y.before y.after ∙ first_in (same_arc y y) (has_pair ys y.before y.after) (same_arc-refl y) in
    elim (either (same_arc y x) (has_pair ys x.before x.after) x_in) [
      | inl e ↦ sym (same_arc-true y x e)
      | inr later ↦ elim (either (same_arc x y) (has_pair xs y.before y.after) y_in) [
        | inl e ↦ same_arc-true x y e
        | inr after ↦ absurd (not_both_ways y x (first_before y ys x ry later) (first_before x xs y rx after))
      ]
    ]

same_rest : (s h k : Bool) → (s ≡ true → h ≡ true → ⊥) → (s ≡ true → k ≡ true → ⊥) → (s || h) ≡ (s || k) → h ≡ k
same_rest true true k p q e = absurd (p refl refl)
same_rest true false true p q e = absurd (q refl refl)
same_rest true false false p q e = refl
same_rest false h k p q e = e

not_again : (x : Pair) (xs : List Pair) (a b : ℕ) → AllPairs ComesBefore (x ∷ xs) → same_arc x (arc a b) ≡ true → has_pair xs a b ≡ true → ⊥
not_again x xs a b rising here there =
    let is : x ≡ arc a b = same_arc-true x (arc a b) here in
    let before : ComesBefore x (arc a b) = first_before x xs (arc a b) rising there in
    let itself : ComesBefore x x = subst (λ p. ComesBefore x p) (sym is) before in
    not_both_ways x x itself itself

pub same_rising : (G H : List Pair) → AllPairs ComesBefore G → AllPairs ComesBefore H → ((a b : ℕ) → has_pair G a b ≡ has_pair H a b) → G ≡ H
same_rising [] [] rg rh same = refl
same_rising [] (y ∷ ys) rg rh same = absurd (false≢true (same y.before y.after ∙ first_in (same_arc y y) (has_pair ys y.before y.after) (same_arc-refl y)))
same_rising (x ∷ xs) [] rg rh same = absurd (false≢true (sym (same x.before x.after) ∙ first_in (same_arc x x) (has_pair xs x.before x.after) (same_arc-refl x)))
same_rising (x ∷ xs) (y ∷ ys) rg rh same =
    let e : x ≡ y = same_first x y xs ys rg rh same in
    let rises : AllPairs ComesBefore (x ∷ ys) = subst (λ z. AllPairs ComesBefore (z ∷ ys)) (sym e) rh in
    let rest : xs ≡ ys = same_rising xs ys (tail_rises x xs rg) (tail_rises y ys rh) (λ a b.
    same_rest (same_arc x (arc a b)) (has_pair xs a b) (has_pair ys a b) (not_again x xs a b rg) (not_again x ys a b rises)
    (same a b ∙ ap (λ z. same_arc z (arc a b) || has_pair ys a b) (sym e))) in
    ap (λ z. z ∷ xs) e ∙ ap (λ zs. y ∷ zs) rest

-- the closure is one list
pub IsClosure-unique : (F G H : List Pair) → IsClosure F G → IsClosure F H → G ≡ H
IsClosure-unique F G H c d = same_rising G H c.rising d.rising (λ a b. has_pair-closures F G H a b c d)
