-- Beginnings of a list, and the entries of one worker in them.
use Rattle.std.proofs.Common.{Option, ◌≡◌, ◌≢◌, ℕ, zero, suc, ◌<◌, ◌⊎◌, inl, inr, Bool, true, false, cond, eqb, ltb, Some, None, List, [], ◌∷◌, ◌++◌, length, drop, sym, refl, ap, ◌∙◌, arith, append_assoc, append-nil, length-append, ne_eqb, eq-eqb}
use Rattle.std.proofs.lemmas.List.Elements.{filter-append}
use Rattle.std.proofs.Math.Seq.{drop-append_seam}
use Rattle.std.specs.List.{All, Contains}
use Rattle.std.proofs.lemmas.Bool.{false≢true}
use Rattle.std.specs.Option.{IsSome}
use mathlib.Core.Option.{some, some-injective, some-ne-none}
use lib.ListN.{get_elem?}
use Rattle.lop_turn.specs.Lists.{StartsWith, entries_by, longer, list_at}

module _ {E : Type 0} where
  -- a list begins with itself
  pub starts_same : (a : List E) → StartsWith a a
  starts_same a = ([], sym (append-nil a))

  -- a list with more behind it begins with the list
  pub starts_more : (a b : List E) → StartsWith (a ++ b) a
  starts_more a b = (b, refl)

  -- a beginning of a beginning is a beginning
  pub starts_trans : (a b c : List E) → StartsWith a b → StartsWith b c → StartsWith a c
  starts_trans a b c p q = (q.0 ++ p.0, p.1 ∙ (ap (λ (x : List E). x ++ p.0) q.1 ∙ append_assoc c q.0 p.0))

  -- of two beginnings of a history the longer is one
  pub starts_longer : (h a b : List E) → StartsWith h a → StartsWith h b → StartsWith h (longer a b)
  starts_longer h a b p q = pick (ltb (length a) (length b)) where
    pick : (t : Bool) → StartsWith h (cond t b a)
    pick true = q
    pick false = p

  -- where two lists begin with the opening, the longer does
  pub longer_starts : (o a b : List E) → StartsWith a o → StartsWith b o → StartsWith (longer a b) o
  longer_starts o a b p q = pick (ltb (length a) (length b)) where
    pick : (t : Bool) → StartsWith (cond t b a) o
    pick true = q
    pick false = p

  -- a list of length 0 is empty
  empty : (a : List E) → length a ≡ 0 → a ≡ []
  empty [] e = refl
  empty (x ∷ xs) e = absurd (omega arith)

  -- the entries of a worker in two lists, one behind the other
  pub entries_by-append : (worker : E → ℕ) (n : ℕ) (a b : List E) → entries_by worker n (a ++ b) ≡ entries_by worker n a ++ entries_by worker n b
  entries_by-append worker n a b = filter-append (λ e. eqb (worker e) n) a b

  -- of what one worker did, another did nothing
  pub entries_by-none : (worker : E → ℕ) (n m : ℕ) (a : List E) → All (λ e. worker e ≡ m) a → n ≢ m → entries_by worker n a ≡ []
  entries_by-none worker n m [] all ne = refl
  entries_by-none worker n m (x ∷ xs) all ne =
      let here : worker x ≡ m = all 0 x (omega arith) in
      let no : eqb (worker x) n ≡ false = ne_eqb (worker x) n (λ e. ne (sym e ∙ here)) in
      ap (λ (b : Bool). cond b (x ∷ entries_by worker n xs) (entries_by worker n xs)) no ∙ entries_by-none worker n m xs (λ k d lt. all (suc k) d (omega arith)) ne

  -- of what one worker did, it did all
  pub entries_by-all : (worker : E → ℕ) (n : ℕ) (a : List E) → All (λ e. worker e ≡ n) a → entries_by worker n a ≡ a
  entries_by-all worker n [] all = refl
  entries_by-all worker n (x ∷ xs) all =
      let here : worker x ≡ n = all 0 x (omega arith) in
      ap (λ (b : Bool). cond b (x ∷ entries_by worker n xs) (entries_by worker n xs)) (eq-eqb (worker x) n here) ∙ ap (λ (l : List E). x ∷ l) (entries_by-all worker n xs (λ k d lt. all (suc k) d (omega arith)))

  -- where a worker appends to a history, its own entries gain what it appended
  pub entries_by-grown : (worker : E → ℕ) (n : ℕ) (before more past mine : List E) → past ≡ before ++ more → All (λ e. worker e ≡ n) more → entries_by worker n before ≡ mine
      → entries_by worker n past ≡ mine ++ drop (length before) past
  entries_by-grown worker n before more past mine grew all own =
      let new : drop (length before) past ≡ more = ap (drop (length before)) grew ∙ drop-append_seam before more in
      ap (entries_by worker n) grew ∙ (entries_by-append worker n before more ∙ (ap (λ (l : List E). l ++ entries_by worker n more) own ∙ ap (λ (l : List E). mine ++ l) (entries_by-all worker n more all ∙ sym new)))

  -- whoever did nothing between two moments had done as much at a moment in between
  pub entries_by-between : (worker : E → ℕ) (n : ℕ) (h s o : List E) → StartsWith h s → StartsWith s o → entries_by worker n h ≡ entries_by worker n o → entries_by worker n s ≡ entries_by worker n h
  entries_by-between worker n h s o p q e =
      let whole : entries_by worker n h ≡ entries_by worker n s ++ entries_by worker n p.0 = ap (entries_by worker n) p.1 ∙ entries_by-append worker n s p.0 in
      let part : entries_by worker n s ≡ entries_by worker n o ++ entries_by worker n q.0 = ap (entries_by worker n) q.1 ∙ entries_by-append worker n o q.0 in
      let none : entries_by worker n p.0 ≡ [] = empty (entries_by worker n p.0) (omega (arith, ap length whole, ap length part, ap length e, length-append (entries_by worker n s) (entries_by worker n p.0), length-append (entries_by worker n o) (entries_by worker n q.0))) in
      sym (whole ∙ (ap (λ (x : List E). entries_by worker n s ++ x) none ∙ append-nil (entries_by worker n s)))

  -- at the number of the first pair stands its list
  pub list_at-here : (xs : List E) (rest : List (ℕ × List E)) (n : ℕ) → list_at ((n, xs) ∷ rest) n ≡ Some xs
  list_at-here xs rest n = ap (λ (b : Bool). cond b (Some xs) (list_at rest n)) (eq-eqb n n refl)

  -- at any other number stands what stood there without the first pair
  pub list_at-other : (xs : List E) (rest : List (ℕ × List E)) (n m : ℕ) → n ≢ m → list_at ((n, xs) ∷ rest) m ≡ list_at rest m
  list_at-other xs rest n m ne = ap (λ (b : Bool). cond b (Some xs) (list_at rest m)) (ne_eqb n m ne)

module _ {A : Type 0} where
  -- nothing is not something
  pub none-some : (a : A) → None ≡ Some a → ⊥
  none-some a e = cc

  -- two options that are the same have the same value
  pub some-same : (a b : A) → Some a ≡ Some b → a ≡ b
  some-same a b e = cc

  -- an option that has a value, and the value
  pub found : (x : Option A) → IsSome x → (a : A) × (x ≡ Some a)
  found None h = absurd (false≢true h)
  found (Some a) h = (a, refl)

  -- where a place has an element, it lies in the list
  pub in_range : (l : List A) (i : ℕ) (a : A) → get_elem? l i ≡ some a → i < length l
  in_range [] i a e = absurd (some-ne-none a (sym e))
  in_range (x ∷ xs) zero a e = omega arith
  in_range (x ∷ xs) (suc i) a e = let p = in_range xs i a e in omega arith

  -- a place has one element
  pub same_at : (l : List A) (i : ℕ) (a b : A) → get_elem? l i ≡ some a → get_elem? l i ≡ some b → a ≡ b
  same_at l i a b p q = some-injective a b (sym p ∙ q)

  -- a place of a list with one element more: it lay in the list, or it is the last one
  pub at_end : (l : List A) (a b : A) (j : ℕ) → get_elem? (l ++ a ∷ []) j ≡ some b → (get_elem? l j ≡ some b) ⊎ ((j ≡ length l) × (a ≡ b))
  at_end [] a b zero e = inr (refl, some-injective a b e)
  at_end [] a b (suc j) e = absurd (some-ne-none b (sym e))
  at_end (x ∷ xs) a b zero e = inl e
  at_end (x ∷ xs) a b (suc j) e = elim (at_end xs a b j e) [ inl p ↦ inl p | inr p ↦ inr (let q = p.0 in omega arith, p.1) ]

module _ {A : Type 0} (a : A) where
  -- a list of one element has one place
  pub alone : (i : ℕ) (b : A) → get_elem? (a ∷ []) i ≡ some b → (i ≡ 0) × (a ≡ b)
  alone zero b e = (refl, some-injective a b e)
  alone (suc i) b e = absurd (some-ne-none b (sym e))

-- a list contains its first number
pub has_here : (n : ℕ) (xs : List ℕ) → Contains (n ∷ xs) n
has_here n xs = (0, omega arith, refl)

-- a list with one number more still contains what it contained
pub has_later : (n m : ℕ) (xs : List ℕ) → Contains xs m → Contains (n ∷ xs) m
has_later n m xs h = let lt = h.1 in (suc h.0, omega arith, h.2)
