-- What a search appends, part by part.
use Rattle.std.proofs.Common.{◌≡◌, ℕ, zero, suc, ◌+◌, ◌-◌, ◌*◌, ◌^◌, ◌<◌, ◌≤◌, Bool, true, false, ltb, List, [], ◌∷◌, ◌++◌, length, take, refl, sym, ◌∙◌, ap, subst, arith, add-zero, zero-add, append_assoc, append-nil, length-append, length-take}
use Rattle.std.specs.List.{range_with_len, flat_map, filter}
use Rattle.std.proofs.lemmas.Bool.{lt-ltb, le-ltb}
use Rattle.std.proofs.lemmas.Bool.Decides.{nat_tests}
use Rattle.std.proofs.lemmas.List.{take-append-le, take_all}
use Rattle.std.proofs.lemmas.List.Elements.{filter-append}
use Rattle.std.proofs.lemmas.List.Concat.{flat_map-append}
use Rattle.std.proofs.Math.Seq.{take-append-add}
use Rattle.lop_cuts.specs.declared.kind.CutKind.{CutKind}
use Rattle.lop_cuts.specs.declared.kind.CutKind.TheVariants.{Dicycle}
use Rattle.lop_cuts.specs.CutList.{BoundedCuts}
use Rattle.lop_cuts.specs.Point.{PointValues, value_at, IsPoint}
use Rattle.lop_sep3.specs.Dicycles.{objects_from, violates}
use Rattle.lop_sep3.specs.Search.{IsAppended}

-- ---- the objects of a part

range_split : (a p q : ℕ) → range_with_len a (p + q) ≡ range_with_len a p ++ range_with_len (a + p) q
range_split a zero q = ap (λ k. range_with_len a k) (zero-add q) ∙ ap (λ k. range_with_len k q) (sym (add-zero a))
range_split a (suc p) q =
    let e : suc p + q ≡ suc (p + q) = omega arith in
    let f : a + 1 + p ≡ a + suc p = omega arith in
    ap (λ k. range_with_len a k) e ∙ ap (λ xs. a ∷ xs) (range_split (a + 1) p q ∙ ap (λ k. range_with_len (a + 1) p ++ range_with_len k q) f)

objects_split : (a k n : ℕ) → a ≤ k → k ≤ n → objects_from a n ≡ objects_from a k ++ objects_from k n
objects_split a k n l m =
    let e : n - a ≡ (k - a) + (n - k) = omega arith in
    let f : a + (k - a) ≡ k = omega arith in
    ap (λ q. range_with_len a q) e ∙ range_split a (k - a) (n - k) ∙ ap (λ q. objects_from a k ++ range_with_len q (n - k)) f

one_object : (k : ℕ) → objects_from k (k + 1) ≡ k ∷ []
one_object k = let e : k + 1 - k ≡ 1 = omega arith in ap (λ q. range_with_len k q) e

-- what passes the test among the cuts of the objects from a to n
abbrev pub found_from : (CutKind → Bool) → (ℕ → List CutKind) → ℕ → ℕ → List CutKind
found_from test cuts a n = filter test (flat_map cuts (objects_from a n))

pub found_split : (test : CutKind → Bool) (cuts : ℕ → List CutKind) (a k n : ℕ) → a ≤ k → k ≤ n → found_from test cuts a n ≡ found_from test cuts a k ++ found_from test cuts k n
found_split test cuts a k n l m =
    ap (λ xs. filter test (flat_map cuts xs)) (objects_split a k n l m)
    ∙ ap (filter test) (flat_map-append cuts (objects_from a k) (objects_from k n))
    ∙ filter-append test (flat_map cuts (objects_from a k)) (flat_map cuts (objects_from k n))

pub found_next : (test : CutKind → Bool) (cuts : ℕ → List CutKind) (a k : ℕ) → a ≤ k → found_from test cuts a (k + 1) ≡ found_from test cuts a k ++ filter test (cuts k)
found_next test cuts a k l =
    found_split test cuts a k (k + 1) l (omega arith)
    ∙ ap (λ xs. found_from test cuts a k ++ filter test (flat_map cuts xs)) (one_object k)
    ∙ ap (λ xs. found_from test cuts a k ++ filter test xs) (append-nil (cuts k))

pub found_none : (test : CutKind → Bool) (cuts : ℕ → List CutKind) (a : ℕ) → found_from test cuts a a ≡ []
found_none test cuts a = let e : a - a ≡ 0 = omega arith in ap (λ q. filter test (flat_map cuts (range_with_len a q))) e

-- ---- what is appended

-- the list stays within the bound, and its room stays
pub record StaysWithin (until : ℕ) (old new : BoundedCuts) : Type 0 where
  pub within : length new.cuts ≤ until
  pub room : new.room ≡ old.room

pub stays_within : (until : ℕ) (found : List CutKind) (old new : BoundedCuts) (more : Bool) → length old.cuts ≤ until → IsAppended (until - length old.cuts) found old new more → StaysWithin until old new
stays_within until found old new more within is = record {
  within = omega (arith, within, ap (λ (l : BoundedCuts). length l.cuts) is.list, length-append old.cuts (take (until - length old.cuts) found), length-take (until - length old.cuts) found);
  room = ap (λ (l : BoundedCuts). l.room) is.list;
}

-- nothing is found
pub appended_none : (limit : ℕ) (found : List CutKind) (old : BoundedCuts) → found ≡ [] → IsAppended limit found old old false
appended_none limit found old none = subst (λ (xs : List CutKind). IsAppended limit xs old old false) (sym none) (record {
  list = ap (λ (xs : List CutKind). record { cuts = xs; room = old.room }) (sym (append-nil old.cuts) ∙ ap (λ (xs : List CutKind). old.cuts ++ xs) (sym (take_all limit [] (omega arith))));
  more = sym (le-ltb limit 0 (omega arith));
})

not_more : (limit n : ℕ) → false ≡ ltb limit n → n ≤ limit
not_more limit n e = grind (arith, nat_tests)

more_then : (limit m n : ℕ) → m ≤ limit → ltb (limit - m) n ≡ ltb limit (m + n)
more_then limit m n l = grind (arith, nat_tests)

more_still : (limit m n : ℕ) → true ≡ ltb limit m → true ≡ ltb limit (m + n)
more_still limit m n e = grind (arith, nat_tests)

is_more : (limit n : ℕ) → true ≡ ltb limit n → limit ≤ n
is_more limit n e = grind (arith, nat_tests)

-- the leave after a part, and what it takes of the next
take_then : (limit : ℕ) (xs ys : List CutKind) → length xs ≤ limit → take limit (xs ++ ys) ≡ xs ++ take (limit - length xs) ys
take_then limit xs ys l =
    let e : limit ≡ length xs + (limit - length xs) = omega arith in
    ap (λ k. take k (xs ++ ys)) e ∙ take-append-add xs ys (limit - length xs)

-- one part after another
pub appended_then : (until : ℕ) (first second : List CutKind) (old mid new : BoundedCuts) (more : Bool) → length old.cuts ≤ until → IsAppended (until - length old.cuts) first old mid false → IsAppended (until - length mid.cuts) second mid new more → IsAppended (until - length old.cuts) (first ++ second) old new more
appended_then until first second old mid new more within was then =
    let limit = until - length old.cuts in
    let all : length first ≤ limit = not_more limit (length first) was.more in
    let whole : mid.cuts ≡ old.cuts ++ first = ap (λ (l : BoundedCuts). l.cuts) was.list ∙ ap (λ (xs : List CutKind). old.cuts ++ xs) (take_all limit first all) in
    let room : mid.room ≡ old.room = ap (λ (l : BoundedCuts). l.room) was.list in
    let left : until - length mid.cuts ≡ limit - length first = omega (arith, ap length whole, length-append old.cuts first) in
    record {
      list = then.list
          ∙ ap (λ (xs : List CutKind). record { cuts = xs; room = mid.room })
          (ap (λ (xs : List CutKind). xs ++ take (until - length mid.cuts) second) whole
          ∙ ap (λ k. old.cuts ++ first ++ take k second) left
          ∙ append_assoc old.cuts first (take (limit - length first) second)
          ∙ ap (λ (xs : List CutKind). old.cuts ++ xs) (sym (take_then limit first second all)))
          ∙ ap (λ k. record { cuts = old.cuts ++ take limit (first ++ second); room = k }) room;
      more = then.more ∙ ap (λ k. ltb k (length second)) left ∙ more_then limit (length first) (length second) all ∙ ap (λ k. ltb limit k) (sym (length-append first second));
    }

-- where there is one more, nothing is appended any more
pub appended_stop : (limit : ℕ) (first second : List CutKind) (old new : BoundedCuts) → IsAppended limit first old new true → IsAppended limit (first ++ second) old new true
appended_stop limit first second old new was = record {
  list = was.list ∙ ap (λ (xs : List CutKind). record { cuts = old.cuts ++ xs; room = old.room }) (sym (take-append-le limit first second (is_more limit (length first) was.more)));
  more = more_still limit (length first) (length second) was.more ∙ ap (λ k. ltb limit k) (sym (length-append first second));
}

-- the cuts of one more object
pub search_next : (test : CutKind → Bool) (cuts : ℕ → List CutKind) (a k until : ℕ) (old mid new : BoundedCuts) (more : Bool) → a ≤ k → length old.cuts ≤ until → IsAppended (until - length old.cuts) (found_from test cuts a k) old mid false → IsAppended (until - length mid.cuts) (filter test (cuts k)) mid new more → IsAppended (until - length old.cuts) (found_from test cuts a (k + 1)) old new more
search_next test cuts a k until old mid new more l within was then =
    subst (λ (xs : List CutKind). IsAppended (until - length old.cuts) xs old new more) (sym (found_next test cuts a k l))
    (appended_then until (found_from test cuts a k) (filter test (cuts k)) old mid new more within was then)

-- where one of them isn't appended, the others make no difference
pub search_stop : (test : CutKind → Bool) (cuts : ℕ → List CutKind) (a k n until : ℕ) (old mid new : BoundedCuts) → a ≤ k → k < n → length old.cuts ≤ until → IsAppended (until - length old.cuts) (found_from test cuts a k) old mid false → IsAppended (until - length mid.cuts) (filter test (cuts k)) mid new true → IsAppended (until - length old.cuts) (found_from test cuts a n) old new true
search_stop test cuts a k n until old mid new l m within was then =
    subst (λ (xs : List CutKind). IsAppended (until - length old.cuts) xs old new true) (sym (found_split test cuts a (k + 1) n (omega arith) (omega arith)))
    (appended_stop (until - length old.cuts) (found_from test cuts a (k + 1)) (found_from test cuts (k + 1) n) old new
    (search_next test cuts a k until old mid new true l within was then))

-- ---- both dicycles of three objects

-- the dicycle a, b, c by the values of the arcs from a to b and to c, and from b to c
sum_of : (p : PointValues) (a b c : ℕ) → violates p (Dicycle (a ∷ b ∷ c ∷ [])) ≡ ltb (2 * 2 ^ 32) (value_at p a b + value_at p b c + value_at p c a)
sum_of p a b c = ap (λ k. ltb (2 * 2 ^ 32) (k + value_at p b c + value_at p c a)) (zero-add (value_at p a b))

pub record AreRising (n i j k : ℕ) : Type 0 where
  pub first : i < j
  pub second : j < k
  pub third : k < n

pub forth_yes : (p : PointValues) (i j k : ℕ) → IsPoint p → AreRising p.size i j k → value_at p i k + 2 ^ 32 < value_at p i j + value_at p j k → violates p (Dicycle (i ∷ j ∷ k ∷ [])) ≡ true
forth_yes p i j k is rising l = sum_of p i j k ∙ lt-ltb _ _ (omega (arith, is.reverse i k (omega (arith, rising.first, rising.second, rising.third)) rising.third))

pub forth_no : (p : PointValues) (i j k : ℕ) → IsPoint p → AreRising p.size i j k → value_at p i j + value_at p j k ≤ value_at p i k + 2 ^ 32 → violates p (Dicycle (i ∷ j ∷ k ∷ [])) ≡ false
forth_no p i j k is rising l = sum_of p i j k ∙ le-ltb _ _ (omega (arith, is.reverse i k (omega (arith, rising.first, rising.second, rising.third)) rising.third))

pub back_yes : (p : PointValues) (i j k : ℕ) → IsPoint p → AreRising p.size i j k → value_at p i j + value_at p j k < value_at p i k → violates p (Dicycle (i ∷ k ∷ j ∷ [])) ≡ true
back_yes p i j k is rising l =
    let in_j : j < p.size = omega (arith, rising.second, rising.third) in
    let in_i : i < p.size = omega (arith, rising.first, in_j) in
    sum_of p i k j ∙ lt-ltb _ _ (omega (arith, is.reverse i j in_i in_j, is.reverse j k in_j rising.third))

pub back_no : (p : PointValues) (i j k : ℕ) → IsPoint p → AreRising p.size i j k → value_at p i k ≤ value_at p i j + value_at p j k → violates p (Dicycle (i ∷ k ∷ j ∷ [])) ≡ false
back_no p i j k is rising l =
    let in_j : j < p.size = omega (arith, rising.second, rising.third) in
    let in_i : i < p.size = omega (arith, rising.first, in_j) in
    sum_of p i k j ∙ le-ltb _ _ (omega (arith, is.reverse i j in_i in_j, is.reverse j k in_j rising.third))

-- what passes a test of two
pub two_first : (test : CutKind → Bool) (a b : CutKind) → test a ≡ true → test b ≡ false → filter test (a ∷ b ∷ []) ≡ a ∷ []
two_first test a b e f = rw (e, f) refl

pub two_second : (test : CutKind → Bool) (a b : CutKind) → test a ≡ false → test b ≡ true → filter test (a ∷ b ∷ []) ≡ b ∷ []
two_second test a b e f = rw (e, f) refl

pub two_none : (test : CutKind → Bool) (a b : CutKind) → test a ≡ false → test b ≡ false → filter test (a ∷ b ∷ []) ≡ []
two_none test a b e f = rw (e, f) refl
