-- The arcs of a cut are distinct.
use Rattle.std.proofs.Common.{◌≡◌, ℕ, Bool, true, false, not, cond, nat_eq, List, [], ◌∷◌, ◌++◌, refl, ◌∙◌}
use Rattle.std.specs.List.{flat_map, zip, filter, IsDistinct, AllByRecursion}
use Rattle.std.proofs.lemmas.Bool.{and_left, and_right}
use Rattle.std.proofs.lemmas.Cmp.{nat_eq_equiv}
use Rattle.lop_model.specs.declared.pair.Pair.{Pair}
use Rattle.lop_cuts.specs.declared.kind.CutKind.{CutKind}
use Rattle.lop_cuts.specs.declared.kind.CutKind.TheVariants.{Dicycle, Fence, Ladder}
use Rattle.lop_cuts.specs.Arcs.{arc, same_arc, arcs_back_to, cycle_arcs, arcs_across, post_arcs, distinct_arcs}
use Rattle.lop_cuts.specs.Kind.{IsCut, arcs_of}

-- q is none of these numbers
abbrev IsNone : ℕ → List ℕ → Type 0
IsNone q xs = AllByRecursion (λ y. nat_eq q y ≡ false) xs

-- an arc is none of these
abbrev IsOther : List Pair → Pair → Type 0
IsOther arcs a = AllByRecursion (λ b. same_arc a b ≡ false) arcs

-- two numbers differ both ways round
flipped : (x y : ℕ) → nat_eq x y ≡ false → nat_eq y x ≡ false
flipped x y h = nat_eq_equiv.symm y x ∙ h

-- what holds of all of two lists holds of all of each
All-append_parts : (P : ℕ → Type 0) (xs ys : List ℕ) → AllByRecursion P (xs ++ ys) → AllByRecursion P xs × AllByRecursion P ys
All-append_parts P [] ys h = (tt, h)
All-append_parts P (x ∷ xs) ys h =
    let rest = All-append_parts P xs ys h.1 in
    ((h.0, rest.0), rest.1)

-- what holds of all of each of two lists holds of all of both
All-join : (P : Pair → Type 0) (xs ys : List Pair) → AllByRecursion P xs → AllByRecursion P ys → AllByRecursion P (xs ++ ys)
All-join P [] ys h k = k
All-join P (x ∷ xs) ys h k = (h.0, All-join P xs ys h.1 k)

-- two lists of distinct arcs with none in common
distinct_join : (xs ys : List Pair) → IsDistinct same_arc xs → IsDistinct same_arc ys → AllByRecursion (IsOther ys) xs → IsDistinct same_arc (xs ++ ys)
unfolding IsDistinct
distinct_join [] ys h k apart = k
distinct_join (x ∷ xs) ys h k apart =
    (All-join (λ b. same_arc x b ≡ false) xs ys h.0 apart.0, distinct_join xs ys h.1 k apart.1)

-- ---- cycles
starts_elsewhere : (q c first x : ℕ) (xs : List ℕ) → IsNone q (x ∷ xs) → IsOther (arcs_back_to first x xs) (arc q c)
starts_elsewhere q c first x [] h = (and_left (nat_eq q x) (nat_eq c first) h.0, tt)
starts_elsewhere q c first x (y ∷ ys) h =
    (and_left (nat_eq q x) (nat_eq c y) h.0, starts_elsewhere q c first y ys h.1)

-- the arcs of a path through different objects are distinct
path_distinct : (first x : ℕ) (xs : List ℕ) → IsDistinct nat_eq (x ∷ xs) → IsDistinct same_arc (arcs_back_to first x xs)
unfolding IsDistinct
path_distinct first x [] h = (tt, tt)
path_distinct first x (y ∷ ys) h = (starts_elsewhere x y first y ys h.0, path_distinct first y ys h.1)

-- the arcs of a cycle of different objects are distinct
cycle_distinct : (xs : List ℕ) → IsDistinct nat_eq xs → IsDistinct same_arc (cycle_arcs xs)
unfolding IsDistinct
cycle_distinct [] h = tt
cycle_distinct (x ∷ xs) h = path_distinct x x xs h

-- ---- ladders
All-filtered : (P : Pair → Type 0) (test : Pair → Bool) (xs : List Pair) → AllByRecursion P xs → AllByRecursion P (filter test xs)
All-filtered P test [] h = tt
All-filtered P test (x ∷ xs) h = split (test x) (All-filtered P test xs h.1)
  where
    split : (b : Bool) → AllByRecursion P (filter test xs) → AllByRecursion P (cond b (x ∷ filter test xs) (filter test xs))
    split true rest = (h.0, rest)
    split false rest = rest

-- an arc is none of those that a filter for others keeps
others_kept : (a : Pair) (xs : List Pair) → IsOther (filter (λ b. not (same_arc a b)) xs) a
others_kept a [] = tt
others_kept a (x ∷ xs) = split (same_arc a x) refl (others_kept a xs)
  where
    rest : List Pair
    rest = filter (λ b. not (same_arc a b)) xs

    split : (s : Bool) → same_arc a x ≡ s → IsOther rest a → IsOther (cond (not s) (x ∷ rest) rest) a
    split true e h = h
    split false e h = (e, h)

-- a filter leaves distinct arcs distinct
distinct_filtered : (test : Pair → Bool) (xs : List Pair) → IsDistinct same_arc xs → IsDistinct same_arc (filter test xs)
unfolding IsDistinct
distinct_filtered test [] h = tt
distinct_filtered test (x ∷ xs) h = split (test x) (distinct_filtered test xs h.1)
  where
    split : (b : Bool) → IsDistinct same_arc (filter test xs) → IsDistinct same_arc (cond b (x ∷ filter test xs) (filter test xs))
    split true rest = (All-filtered (λ b. same_arc x b ≡ false) test xs h.0, rest)
    split false rest = rest

-- the distinct arcs of a list are distinct
distinct_arcs_distinct : (xs : List Pair) → IsDistinct same_arc (distinct_arcs xs)
unfolding IsDistinct
distinct_arcs_distinct [] = tt
distinct_arcs_distinct (x ∷ xs) =
    (others_kept x (distinct_arcs xs), distinct_filtered (λ b. not (same_arc x b)) (distinct_arcs xs) (distinct_arcs_distinct xs))

-- ---- fences
-- q is no object of these posts
abbrev IsApart : ℕ → List (ℕ × ℕ) → Type 0
IsApart q ps = AllByRecursion (λ p. (nat_eq q p.0 ≡ false) × (nat_eq q p.1 ≡ false)) ps

-- all objects of the posts differ
abbrev ArePosts : List (ℕ × ℕ) → Type 0
ArePosts [] = Unit {0}
ArePosts (p ∷ ps) = (nat_eq p.0 p.1 ≡ false) × IsApart p.0 ps × IsApart p.1 ps × ArePosts ps

-- no arc touches q
abbrev Misses : ℕ → List Pair → Type 0
Misses q arcs = AllByRecursion (λ b. (nat_eq q b.before ≡ false) × (nat_eq q b.after ≡ false)) arcs

-- an object between two lists of different objects is none of them
distinct_middle : (us : List ℕ) (w : ℕ) (ws : List ℕ) → IsDistinct nat_eq (us ++ w ∷ ws) → IsNone w us × IsNone w ws × IsDistinct nat_eq (us ++ ws)
unfolding IsDistinct
distinct_middle [] w ws h = (tt, h.0, h.1)
distinct_middle (u ∷ us) w ws h =
    let rest = distinct_middle us w ws h.1 in
    let parts = All-append_parts (λ y. nat_eq u y ≡ false) us (w ∷ ws) h.0 in
    ((flipped u w parts.1.0, rest.0), rest.1, (numbers_join us ws parts.0 parts.1.1, rest.2))
  where
    numbers_join : (xs ys : List ℕ) → IsNone u xs → IsNone u ys → IsNone u (xs ++ ys)
    numbers_join [] ys h k = k
    numbers_join (x ∷ xs) ys h k = (h.0, numbers_join xs ys h.1 k)

-- an object of neither list is none of their posts
apart_from_lists : (q : ℕ) (us ws : List ℕ) → IsNone q us → IsNone q ws → IsApart q (zip us ws)
apart_from_lists q [] ws h k = tt
apart_from_lists q (u ∷ us) [] h k = tt
apart_from_lists q (u ∷ us) (w ∷ ws) h k = ((h.0, k.0), apart_from_lists q us ws h.1 k.1)

-- the posts of lists of different objects have different objects
posts_from_lists : (us ws : List ℕ) → IsDistinct nat_eq (us ++ ws) → ArePosts (zip us ws)
unfolding IsDistinct
posts_from_lists [] ws h = tt
posts_from_lists (u ∷ us) [] h = tt
posts_from_lists (u ∷ us) (w ∷ ws) h =
    let u_parts = All-append_parts (λ y. nat_eq u y ≡ false) us (w ∷ ws) h.0 in
    let rest = distinct_middle us w ws h.1 in
    (u_parts.1.0, apart_from_lists u us ws u_parts.0 u_parts.1.1, apart_from_lists w us ws rest.0 rest.1, posts_from_lists us ws rest.2)

-- no arc across a post touches an object of none of the posts
misses_across : (q : ℕ) (p : ℕ × ℕ) (ps : List (ℕ × ℕ)) → nat_eq q p.0 ≡ false → nat_eq q p.1 ≡ false → IsApart q ps → (arcs : List Pair) → Misses q arcs → Misses q (flat_map (arcs_across p) ps ++ arcs)
misses_across q p [] a b h arcs rest = rest
misses_across q p (r ∷ rs) a b h arcs rest =
    ((b, h.0.0), ((h.0.1, a), misses_across q p rs a b h.1 arcs rest))

-- no arc of a fence touches an object of none of its posts
misses_posts : (q : ℕ) (ps : List (ℕ × ℕ)) → IsApart q ps → Misses q (post_arcs ps)
misses_posts q [] h = tt
misses_posts q (p ∷ ps) h =
    ((h.0.0, h.0.1), misses_across q p ps h.0.0 h.0.1 h.1 (post_arcs ps) (misses_posts q ps h.1))

-- an arc from an object that no arc touches is none of them
other_start : (q c : ℕ) (arcs : List Pair) → Misses q arcs → IsOther arcs (arc q c)
other_start q c [] h = tt
other_start q c (a ∷ arcs) h = (and_left (nat_eq q a.before) (nat_eq c a.after) h.0.0, other_start q c arcs h.1)

-- an arc to an object that no arc touches is none of them
other_end : (c q : ℕ) (arcs : List Pair) → Misses q arcs → IsOther arcs (arc c q)
other_end c q [] h = tt
other_end c q (a ∷ arcs) h = (and_right (nat_eq c a.before) (nat_eq q a.after) h.0.1, other_end c q arcs h.1)

-- the arc of a post is none of those across it
own_apart : (p : ℕ × ℕ) (ps : List (ℕ × ℕ)) → nat_eq p.0 p.1 ≡ false → IsApart p.0 ps → IsOther (flat_map (arcs_across p) ps) (arc p.0 p.1)
own_apart p [] own h = tt
own_apart p (q ∷ qs) own h =
    (and_left (nat_eq p.0 p.1) (nat_eq p.1 q.0) own, (and_left (nat_eq p.0 q.1) (nat_eq p.1 p.0) h.0.1, own_apart p qs own h.1))

-- the arcs from p's w to r's u, and from r's w to p's u, are none of those across p and other posts
to_apart : (p r : ℕ × ℕ) (ps : List (ℕ × ℕ)) → IsApart p.1 ps → IsApart r.0 ps → IsOther (flat_map (arcs_across p) ps) (arc p.1 r.0)
to_apart p r [] h k = tt
to_apart p r (q ∷ qs) h k =
    (and_right (nat_eq p.1 p.1) (nat_eq r.0 q.0) k.0.0, (and_left (nat_eq p.1 q.1) (nat_eq r.0 p.0) h.0.1, to_apart p r qs h.1 k.1))

from_apart : (p r : ℕ × ℕ) (ps : List (ℕ × ℕ)) → nat_eq r.1 p.1 ≡ false → IsApart r.1 ps → IsOther (flat_map (arcs_across p) ps) (arc r.1 p.0)
from_apart p r [] w k = tt
from_apart p r (q ∷ qs) w k =
    (and_left (nat_eq r.1 p.1) (nat_eq p.0 q.0) w, (and_left (nat_eq r.1 q.1) (nat_eq p.0 p.0) k.0.1, from_apart p r qs w k.1))

-- the arcs across a post and others are distinct
across_distinct : (p : ℕ × ℕ) (ps : List (ℕ × ℕ)) → IsApart p.1 ps → ArePosts ps → IsDistinct same_arc (flat_map (arcs_across p) ps)
unfolding IsDistinct
across_distinct p [] h k = tt
across_distinct p (q ∷ qs) h k =
    ((and_left (nat_eq p.1 q.1) (nat_eq q.0 p.0) h.0.1, to_apart p q qs h.1 k.1), (from_apart p q qs (flipped p.1 q.1 h.0.1) k.2, across_distinct p qs h.1 k.3))

-- the arcs across a post are none of those among the others
across_other : (p : ℕ × ℕ) (ps : List (ℕ × ℕ)) (arcs : List Pair) → Misses p.0 arcs → Misses p.1 arcs → AllByRecursion (IsOther arcs) (flat_map (arcs_across p) ps)
across_other p [] arcs h k = tt
across_other p (q ∷ qs) arcs h k = (other_start p.1 q.0 arcs k, (other_end q.1 p.0 arcs h, across_other p qs arcs h k))

-- the arcs of a fence are distinct
posts_distinct : (ps : List (ℕ × ℕ)) → ArePosts ps → IsDistinct same_arc (post_arcs ps)
unfolding IsDistinct
posts_distinct [] h = tt
posts_distinct (p ∷ ps) h =
    let across = flat_map (arcs_across p) ps in
    let first = misses_posts p.0 ps h.1 in
    let second = misses_posts p.1 ps h.2 in
    (All-join (λ b. same_arc (arc p.0 p.1) b ≡ false) across (post_arcs ps) (own_apart p ps h.0 h.1) (other_start p.0 p.1 (post_arcs ps) first), distinct_join across (post_arcs ps) (across_distinct p ps h.2 h.3) (posts_distinct ps h.3) (across_other p ps (post_arcs ps) first second))

-- the arcs of a cut are distinct
pub arcs_distinct : (kind : CutKind) → IsCut kind → IsDistinct same_arc (arcs_of kind)
arcs_distinct (Dicycle objects) right = cycle_distinct objects right.distinct
arcs_distinct (Fence u w) right = posts_distinct (zip u.items w.items) (posts_from_lists u.items w.items right.distinct)
arcs_distinct (Ladder cycles) right = distinct_arcs_distinct _
