-- Lists of arcs as the code builds them, one after another.
use Rattle.std.proofs.Common.{◌≡◌, ◌+◌, ◌-◌, ◌*◌, ◌<◌, ◌≤◌, ◌⊎◌, ℕ, zero, suc, Bool, true, false, cond, not, ◌||◌, List, [], ◌∷◌, ◌++◌, length, take, drop, map, get_or, ltb, zero-add, length-append, length-drop, append_assoc, add-one, refl, sym, ap, ◌∙◌, subst, inl, inr, arith}
use Rattle.std.specs.List.{flat_map, zip, filter, AllByRecursion}
use Rattle.std.proofs.lemmas.Bool.{both_ways, lt-ltb, not_from_true, not_from_false}
use Rattle.std.proofs.lemmas.Map.Views.{any-filter_same}
use Rattle.std.proofs.lemmas.List.Elements.{filter-append}
use Rattle.std.proofs.lemmas.List.Folds.{list_any-append}
use Rattle.std.proofs.lemmas.List.Sums.{sum_by-cons, length-filter, count_by-le-length}
use Rattle.std.proofs.lemmas.List.{append-nil, map-append, take_more, at_drop_more, at_drop_all}
use Rattle.std.proofs.Math.Nat.{mul-le-mul_left}
use Rattle.std.proofs.lemmas.List.Concat.{flat_map-append}
use Rattle.std.proofs.lemmas.Slice.Zip.{length-zip, get_or-zip}
use Rattle.lop_model.specs.declared.pair.Pair.{Pair}
use Rattle.lop_cuts.specs.Arcs.{arc, same_arc, arcs_back_to, cycle_arcs, arcs_across, post_arcs, distinct_arcs, ladder_arcs, cycles_with, IsCycle}
use Rattle.lop_cuts.proofs.CycleLemmas.{one_if}
use Rattle.lop_cuts.proofs.FenceLemmas.{length-post_arcs}
use Rattle.lop_cuts.proofs.ArcLemmas.{has_arc, same_arc-true, same_arc-refl}

-- a path has an arc from each of its objects
length-arcs_back_to : (first x : ℕ) (xs : List ℕ) → length (arcs_back_to first x xs) ≡ length xs + 1
length-arcs_back_to first x [] = refl
length-arcs_back_to first x (y ∷ ys) = omega (arith, length-arcs_back_to first y ys)

-- a cycle has as many arcs as objects
pub length-cycle_arcs : (xs : List ℕ) → length (cycle_arcs xs) ≡ length xs
length-cycle_arcs [] = refl
length-cycle_arcs (x ∷ xs) = omega (arith, length-arcs_back_to x x xs)

-- a path's arc at a place that isn't the last goes to the next object
back_to_inner : (first x : ℕ) (xs : List ℕ) (i : ℕ) (d : Pair) → i < length xs → get_or (arcs_back_to first x xs) i d ≡ arc (get_or (x ∷ xs) i 0) (get_or xs i 0)
back_to_inner first x [] i d l = absurd (omega arith)
back_to_inner first x (y ∷ ys) zero d l = refl
back_to_inner first x (y ∷ ys) (suc i) d l = back_to_inner first y ys i d (omega arith)

-- a path's last arc goes to the first object of the cycle
back_to_last : (first x : ℕ) (xs : List ℕ) (d : Pair) → get_or (arcs_back_to first x xs) (length xs) d ≡ arc (get_or (x ∷ xs) (length xs) 0) first
back_to_last first x [] d = refl
back_to_last first x (y ∷ ys) d = back_to_last first y ys d

-- the arc at a place that isn't the last goes to the next object
pub cycle_arcs_inner : (xs : List ℕ) (i : ℕ) (d : Pair) → i + 1 < length xs → get_or (cycle_arcs xs) i d ≡ arc (get_or xs i 0) (get_or xs (i + 1) 0)
cycle_arcs_inner [] i d l = absurd (omega arith)
cycle_arcs_inner (x ∷ xs) i d l = rw add-one (back_to_inner x x xs i d (omega arith))

-- the last arc goes to the first object
pub cycle_arcs_last : (xs : List ℕ) (i : ℕ) (d : Pair) → i + 1 ≡ length xs → get_or (cycle_arcs xs) i d ≡ arc (get_or xs i 0) (get_or xs 0 0)
cycle_arcs_last [] i d e = absurd (omega arith)
cycle_arcs_last (x ∷ xs) i d e =
    let here : i ≡ length xs = omega arith in
    let P : ℕ → Type 0 = λ k. get_or (cycle_arcs (x ∷ xs)) k d ≡ arc (get_or (x ∷ xs) k 0) x in
    subst P (sym here) (back_to_last x x xs d)

-- an arc that is the same as one that differs from y differs from y too
other_than : (x y a : Pair) → same_arc y x ≡ false → same_arc a x ≡ true → not (same_arc y a) ≡ true
other_than x y a differ same =
    let P : Pair → Type 0 = λ b. same_arc y b ≡ false in
    not_from_false (same_arc y a) (subst P (sym (same_arc-true a x same)) differ)

-- one more arc joins the distinct ones where it isn't among them
pub distinct_arcs_push : (xs : List Pair) (x : Pair) → distinct_arcs (xs ++ x ∷ []) ≡ cond (has_arc (distinct_arcs xs) x) (distinct_arcs xs) (distinct_arcs xs ++ x ∷ [])
distinct_arcs_push [] x = refl
distinct_arcs_push (y ∷ ys) x = split (same_arc y x) refl (has_arc D x) refl (distinct_arcs_push ys x)
  where
    D : List Pair
    D = distinct_arcs ys

    is_other : Pair → Bool
    is_other b = not (same_arc y b)

    -- the filter with one more
    pushed : (b : Bool) → is_other x ≡ b → filter is_other (D ++ x ∷ []) ≡ filter is_other D ++ cond b (x ∷ []) []
    pushed b e = filter-append is_other D (x ∷ []) ∙ ap (λ t. filter is_other D ++ cond t (x ∷ []) []) e

    split : (s : Bool) → same_arc y x ≡ s → (h : Bool) → has_arc D x ≡ h → distinct_arcs (ys ++ x ∷ []) ≡ cond h D (D ++ x ∷ []) → y ∷ filter is_other (distinct_arcs (ys ++ x ∷ [])) ≡ cond (s || has_arc (filter is_other D) x) (y ∷ filter is_other D) ((y ∷ filter is_other D) ++ x ∷ [])
    split true e true f rest = ap (λ l. y ∷ filter is_other l) rest
    split true e false f rest =
        let out : is_other x ≡ false = not_from_true (same_arc y x) e in
        ap (λ l. y ∷ filter is_other l) rest ∙ ap (λ l. y ∷ l) (pushed false out ∙ append-nil (filter is_other D))
    split false e h f rest = last h f rest (has_arc (filter is_other D) x) (any-filter_same (λ b. same_arc b x) is_other true (λ a. other_than x y a e) D)
      where
        last : (h : Bool) → has_arc D x ≡ h → distinct_arcs (ys ++ x ∷ []) ≡ cond h D (D ++ x ∷ []) → (t : Bool) → t ≡ has_arc D x → y ∷ filter is_other (distinct_arcs (ys ++ x ∷ [])) ≡ cond t (y ∷ filter is_other D) ((y ∷ filter is_other D) ++ x ∷ [])
        last true f rest true g = ap (λ l. y ∷ filter is_other l) rest
        last true f rest false g = absurd (both_ways (has_arc D x) (sym g) f)
        last false f rest true g = absurd (both_ways (has_arc D x) f (sym g))
        last false f rest false g =
            ap (λ l. y ∷ filter is_other l) rest ∙ ap (λ l. y ∷ l) (pushed true (other_than x y x e (same_arc-refl x)))

-- the distinct arcs are those of the list
has_arc-distinct : (xs : List Pair) (a : Pair) → has_arc (distinct_arcs xs) a ≡ has_arc xs a
has_arc-distinct [] a = refl
has_arc-distinct (x ∷ xs) a = split (same_arc x a) refl (has_arc-distinct xs a)
  where
    later : List Pair
    later = filter (λ b. not (same_arc x b)) (distinct_arcs xs)

    split : (s : Bool) → same_arc x a ≡ s → has_arc (distinct_arcs xs) a ≡ has_arc xs a → (s || has_arc later a) ≡ (s || has_arc xs a)
    split true e rest = refl
    split false e rest =
        any-filter_same (λ b. same_arc b a) (λ b. not (same_arc x b)) true (λ b. other_than a x b e) (distinct_arcs xs) ∙ rest

-- a count that begins with a test is positive where the test holds or the rest is
positive_or : (b : Bool) (k : ℕ) → ltb 0 (one_if b + k) ≡ (b || ltb 0 k)
positive_or true k = lt-ltb _ _ (omega arith)
positive_or false k = ap (ltb 0) (zero-add k)

-- an arc is one of a ladder's where some cycle has it
pub has_arc-ladder_arcs : (a : Pair) (cycles : List (List ℕ)) → ltb 0 (cycles_with a cycles) ≡ has_arc (ladder_arcs cycles) a
has_arc-ladder_arcs a cycles = in_one cycles ∙ sym (has_arc-distinct (flat_map cycle_arcs cycles) a)
  where
    in_one : (cs : List (List ℕ)) → ltb 0 (cycles_with a cs) ≡ has_arc (flat_map cycle_arcs cs) a
    in_one [] = refl
    in_one (c ∷ cs) =
        ap (ltb 0) (sum_by-cons (λ x. one_if (has_arc (cycle_arcs x) a)) c cs)
        ∙ positive_or (has_arc (cycle_arcs c) a) (cycles_with a cs)
        ∙ ap (λ t. has_arc (cycle_arcs c) a || t) (in_one cs)
        ∙ sym (list_any-append (λ x. same_arc x a) (cycle_arcs c) (flat_map cycle_arcs cs))

-- there are no more distinct arcs than arcs
pub length-distinct_arcs : (xs : List Pair) → length (distinct_arcs xs) ≤ length xs
length-distinct_arcs [] = omega arith
length-distinct_arcs (x ∷ xs) =
    let is_other : Pair → Bool = λ b. not (same_arc x b) in
    omega (arith, length-distinct_arcs xs, length-filter is_other (distinct_arcs xs), count_by-le-length is_other (distinct_arcs xs))

-- cycles have at most four arcs each
length-cycles_le : (cycles : List (List ℕ)) → AllByRecursion IsCycle cycles → length (flat_map cycle_arcs cycles) ≤ 4 * length cycles
length-cycles_le [] h = omega arith
length-cycles_le (c ∷ cs) h =
    omega (arith, length-append (cycle_arcs c) (flat_map cycle_arcs cs), four c h.0.size, length-cycle_arcs c, length-cycles_le cs h.1)
  where
    four : (xs : List ℕ) → (length xs ≡ 3) ⊎ (length xs ≡ 4) → length xs ≤ 4
    four xs (inl e) = omega arith
    four xs (inr e) = omega arith

-- a ladder has at most four arcs for each of its cycles
pub length-ladder_arcs_le : (cycles : List (List ℕ)) → AllByRecursion IsCycle cycles → length (ladder_arcs cycles) ≤ 4 * length cycles
length-ladder_arcs_le cycles h =
    omega (arith, length-distinct_arcs (flat_map cycle_arcs cycles), length-cycles_le cycles h)

-- the front of a cycle's arcs with the next one
pub cycle_arcs_more : (xs : List ℕ) (i after : ℕ) → i < length xs → ((d : Pair) → get_or (cycle_arcs xs) i d ≡ arc (get_or xs i 0) after) → take (i + 1) (cycle_arcs xs) ≡ take i (cycle_arcs xs) ++ arc (get_or xs i 0) after ∷ []
cycle_arcs_more xs i after l next =
    let d = arc (get_or xs i 0) after in
    take_more (cycle_arcs xs) i d (omega (arith, length-cycle_arcs xs)) ∙ ap (λ a. take i (cycle_arcs xs) ++ a ∷ []) (next d)

-- the arcs across a post and those from place j on
pub across_more : (p : ℕ × ℕ) (us ws : List ℕ) (j : ℕ) → j < length us → j < length ws → flat_map (arcs_across p) (drop j (zip us ws)) ≡ arc p.1 (get_or us j 0) ∷ arc (get_or ws j 0) p.0 ∷ flat_map (arcs_across p) (drop (j + 1) (zip us ws))
across_more p us ws j l m =
    let in_zip : j < length (zip us ws) = omega (arith, length-zip us ws) in
    at_drop_more (flat_map (arcs_across p)) (zip us ws) j (0, 0) in_zip ∙ ap (λ q. arcs_across p q ++ flat_map (arcs_across p) (drop (j + 1) (zip us ws))) (get_or-zip us ws j (0, 0) l m)

-- no post is left past the end
pub across_all : (p : ℕ × ℕ) (us ws : List ℕ) (j : ℕ) → length us ≤ j → flat_map (arcs_across p) (drop j (zip us ws)) ≡ []
across_all p us ws j l = at_drop_all (flat_map (arcs_across p)) (zip us ws) j (omega (arith, length-zip us ws))

-- two arcs that come first in what is left join what is there
pub moved_two : (old rest all : List Pair) (a b : Pair) → old ++ (a ∷ b ∷ rest) ≡ all → ((old ++ a ∷ []) ++ b ∷ []) ++ rest ≡ all
moved_two old rest all a b e = append_assoc (old ++ a ∷ []) (b ∷ []) rest ∙ append_assoc old (a ∷ []) (b ∷ rest) ∙ e

-- the distinct arcs of a list and of the front of another, with the next one
distinct_arcs_more : (seen more : List Pair) (k : ℕ) (d : Pair) → k < length more → distinct_arcs (seen ++ take (k + 1) more) ≡ distinct_arcs ((seen ++ take k more) ++ get_or more k d ∷ [])
distinct_arcs_more seen more k d l =
    ap (λ xs. distinct_arcs (seen ++ xs)) (take_more more k d l) ∙ ap distinct_arcs (sym (append_assoc seen (take k more) (get_or more k d ∷ [])))

-- the next arc, which isn't among the distinct ones, joins them
pub distinct_arcs_new : (seen more : List Pair) (k : ℕ) (d : Pair) (arcs : List Pair) → k < length more → arcs ≡ distinct_arcs (seen ++ take k more) → has_arc arcs (get_or more k d) ≡ false → arcs ++ get_or more k d ∷ [] ≡ distinct_arcs (seen ++ take (k + 1) more)
distinct_arcs_new seen more k d arcs l so_far out =
    let x = get_or more k d in
    let before = distinct_arcs (seen ++ take k more) in
    let absent : has_arc before x ≡ false = ap (λ xs. has_arc xs x) (sym so_far) ∙ out in
    ap (λ xs. xs ++ x ∷ []) so_far ∙ sym (distinct_arcs_more seen more k d l ∙ distinct_arcs_push (seen ++ take k more) x ∙ ap (λ b. cond b before (before ++ x ∷ [])) absent)

-- the next arc, which is among the distinct ones, changes nothing
pub distinct_arcs_old : (seen more : List Pair) (k : ℕ) (d : Pair) (arcs : List Pair) → k < length more → arcs ≡ distinct_arcs (seen ++ take k more) → has_arc arcs (get_or more k d) ≡ true → arcs ≡ distinct_arcs (seen ++ take (k + 1) more)
distinct_arcs_old seen more k d arcs l so_far in' =
    let x = get_or more k d in
    let before = distinct_arcs (seen ++ take k more) in
    let present : has_arc before x ≡ true = ap (λ xs. has_arc xs x) (sym so_far) ∙ in' in
    so_far ∙ sym (distinct_arcs_more seen more k d l ∙ distinct_arcs_push (seen ++ take k more) x ∙ ap (λ b. cond b before (before ++ x ∷ [])) present)

-- the distinct arcs of one more cycle's arcs, after those of the cycles before
pub flat_map_map_more : {X : Type 0} (f : X → List ℕ) (xs : List X) (i : ℕ) (d : X) → i < length xs → flat_map cycle_arcs (map f (take (i + 1) xs)) ≡ flat_map cycle_arcs (map f (take i xs)) ++ cycle_arcs (f (get_or xs i d))
flat_map_map_more f xs i d l =
    ap (λ ys. flat_map cycle_arcs (map f ys)) (take_more xs i d l)
    ∙ ap (flat_map cycle_arcs) (map-append f (take i xs) (get_or xs i d ∷ []))
    ∙ flat_map-append cycle_arcs (map f (take i xs)) (f (get_or xs i d) ∷ [])
    ∙ ap (λ ys. flat_map cycle_arcs (map f (take i xs)) ++ ys) (append-nil (cycle_arcs (f (get_or xs i d))))

-- what is left of a fence at post i
pub post_arcs_more : (us ws : List ℕ) (i : ℕ) → i < length us → i < length ws → post_arcs (drop i (zip us ws)) ≡ arc (get_or us i 0) (get_or ws i 0) ∷ flat_map (arcs_across (get_or us i 0, get_or ws i 0)) (drop (i + 1) (zip us ws)) ++ post_arcs (drop (i + 1) (zip us ws))
post_arcs_more us ws i l m =
    let rest = drop (i + 1) (zip us ws) in
    at_drop_more post_arcs (zip us ws) i (0, 0) (omega (arith, length-zip us ws)) ∙ ap (λ q. arc q.0 q.1 ∷ flat_map (arcs_across q) rest ++ post_arcs rest) (get_or-zip us ws i (0, 0) l m)

-- no post is left past the end
pub post_arcs_all : (us ws : List ℕ) (i : ℕ) → length us ≤ i → post_arcs (drop i (zip us ws)) ≡ []
post_arcs_all us ws i l = at_drop_all post_arcs (zip us ws) i (omega (arith, length-zip us ws))

-- a post's arcs that come first in what is left join what is there
pub moved_post : (old across rest all : List Pair) (a : Pair) → old ++ (a ∷ across ++ rest) ≡ all → ((old ++ a ∷ []) ++ across) ++ rest ≡ all
moved_post old across rest all a e =
    append_assoc (old ++ a ∷ []) across rest ∙ append_assoc old (a ∷ []) (across ++ rest) ∙ e

-- a number of at most 8 has a square of at most 64
pub square_le : (m : ℕ) → m ≤ 8 → m * m ≤ 64
square_le m h = omega (arith, mul-le-mul_left m h, mul-le-mul_left 8 h)

-- there is room for a post's arcs beside those of the posts before
pub post_room : (old : List Pair) (us ws : List ℕ) (i : ℕ) → i < length us → length us ≡ length ws → length us ≤ 8 → old ++ post_arcs (drop i (zip us ws)) ≡ post_arcs (zip us ws) → length old + 1 + 2 * (length us - i - 1) ≤ 64
post_room old us ws i l same most e =
    let k = length us in
    let left = k - i - 1 in
    let posts : length (zip us ws) ≡ k = omega (arith, length-zip us ws) in
    let rest : length (drop i (zip us ws)) ≡ left + 1 = omega (arith, length-drop i (zip us ws), posts) in
    let all : length (post_arcs (zip us ws)) ≡ k * k = length-post_arcs (zip us ws) ∙ ap (λ m. m * m) posts in
    let later : length (post_arcs (drop i (zip us ws))) ≡ (left + 1) * (left + 1) = length-post_arcs (drop i (zip us ws)) ∙ ap (λ m. m * m) rest in
    let square : k * k ≤ 64 = omega (arith, square_le k most) in
    omega (arith, length-append old (post_arcs (drop i (zip us ws))), ap length e, all, later, square)
