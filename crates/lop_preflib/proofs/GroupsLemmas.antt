-- Groups, piece by piece.
use Rattle.std.proofs.Common.{◌≡◌, ℕ, ◌+◌, ◌<◌, ◌≤◌, ltb, Bool, true, false, not, ◌&&◌, ◌||◌, cond, List, [], ◌∷◌, ◌++◌, length, take, drop, map, get_or, inl, inr, refl, sym, ◌∙◌, ap, subst, arith}
use Rattle.std.specs.List.{count_by, list_any, range_with_len}
use Rattle.std.proofs.lemmas.List.{length-map, length-drop, drop_more, take_all}
use Rattle.std.proofs.lemmas.List.FromFn.{get_or-map-range_with_len, length-map-range_with_len, sum_by-map-range_with_len_more, map-range_with_len_more, get_or-range_with_len, length-range_with_len}
use Rattle.std.proofs.lemmas.List.Sums.{sum_by_more, count_by-le-length}
use Rattle.std.proofs.lemmas.List.Folds.{list_any_at, list_any_none}
use Rattle.std.proofs.lemmas.Bool.{cases_eq}
use Rattle.std.proofs.lemmas.Bool.Decides.{nat_tests}
use Rattle.lop_preflib.specs.Line.{object_of}
use Rattle.lop_preflib.specs.Groups.{opens, closes, item_of, is_open, is_brace, is_bad_piece, is_bad_at, are_bad_ties, ends_at, group_at, groups_in}

-- one piece more
pub group_at-more : (pieces : List (List ℕ)) (k : ℕ) → group_at pieces (k + 1) ≡ group_at pieces k + cond (ends_at pieces k) 1 0
group_at-more pieces k = sum_by-map-range_with_len_more (λ (t : Bool). cond t 1 0) (ends_at pieces) 0 k k (omega arith)

pub groups_in-at : (pieces : List (List ℕ)) (k : ℕ) → k < length pieces → get_or (groups_in pieces) k 0 ≡ group_at pieces k
groups_in-at pieces k low = get_or-map-range_with_len (group_at pieces) 0 (length pieces) k k 0 low (omega arith)

pub length-groups_in : (pieces : List (List ℕ)) → length (groups_in pieces) ≡ length (map object_of (map item_of pieces))
length-groups_in pieces = length-map-range_with_len (group_at pieces) 0 (length pieces) ∙ sym (length-map (map item_of pieces) object_of ∙ length-map pieces item_of)

pub first_group-in : (pieces : List (List ℕ)) → get_or (groups_in pieces) 0 0 ≡ 0
first_group-in [] = refl
first_group-in (piece ∷ pieces) = groups_in-at (piece ∷ pieces) 0 (omega arith)

bit : (b : Bool) → cond b 1 0 ≤ 1
bit true = omega arith
bit false = omega arith

pub same_or_next-in : (pieces : List (List ℕ)) (p : ℕ) → p + 1 < length (groups_in pieces) → (get_or (groups_in pieces) p 0 ≤ get_or (groups_in pieces) (p + 1) 0) × (get_or (groups_in pieces) (p + 1) 0 ≤ get_or (groups_in pieces) p 0 + 1)
same_or_next-in pieces p low =
    let long = length-map-range_with_len (group_at pieces) 0 (length pieces) in
    let here = groups_in-at pieces p (omega (arith, low, long)) in
    let next = groups_in-at pieces (p + 1) (omega (arith, low, long)) in
    let step = group_at-more pieces p in
    let small = bit (ends_at pieces p) in
    (omega (arith, here, next, step), omega (arith, here, next, step, small))

-- of the first k pieces as many open a group as close one, and one more where a group is open behind them
abbrev pub IsBalanced : List (List ℕ) → ℕ → Bool → Type 0
IsBalanced pieces k inside = count_by opens (take k pieces) ≡ count_by closes (take k pieces) + cond inside 1 0

pub is_open-balanced : (pieces : List (List ℕ)) (k : ℕ) (inside : Bool) → IsBalanced pieces k inside → is_open (take k pieces) ≡ inside
is_open-balanced pieces k inside balanced = by inside (count_by opens (take k pieces)) (count_by closes (take k pieces)) balanced
  where
    by : (b : Bool) (o c : ℕ) → o ≡ c + cond b 1 0 → ltb c o ≡ b
    by true o c e = grind (arith, nat_tests)
    by false o c e = grind (arith, nat_tests)

-- one piece more, which isn't bad
pub balanced-more : (pieces : List (List ℕ)) (k : ℕ) (inside : Bool) → k < length pieces → IsBalanced pieces k inside → is_bad_piece inside (get_or pieces k []) ≡ false
    → IsBalanced pieces (k + 1) ((inside || opens (get_or pieces k [])) && not (closes (get_or pieces k [])))
balanced-more pieces k inside low balanced good =
    let piece = get_or pieces k [] in
    sum_by_more (λ p. cond (opens p) 1 0) pieces k [] low
    ∙ by inside (opens piece) (closes piece) (list_any is_brace (item_of piece)) (count_by opens (take k pieces)) (count_by closes (take k pieces)) balanced good
    ∙ ap (λ (n : ℕ). n + cond ((inside || opens piece) && not (closes piece)) 1 0) (sym (sum_by_more (λ p. cond (closes p) 1 0) pieces k [] low))
  where
    by : (i o c brace : Bool) (opened closed : ℕ) → opened ≡ closed + cond i 1 0 → ((i && o) || (not (i || o) && c) || brace) ≡ false → opened + cond o 1 0 ≡ (closed + cond c 1 0) + cond ((i || o) && not c) 1 0
    by true true c brace opened closed e good' = absurd (cc good')
    by true false true brace opened closed e good' = omega (arith, e)
    by true false false brace opened closed e good' = omega (arith, e)
    by false true true brace opened closed e good' = omega (arith, e)
    by false true false brace opened closed e good' = omega (arith, e)
    by false false true brace opened closed e good' = absurd (cc good')
    by false false false brace opened closed e good' = omega (arith, e)

at_place : (n k d : ℕ) → k < n → get_or (range_with_len 0 n) k d ≡ k
at_place n k d below = get_or-range_with_len 0 n k d below ∙ omega arith

or_none : (a b : Bool) → (a || b) ≡ false → (a ≡ false) × (b ≡ false)
or_none false false e = (refl, refl)
or_none true b e = absurd (cc e)
or_none false true e = absurd (cc e)

-- a bad piece
pub bad_ties-at : (pieces : List (List ℕ)) (k : ℕ) → k < length pieces → is_bad_at pieces k ≡ true → are_bad_ties pieces ≡ true
bad_ties-at pieces k low bad =
    ap (λ (t : Bool). t || is_open pieces) (list_any_at (is_bad_at pieces) (range_with_len 0 (length pieces)) k 0 (omega (arith, low, length-range_with_len 0 (length pieces))) (ap (is_bad_at pieces) (at_place (length pieces) k 0 low) ∙ bad))

-- none is bad: a group may be open at the end
pub bad_ties-none : (pieces : List (List ℕ)) → ((k : ℕ) → k < length pieces → is_bad_at pieces k ≡ false) → are_bad_ties pieces ≡ is_open pieces
bad_ties-none pieces none =
    ap (λ (t : Bool). t || is_open pieces)
    (list_any_none (is_bad_at pieces) (range_with_len 0 (length pieces)) (λ k d within.
    let low : k < length pieces = omega (arith, within, length-range_with_len 0 (length pieces)) in
    ap (is_bad_at pieces) (at_place (length pieces) k d low) ∙ none k low))

-- where the ties are good, each piece is
pub good_at : (pieces : List (List ℕ)) → are_bad_ties pieces ≡ false → (k : ℕ) → k < length pieces → is_bad_at pieces k ≡ false
good_at pieces good k low = by (is_bad_at pieces k) refl
  where
    by : (t : Bool) → is_bad_at pieces k ≡ t → is_bad_at pieces k ≡ false
    by false e = e
    by true e = absurd (cc (good, bad_ties-at pieces k low e))

-- the piece at a place, and those behind it
next_piece : (pieces left others : List (List ℕ)) (piece : List ℕ) (k : ℕ) → left ≡ drop k pieces → left ≡ piece ∷ others → (k < length pieces) × (get_or pieces k [] ≡ piece) × (drop (k + 1) pieces ≡ others)
next_piece pieces left others piece k left_is next =
    let e : piece ∷ others ≡ drop k pieces = sym next ∙ left_is in
    let more : k < length pieces = omega (arith, ap length e, length-drop k pieces) in
    let f = e ∙ drop_more pieces k [] more in
    (more, cc, cc)

bad_here : (pieces : List (List ℕ)) (k : ℕ) (inside : Bool) (piece : List ℕ) → IsBalanced pieces k inside → get_or pieces k [] ≡ piece → is_bad_at pieces k ≡ is_bad_piece inside piece
bad_here pieces k inside piece balanced here =
    ap (λ (t : Bool). is_bad_piece t (get_or pieces k [])) (is_open-balanced pieces k inside balanced) ∙ ap (is_bad_piece inside) here

-- the pieces before the others aren't bad
pub record AreGood (pieces others : List (List ℕ)) (inside : Bool) : Type 0 where
  pub k : ℕ
  pub present : k ≤ length pieces
  pub left : others ≡ drop k pieces
  pub balanced : IsBalanced pieces k inside
  pub good : (j : ℕ) → j < k → is_bad_at pieces j ≡ false

pub are_good-none : (pieces : List (List ℕ)) → AreGood pieces pieces false
are_good-none pieces = record { k = 0; present = omega arith; left = refl; balanced = refl; good = λ j low. absurd (omega (arith, low)) }

module _ (pieces left others : List (List ℕ)) (inside : Bool) (piece : List ℕ) (so_far : AreGood pieces left inside) (next : left ≡ piece ∷ others) where
  pub bad_ties-here : is_bad_piece inside piece ≡ true → are_bad_ties pieces ≡ true
  bad_ties-here bad =
      let at = next_piece pieces left others piece so_far.k so_far.left next in
      bad_ties-at pieces so_far.k at.0 (bad_here pieces so_far.k inside piece so_far.balanced at.1 ∙ bad)

  pub are_good-more : (after : Bool) → is_bad_piece inside piece ≡ false → after ≡ ((inside || opens piece) && not (closes piece)) → AreGood pieces others after
  are_good-more after good is =
      let at = next_piece pieces left others piece so_far.k so_far.left next in
      let good_here : is_bad_piece inside (get_or pieces so_far.k []) ≡ false = ap (is_bad_piece inside) at.1 ∙ good in
      let same : ((inside || opens (get_or pieces so_far.k [])) && not (closes (get_or pieces so_far.k []))) ≡ after = ap (λ (p : List ℕ). (inside || opens p) && not (closes p)) at.1 ∙ sym is in
      record {
        k = so_far.k + 1;
        present = omega (arith, at.0);
        left = sym at.2;
        balanced = subst (λ (b : Bool). IsBalanced pieces (so_far.k + 1) b) same (balanced-more pieces so_far.k inside at.0 so_far.balanced good_here);
        good = λ j low. elim (cases_eq j so_far.k) [ inl e ↦ subst (λ (i : ℕ). is_bad_at pieces i ≡ false) (sym e) (bad_here pieces so_far.k inside piece so_far.balanced at.1 ∙ good) | inr other ↦ so_far.good j (omega (arith, low, other)) ];
      }

-- all pieces are gone through
pub bad_ties-end : (pieces left : List (List ℕ)) (inside : Bool) → AreGood pieces left inside → left ≡ [] → are_bad_ties pieces ≡ inside
bad_ties-end pieces left inside so_far none =
    let all : so_far.k ≡ length pieces = omega (arith, so_far.present, ap length none, ap length so_far.left, length-drop so_far.k pieces) in
    bad_ties-none pieces (λ j low. so_far.good j (omega (arith, low, all)))
    ∙ ap is_open (sym (take_all so_far.k pieces (omega (arith, all)))) ∙ is_open-balanced pieces so_far.k inside so_far.balanced

-- the group numbers of the first k pieces, and that of the next
pub record AreNumbered (pieces others : List (List ℕ)) (k : ℕ) (groups : List ℕ) (inside : Bool) (group : ℕ) : Type 0 where
  pub left : others ≡ drop k pieces
  pub balanced : IsBalanced pieces k inside
  pub group_is : group ≡ group_at pieces k
  pub groups_are : groups ≡ map (group_at pieces) (range_with_len 0 k)

pub are_numbered-none : (pieces : List (List ℕ)) (ranked groups : List ℕ) → ranked ≡ [] → groups ≡ [] → AreNumbered pieces pieces (length ranked) groups false 0
are_numbered-none pieces [] groups none empty = record { left = refl; balanced = refl; group_is = refl; groups_are = empty }
are_numbered-none pieces (r ∷ ranked) groups none empty = absurd (cc none)

turned : (b : Bool) → ◌≡◌ {A = ℕ} (cond (not b) 1 0) (cond b 0 1)
turned true = refl
turned false = refl

pub group_at-le : (pieces : List (List ℕ)) (k : ℕ) → group_at pieces k ≤ k
group_at-le pieces k = omega (arith, count_by-le-length (λ (t : Bool). t) (map (ends_at pieces) (range_with_len 0 k)), length-map-range_with_len (ends_at pieces) 0 k)

pub are_numbered-more : (pieces left others : List (List ℕ)) (k : ℕ) (groups : List ℕ) (inside : Bool) (group : ℕ) (piece : List ℕ) → are_bad_ties pieces ≡ false → AreNumbered pieces left k groups inside group → left ≡ piece ∷ others
    → (after : Bool) (more : ℕ) (longer : List ℕ) (next : ℕ) → after ≡ ((inside || opens piece) && not (closes piece)) → more ≡ k + 1 → longer ≡ groups ++ group ∷ [] → next ≡ group + cond after 0 1 → AreNumbered pieces others more longer after next
are_numbered-more pieces left others k groups inside group piece good so_far split after more longer next is more_is longer_is next_is =
    let at = next_piece pieces left others piece k so_far.left split in
    let good_here : is_bad_piece inside (get_or pieces k []) ≡ false = ap (is_bad_piece inside) at.1 ∙ sym (bad_here pieces k inside piece so_far.balanced at.1) ∙ good_at pieces good k at.0 in
    let same : ((inside || opens (get_or pieces k [])) && not (closes (get_or pieces k []))) ≡ after = ap (λ (p : List ℕ). (inside || opens p) && not (closes p)) at.1 ∙ sym is in
    let balanced : IsBalanced pieces (k + 1) after = subst (λ (b : Bool). IsBalanced pieces (k + 1) b) same (balanced-more pieces k inside at.0 so_far.balanced good_here) in
    let ended : cond (ends_at pieces k) 1 0 ≡ cond after 0 1 = ap (λ (b : Bool). cond (not b) 1 0) (is_open-balanced pieces (k + 1) after balanced) ∙ turned after in
    record {
      left = rw more_is (sym at.2);
      balanced = rw more_is balanced;
      group_is = rw more_is (next_is ∙ ap (λ (g : ℕ). g + cond after 0 1) so_far.group_is ∙ ap (λ (b : ℕ). group_at pieces k + b) (sym ended) ∙ sym (group_at-more pieces k));
      groups_are = rw more_is (longer_is ∙ ap (λ (l : List ℕ). l ++ group ∷ []) so_far.groups_are ∙ ap (λ (g : ℕ). map (group_at pieces) (range_with_len 0 k) ++ g ∷ []) so_far.group_is ∙ sym (map-range_with_len_more (group_at pieces) 0 k k (omega arith)));
    }

pub numbered-all : (pieces left : List (List ℕ)) (k : ℕ) (groups : List ℕ) (inside : Bool) (group : ℕ) → k ≤ length pieces → AreNumbered pieces left k groups inside group → left ≡ [] → groups ≡ groups_in pieces
numbered-all pieces left k groups inside group low so_far none =
    so_far.groups_are ∙ ap (λ (m : ℕ). map (group_at pieces) (range_with_len 0 m)) (omega (arith, low, ap length none, ap length so_far.left, length-drop k pieces))

-- the tests on a piece's parts
pub bad_parts : (inside : Bool) (piece : List ℕ) (o c : Bool) (item : List ℕ) → o ≡ opens piece → c ≡ closes piece → item ≡ item_of piece → ((inside && o) || (not (inside || o) && c) || list_any is_brace item) ≡ is_bad_piece inside piece
bad_parts inside piece o c item e f g = rw (e, f, g) refl

pub open_parts : (inside : Bool) (piece : List ℕ) (o c : Bool) → o ≡ opens piece → c ≡ closes piece → ((inside || o) && not c) ≡ ((inside || opens piece) && not (closes piece))
open_parts inside piece o c e f = rw (e, f) refl
