use Rattle.std.proofs.Common.{◌≡◌, ◌+◌, ◌-◌, ◌*◌, ◌<◌, ◌≤◌, ℕ, List, cond, length, take, drop, get_or, ◌∙◌, ap, arith}
use Rattle.std.proofs.lemmas.List.{get_or-take, get_or-drop, length-take, length-drop, get_or_default}
use Rattle.lop_profile.specs.Preference.{stands_in}
use Rattle.lop_profile.proofs.PairLemmas.{row_before, row_le, pairs_added-more}
use Rattle.lop_profile.proofs.cells.add_order.Goals as goal

-- a cell of a row
in_row : (cells : List ℕ) (s n j : ℕ) → j < n → get_or (take (s + n - s) (drop s cells)) j 0 ≡ get_or cells (s + j) 0
in_row cells s n j low = get_or-take (s + n - s) (drop s cells) j 0 (omega (arith, low)) ∙ get_or-drop s cells j 0

row_length : (cells : List ℕ) (s n : ℕ) → s + n ≤ length cells → length (take (s + n - s) (drop s cells)) ≡ n
row_length cells s n fits = omega (arith, length-take (s + n - s) (drop s cells), length-drop s cells)

pub add_row-requires-clause-small : goal.add_row-requires-clause-small
add_row-requires-clause-small c = λ k d low.
    let cells = c.loop-place.cells in
    let n = c.args.n in
    let ranked = c.args.ranked.now in
    let p = c.loop-place.place in
    let a = get_or ranked p 0 in
    let s = a * n in
    let within : p < length ranked = omega arith in
    let fits : s + n ≤ length cells = omega (arith, row_le a n n (c.requires.ranked.below p within), c.requires.square) in
    let small : k < n = omega (arith, low, row_length cells s n fits) in
    let cell : get_or (take (s + n - s) (drop s cells)) k d ≡ get_or c.args.cells.now (s + k) 0 =
    get_or_default (take (s + n - s) (drop s cells)) k d 0 low ∙ in_row cells s n k small ∙ row_before c.args.cells.now cells n c.args.count ranked c.args.groups.now p c.requires.ranked c.requires.groups within c.loop-place.invariant k small
    in
    omega (arith, cell, c.requires.small (s + k) 0 (omega (arith, fits, small)))

pub loop-place-preserved : goal.loop-place-preserved
loop-place-preserved c =
    let cells = c.loop-place.cells in
    let n = c.args.n in
    let ranked = c.args.ranked.now in
    let p = c.loop-place.place in
    let a = get_or ranked p 0 in
    let s = a * n in
    let within : p < length ranked = omega arith in
    let fits : s + n ≤ length cells = omega (arith, row_le a n n (c.requires.ranked.below p within), c.requires.square) in
    let long : length c.add_row.new.row ≡ n = omega (arith, c.add_row.auto.row, row_length cells s n fits) in
    pairs_added-more c.args.cells.now cells n c.args.count ranked c.args.groups.now p c.requires.ranked c.requires.groups within c.loop-place.invariant
    (s + n - s) c.group_end-end.result c.add_row.new.row c.later.result.now (omega arith) (c.loop-place.auto.cells ∙ c.requires.square) long c.later.ensures (record { behind = c.group_end-end.ensures.behind; within = c.group_end-end.ensures.within; same = c.group_end-end.ensures.same; next = c.group_end-end.ensures.next })
    (λ j low. c.add_row.ensures j (omega (arith, low, row_length cells s n fits)) ∙ ap (λ (v : ℕ). v + cond (stands_in c.later.result.now j) c.args.count 0) (in_row cells s n j low))
