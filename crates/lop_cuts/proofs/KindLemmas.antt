-- The right side of a cut holds for every order.
use Rattle.std.proofs.Common.{◌≡◌, ◌+◌, ◌-◌, ◌*◌, ◌/◌, ◌≤◌, ℕ, List, [], ◌∷◌, length, map, subst, arith}
use Rattle.std.specs.List.{zip}
use Rattle.std.proofs.lemmas.List.{length-map}
use Rattle.std.proofs.lemmas.List.Elements.{recursion_from_All}
use Rattle.std.proofs.lemmas.Slice.Zip.{length-zip}
use Rattle.lop_cuts.specs.declared.kind.Cycle.{Cycle}
use Rattle.lop_cuts.specs.declared.kind.CutKind.{CutKind}
use Rattle.lop_cuts.specs.declared.kind.CutKind.TheVariants.{Dicycle, Fence, Ladder}
use Rattle.lop_cuts.specs.Arcs.{kept_count, post_arcs, ladder_arcs, IsCycle}
use Rattle.lop_cuts.specs.Kind.{IsCut, IsLadder, IsValidCut, arcs_of, right_side_of, objects_of}
use Rattle.lop_cuts.proofs.CycleLemmas.{cycle_loses_arc}
use Rattle.lop_cuts.proofs.FenceLemmas.{fence_kept}
use Rattle.lop_cuts.proofs.LadderLemmas.{ladder_kept, ladder_long}
use Rattle.lop_cuts.proofs.ArcListLemmas.{length-cycle_arcs, length-ladder_arcs_le, square_le}

-- any list of objects, an order or not, keeps at most the right side of a cut's arcs
pub kept_count-le-right_side : (s : List ℕ) (cut : CutKind) → IsCut cut → kept_count s (arcs_of cut) ≤ right_side_of cut
kept_count-le-right_side s (Dicycle []) right = omega arith
kept_count-le-right_side s (Dicycle (x ∷ xs)) right =
    omega (arith, cycle_loses_arc s x xs, length-cycle_arcs (x ∷ xs), right.size)
kept_count-le-right_side s (Fence u w) right =
    let posts = zip u.items w.items in
    let same : length posts ≡ length u.items = omega (arith, length-zip u.items w.items, right.same_length) in
    let P : ℕ → Type 0 = λ k. kept_count s (post_arcs posts) ≤ k * k - k + 1 in
    subst P same (fence_kept s posts)
kept_count-le-right_side s (Ladder cycles) right =
    let lists = map objects_of cycles.items in
    let P : ℕ → Type 0 = λ k. kept_count s (ladder_arcs lists) ≤ length (ladder_arcs lists) - (k + 1) / 2 in
    subst P (length-map cycles.items objects_of) (ladder_kept s lists (recursion_from_All IsCycle lists right.each) right.odd right.twice)

-- so a cut is valid for every number of objects
pub IsValidCut-IsCut : (n : ℕ) (cut : CutKind) → IsCut cut → IsValidCut n cut
IsValidCut-IsCut n cut right = record { each = λ s _. kept_count-le-right_side s cut right }

-- a ladder has enough arcs to lose
pub ladder_long_at : (cycles : List Cycle) → IsLadder (map objects_of cycles) → length cycles ≤ 2 * length (ladder_arcs (map objects_of cycles))
ladder_long_at cycles right =
    let lists = map objects_of cycles in
    let long = ladder_long lists (recursion_from_All IsCycle lists right.each) right.twice in
    omega (arith, long, length-map cycles objects_of)

-- a right side is at most 64
pub right_side_of-le : (cut : CutKind) → IsCut cut → right_side_of cut ≤ 64
right_side_of-le (Dicycle objects) right = omega arith
right_side_of-le (Fence u w) right =
    omega (arith, square_le (length u.items) right.at_most, right.at_least, right.at_most)
right_side_of-le (Ladder cycles) right =
    let lists = map objects_of cycles.items in
    omega (arith, length-ladder_arcs_le lists (recursion_from_All IsCycle lists right.each), right.at_most)
