-- What a cut is: its conditions, its arcs and its right side.
use Rattle.std.specs.Prelude.{◌≡◌, ◌+◌, ◌-◌, ◌*◌, ◌/◌, ◌%◌, ◌≤◌, ◌<◌, ℕ, List, ◌++◌, length, map, All, nat_eq}
use Rattle.std.specs.List.{IsDistinct, flat_map}
use Rattle.lop_model.specs.declared.pair.Pair.{Pair}
use Rattle.lop_model.specs.Order.{IsOrder}
use Rattle.lop_cuts.specs.declared.kind.Cycle.{Cycle}
use Rattle.lop_cuts.specs.declared.kind.Cycle.TheVariants.{Three, Four}
use Rattle.lop_cuts.specs.declared.kind.CutKind.{CutKind}
use Rattle.lop_cuts.specs.declared.kind.CutKind.TheVariants.{Dicycle, Fence, Ladder}
use Rattle.lop_cuts.specs.Arcs.{kept_count, cycle_arcs, fence_arcs, ladder_arcs, cycles_with, IsCycle}

-- the objects of a cycle, in turn
abbrev pub objects_of : Cycle → List ℕ
objects_of (Three objects) = objects
objects_of (Four objects) = objects

-- three objects that all differ
pub record IsDicycle (objects : List ℕ) : Type 0 where
  pub size : length objects ≡ 3
  pub distinct : IsDistinct nat_eq objects

-- 3 to 8 posts, of objects that all differ
pub record IsFence (u w : List ℕ) : Type 0 where
  pub same_length : length u ≡ length w
  pub at_least : 3 ≤ length u
  pub at_most : length u ≤ 8
  pub distinct : IsDistinct nat_eq (u ++ w)

-- an odd number of cycles from 3 to 9, no arc in more than two of them
pub record IsLadder (cycles : List (List ℕ)) : Type 0 where
  pub at_least : 3 ≤ length cycles
  pub at_most : length cycles ≤ 9
  pub odd : length cycles % 2 ≡ 1
  pub each : All IsCycle cycles
  pub twice : (a : Pair) → cycles_with a cycles ≤ 2

-- the cut meets the conditions of its kind
abbrev pub IsCut : CutKind → Type 0
IsCut (Dicycle objects) = IsDicycle objects
IsCut (Fence u w) = IsFence u.items w.items
IsCut (Ladder cycles) = IsLadder (map objects_of cycles.items)

-- the fence of these lists
abbrev pub fence_of : List ℕ → List ℕ → CutKind
fence_of u w = Fence (record { items = u }) (record { items = w })

-- the ladder of these cycles
abbrev pub ladder_of : List Cycle → CutKind
ladder_of cycles = Ladder (record { items = cycles })

-- the arcs of a cut
abbrev pub arcs_of : CutKind → List Pair
arcs_of (Dicycle objects) = cycle_arcs objects
arcs_of (Fence u w) = fence_arcs u.items w.items
arcs_of (Ladder cycles) = ladder_arcs (map objects_of cycles.items)

-- how many of its arcs an order keeps at most
abbrev pub right_side_of : CutKind → ℕ
right_side_of (Dicycle objects) = 2
right_side_of (Fence u w) = length u.items * length u.items - length u.items + 1
right_side_of (Ladder cycles) = length (ladder_arcs (map objects_of cycles.items)) - (length cycles.items + 1) / 2

-- each order of n keeps at most the right side of the cut's arcs
pub record IsValidCut (n : ℕ) (cut : CutKind) : Type 0 where
  pub each : (s : List ℕ) → IsOrder n s → kept_count s (arcs_of cut) ≤ right_side_of cut

-- the objects of a cut
abbrev pub objects_in : CutKind → List ℕ
objects_in (Dicycle objects) = objects
objects_in (Fence u w) = u.items ++ w.items
objects_in (Ladder cycles) = flat_map objects_of cycles.items

-- a cut fits n where each of its objects is below n
abbrev pub FitsCut : ℕ → CutKind → Type 0
FitsCut n cut = All (λ a. a < n) (objects_in cut)

-- the arc goes from an object below n to one below n
abbrev pub IsArcBelow : ℕ → Pair → Type 0
IsArcBelow n a = (a.before < n) × (a.after < n)
