-- Which condition of a cut fails first.
use Rattle.std.specs.Prelude.{◌≡◌, ◌≤◌, ◌<◌, ◌%◌, ◌++◌, ℕ, List, [], length, take, All, Any, Contains, EachIndex, slice_index, nat_eq}
use Rattle.std.specs.List.{IsDistinct, slice_index_or}
use Rattle.lop_cuts.specs.declared.fault.CutFault.{CutFault}
use Rattle.lop_cuts.specs.declared.fault.CutFault.TheVariants.{CountRange, CountEven, Range, Repeated, ArcThrice}
use Rattle.lop_cuts.specs.Arcs.{cycle_arcs, cycles_with, IsCycle}

-- the objects are below n, and all differ
pub record AreObjects (n : ℕ) (objects : List ℕ) : Type 0 where
  pub in_range : All (λ x. x < n) objects
  pub distinct : IsDistinct nat_eq objects

-- the first place whose object is out of range, or stood before; the objects ahead of it are right
abbrev pub IsObjectFault : ℕ → List ℕ → CutFault → Type 0
IsObjectFault n objects (Range place) =
    (place < length objects) × AreObjects n (take place objects) × (n ≤ slice_index objects place)
IsObjectFault n objects (Repeated place) =
    (place < length objects) × AreObjects n (take place objects) × (slice_index objects place < n)
    × Contains (take place objects) (slice_index objects place)
IsObjectFault n objects CountRange = ⊥
IsObjectFault n objects CountEven = ⊥
IsObjectFault n objects (ArcThrice _) = ⊥

-- a fence's lists are equally long, with 3 to 8 objects
pub record IsFenceCount (u w : List ℕ) : Type 0 where
  pub same_length : length u ≡ length w
  pub at_least : 3 ≤ length u
  pub at_most : length u ≤ 8

-- a fence's objects are tested over u and then w
abbrev pub IsFenceFault : ℕ → List ℕ → List ℕ → CutFault → Type 0
IsFenceFault n u w CountRange = ¬ IsFenceCount u w
IsFenceFault n u w CountEven = ⊥
IsFenceFault n u w (Range place) = IsFenceCount u w × IsObjectFault n (u ++ w) (Range place)
IsFenceFault n u w (Repeated place) = IsFenceCount u w × IsObjectFault n (u ++ w) (Repeated place)
IsFenceFault n u w (ArcThrice _) = ⊥

-- a cycle may follow others: its objects are below n and differ, and no arc of it lies in two of those
pub record IsNextCycle (n : ℕ) (others : List (List ℕ)) (objects : List ℕ) : Type 0 where
  pub in_range : All (λ x. x < n) objects
  pub cycle : IsCycle objects
  pub at_most_one : All (λ a. cycles_with a others ≤ 1) (cycle_arcs objects)

-- the first condition of a cycle after others that fails: the range of all its objects, then repetition, then
-- an arc that lies in two of the others
abbrev pub IsCycleFault : ℕ → List (List ℕ) → List ℕ → CutFault → Type 0
IsCycleFault n others cycle CountRange = ⊥
IsCycleFault n others cycle CountEven = ⊥
IsCycleFault n others cycle (Range index) = (index ≡ length others) × Any (λ x. n ≤ x) cycle
IsCycleFault n others cycle (Repeated index) =
    (index ≡ length others) × All (λ x. x < n) cycle × ¬ IsDistinct nat_eq cycle
IsCycleFault n others cycle (ArcThrice index) =
    (index ≡ length others) × All (λ x. x < n) cycle × IsDistinct nat_eq cycle × Any (λ a. 2 ≤ cycles_with a others) (cycle_arcs cycle)

-- the cycle at this place
abbrev pub cycle_at : List (List ℕ) → ℕ → List ℕ
cycle_at cycles k = slice_index_or cycles k []

-- each cycle may follow those before it
abbrev pub AreCycles : ℕ → List (List ℕ) → Type 0
AreCycles n cycles = EachIndex cycles (λ k. IsNextCycle n (take k cycles) (cycle_at cycles k))

-- the first of the cycles that may not follow those before it
pub record IsFirstCycleFault (n : ℕ) (cycles : List (List ℕ)) (fault : CutFault) : Type 0 where
  pub place : ℕ
  pub in_bounds : place < length cycles
  pub before : (k : ℕ) → k < place → IsNextCycle n (take k cycles) (cycle_at cycles k)
  pub here : IsCycleFault n (take place cycles) (cycle_at cycles place) fault

-- a ladder has an odd number of cycles from 3 to 9
pub record IsLadderCount (cycles : List (List ℕ)) : Type 0 where
  pub at_least : 3 ≤ length cycles
  pub at_most : length cycles ≤ 9
  pub odd : length cycles % 2 ≡ 1

-- a ladder's counts are tested, and then its cycles in turn
abbrev pub IsLadderFault : ℕ → List (List ℕ) → CutFault → Type 0
IsLadderFault n cycles CountRange = ¬ ((3 ≤ length cycles) × (length cycles ≤ 9))
IsLadderFault n cycles CountEven = (3 ≤ length cycles) × (length cycles ≤ 9) × (length cycles % 2 ≡ 0)
IsLadderFault n cycles (Range index) = IsLadderCount cycles × IsFirstCycleFault n cycles (Range index)
IsLadderFault n cycles (Repeated index) = IsLadderCount cycles × IsFirstCycleFault n cycles (Repeated index)
IsLadderFault n cycles (ArcThrice index) = IsLadderCount cycles × IsFirstCycleFault n cycles (ArcThrice index)
