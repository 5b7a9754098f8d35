-- The conditions of a cut as tests that compute.
use Rattle.std.specs.Prelude.{ℕ, ◌%◌, Bool, true, not, ◌&&◌, ◌||◌, ◌==◌, nat_eq, nat_le, List, [], ◌∷◌, ◌++◌, length, map}
use Rattle.std.specs.List.{flat_map, list_all}
use Rattle.lop_cuts.specs.declared.kind.CutKind.{CutKind}
use Rattle.lop_cuts.specs.declared.kind.CutKind.TheVariants as kind
use Rattle.lop_cuts.specs.Arcs.{cycle_arcs, cycles_with}
use Rattle.lop_cuts.specs.Kind.{objects_of as cycle_objects}

-- no object stands twice
abbrev pub are_different : List ℕ → Bool
are_different [] = true
are_different (x ∷ xs) = list_all (λ y. not (nat_eq x y)) xs && are_different xs

-- three or four different objects
abbrev pub is_cycle : List ℕ → Bool
is_cycle objects = (length objects == 3 || length objects == 4) && are_different objects

-- an odd number of cycles from 3 to 9, no arc in more than two of them
abbrev pub is_ladder : List (List ℕ) → Bool
is_ladder cycles =
    nat_le 3 (length cycles) && nat_le (length cycles) 9 && length cycles % 2 == 1 && list_all is_cycle cycles && list_all (λ a. nat_le (cycles_with a cycles) 2) (flat_map cycle_arcs cycles)

-- the cut meets the conditions of its kind
abbrev pub is_cut : CutKind → Bool
is_cut (kind.Dicycle objects) = length objects == 3 && are_different objects
is_cut (kind.Fence u w) =
    length u.items == length w.items && nat_le 3 (length u.items) && nat_le (length u.items) 8 && are_different (u.items ++ w.items)
is_cut (kind.Ladder cycles) = is_ladder (map cycle_objects cycles.items)
