-- The 3-dicycles of n objects, and those that a point violates.
use Rattle.std.specs.Prelude.{ℕ, ◌+◌, ◌-◌, ◌*◌, ◌^◌, nat_lt, Bool, List, [], ◌∷◌, filter}
use Rattle.std.specs.List.{range_with_len, flat_map}
use Rattle.lop_cuts.specs.declared.kind.CutKind.{CutKind}
use Rattle.lop_cuts.specs.declared.kind.CutKind.TheVariants.{Dicycle}
use Rattle.lop_cuts.specs.Kind.{arcs_of, right_side_of}
use Rattle.lop_cuts.specs.Point.{PointValues, arcs_value}

-- a, a + 1, .., n - 1
abbrev pub objects_from : ℕ → ℕ → List ℕ
objects_from a n = range_with_len a (n - a)

-- both dicycles of three objects
abbrev pub both_dicycles : ℕ → ℕ → ℕ → List CutKind
both_dicycles i j k = Dicycle (i ∷ j ∷ k ∷ []) ∷ Dicycle (i ∷ k ∷ j ∷ []) ∷ []

-- those of the triples i < j < k of an i and a j
abbrev pub dicycles_over : ℕ → ℕ → ℕ → List CutKind
dicycles_over n i j = flat_map (both_dicycles i j) (objects_from (j + 1) n)

-- those of the triples i < j < k of an i
abbrev pub dicycles_from : ℕ → ℕ → List CutKind
dicycles_from n i = flat_map (dicycles_over n i) (objects_from (i + 1) n)

-- the 3-dicycles of n objects: those of all triples i < j < k in lexicographic order, first i, j, k and then i, k, j
abbrev pub dicycles : ℕ → List CutKind
dicycles n = flat_map (dicycles_from n) (objects_from 0 n)

-- whether the point violates the cut
abbrev pub violates : PointValues → CutKind → Bool
violates p cut = nat_lt (right_side_of cut * 2 ^ 32) (arcs_value p (arcs_of cut))

-- the dicycles that the point violates, in that order
abbrev pub violated_dicycles : PointValues → List CutKind
violated_dicycles p = filter (violates p) (dicycles p.size)
