-- The line of a cut, and the cut that a line spells.
use Rattle.std.specs.Prelude.{◌≡◌, ⊤, All, ℕ, zero, suc, ◌+◌, ◌-◌, Bool, ◌&&◌, ◌==◌, int_le, List, [], ◌∷◌, ◌++◌, length, map, take, drop, ℤ, pos, nat_abs, Option, None, Some, if◌then◌else◌}
use Rattle.std.specs.List.{flat_map, list_all}
use Rattle.lop_cuts.specs.declared.kind.Cycle.{Cycle}
use Rattle.lop_cuts.specs.declared.kind.Cycle.TheVariants.{Three, Four}
use Rattle.lop_cuts.specs.declared.kind.CutKind.{CutKind}
use Rattle.lop_cuts.specs.declared.kind.CutKind.TheVariants as kind
use Rattle.lop_cuts.specs.CutTests.{is_cut}
use Rattle.lop_cuts.specs.Kind.{fence_of, ladder_of}
use Rattle.lop_cuts.specs.Kind.{objects_of as cycle_objects}
use Rattle.lop_certtext.specs.declared.word.CertWord.{CertWord}
use Rattle.lop_certtext.specs.declared.word.CertWord.TheVariants.{Dicycle, Fence, Ladder}
use Rattle.lop_certtext.specs.Line.{CertLine}

-- ---- written

-- objects as a line has them, from 1
abbrev pub numbers_of_objects : List ℕ → List ℤ
numbers_of_objects s = map (λ a. pos (a + 1)) s

-- how many objects a cycle has, and the objects
abbrev pub cycle_numbers : Cycle → List ℤ
cycle_numbers c = pos (length (cycle_objects c)) ∷ numbers_of_objects (cycle_objects c)

-- the line of a cut
abbrev pub cut_line : CutKind → CertLine
cut_line (kind.Dicycle objects) = record { word = Dicycle; numbers = numbers_of_objects objects }
cut_line (kind.Fence u w) = record { word = Fence; numbers = pos (length u.items) ∷ numbers_of_objects (u.items ++ w.items) }
cut_line (kind.Ladder cycles) = record { word = Ladder; numbers = pos (length cycles.items) ∷ flat_map cycle_numbers cycles.items }

-- a cycle of three has three objects, and one of four has four
abbrev pub IsShapedCycle : Cycle → Type 0
IsShapedCycle (Three objects) = length objects ≡ 3
IsShapedCycle (Four objects) = length objects ≡ 4

abbrev pub IsShapedCut : CutKind → Type 0
IsShapedCut (kind.Dicycle objects) = ⊤
IsShapedCut (kind.Fence u w) = ⊤
IsShapedCut (kind.Ladder cycles) = All IsShapedCycle cycles.items

-- ---- read

-- the objects of a line, which count from 1 there
abbrev pub objects_of : List ℤ → List ℕ
objects_of ns = map (λ n. nat_abs n - 1) ns

-- each number is one of 1 to n
abbrev pub name_objects : ℕ → List ℤ → Bool
name_objects n ns = list_all (λ x. int_le (pos 1) x && int_le x (pos n)) ns

-- the cut, if the numbers are of 1 to n and it meets its conditions
abbrev pub if_cut : Bool → CutKind → Option CutKind
if_cut named cut = if named && is_cut cut then Some cut else None

-- the cycle in front of others, if its numbers are of 1 to n
abbrev pub with_cycle : Bool → Cycle → Option (List Cycle) → Option (List Cycle)
with_cycle named c None = None
with_cycle named c (Some cs) = if named then Some (c ∷ cs) else None

-- the cycles that numbers spell: for each its length, 3 or 4, and its objects
abbrev pub cycles_of : ℕ → List ℤ → Option (List Cycle)
cycles_of n [] = Some []
cycles_of n (pos (suc (suc (suc zero))) ∷ a ∷ b ∷ c ∷ ns) =
    with_cycle (name_objects n (a ∷ b ∷ c ∷ [])) (Three (objects_of (a ∷ b ∷ c ∷ []))) (cycles_of n ns)
cycles_of n (pos (suc (suc (suc (suc zero)))) ∷ a ∷ b ∷ c ∷ d ∷ ns) =
    with_cycle (name_objects n (a ∷ b ∷ c ∷ d ∷ [])) (Four (objects_of (a ∷ b ∷ c ∷ d ∷ []))) (cycles_of n ns)
cycles_of n ns = None

-- the ladder of so many cycles
abbrev pub if_ladder : ℕ → Option (List Cycle) → Option CutKind
if_ladder k None = None
if_ladder k (Some cs) = if_cut (length cs == k) (ladder_of cs)

-- the fence with k posts
abbrev pub if_fence : ℕ → ℕ → List ℤ → Option CutKind
if_fence n k ns = if_cut (length ns == k + k && name_objects n ns) (fence_of (objects_of (take k ns)) (objects_of (drop k ns)))

-- the cut of 1 to n that a line spells
abbrev pub cut_of : ℕ → CertWord → List ℤ → Option CutKind
cut_of n Dicycle ns = if_cut (name_objects n ns) (kind.Dicycle (objects_of ns))
cut_of n Fence (k ∷ ns) = if_fence n (nat_abs k) ns
cut_of n Ladder (k ∷ ns) = if_ladder (nat_abs k) (cycles_of n ns)
cut_of n word ns = None
