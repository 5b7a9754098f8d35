-- One cycle after another.
use Rattle.std.specs.Prelude.{◌≡◌, ◌<◌, ◌≤◌, ℕ, List, ◌∷◌, ◌++◌, length, take, drop, ℤ, Option, None, Some, true, false}
use Rattle.lop_cuts.specs.declared.kind.Cycle.{Cycle}
use Rattle.lop_certtext.specs.CutLine.{objects_of, name_objects, cycles_of}

-- the cycle in front of what others there are
abbrev pub in_front : Cycle → Option (List Cycle) → Option (List Cycle)
in_front c None = None
in_front c (Some cs) = Some (c ∷ cs)

-- the cycles in front of what others there are
abbrev pub all_in_front : List Cycle → Option (List Cycle) → Option (List Cycle)
all_in_front cs None = None
all_in_front cs (Some ds) = Some (cs ++ ds)

-- the first so many numbers spell the cycle
pub record IsFirstCycle (n : ℕ) (ns : List ℤ) (c : Cycle) (len : ℕ) : Type 0 where
  pub some : 0 < len
  pub within : len ≤ length ns
  pub read : cycles_of n ns ≡ in_front c (cycles_of n (drop len ns))

-- the numbers spell no cycles
abbrev pub IsNoCycle : ℕ → List ℤ → Type 0
IsNoCycle n ns = cycles_of n ns ≡ None

-- so many numbers behind the first
abbrev pub behind : ℕ → List ℤ → List ℤ
behind count ns = take count (drop 1 ns)

-- they are there, and name these objects
pub record AreNamed (n count : ℕ) (ns : List ℤ) (objects : List ℕ) : Type 0 where
  pub within : count < length ns
  pub named : name_objects n (behind count ns) ≡ true
  pub are : objects ≡ objects_of (behind count ns)

-- they are fewer, or one of them names no object
abbrev pub NameNone : ℕ → ℕ → List ℤ → Type 0
NameNone n count ns = count < length ns → name_objects n (behind count ns) ≡ false
