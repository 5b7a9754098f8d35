-- The arcs of cycles, fences and ladders, over lists of objects.
use Rattle.std.specs.Prelude.{◌≡◌, ◌⊎◌, ℕ, nat_eq, Bool, not, length, ◌==◌, ◌&&◌, List, [], ◌∷◌, ◌++◌, filter, count_by}
use Rattle.std.specs.List.{flat_map, zip, IsDistinct}
use Rattle.lop_model.specs.declared.pair.Pair.{Pair}
use Rattle.lop_model.specs.Order.{stands_before}
use Rattle.lop_model.specs.Fixings.{has_pair}

-- the arc from a to b
abbrev pub arc : ℕ → ℕ → Pair
arc a b = record { before = a; after = b }

-- two arcs are the same
abbrev pub same_arc : Pair → Pair → Bool
same_arc a b = a.before == b.before && a.after == b.after

-- how many of the arcs an order keeps: those whose first object stands before the second
abbrev pub kept_count : List ℕ → List Pair → ℕ
kept_count s arcs = count_by (λ a. stands_before s a.before a.after) arcs

-- from x along a path, and from its last object to the first of the cycle
abbrev pub arcs_back_to : ℕ → ℕ → List ℕ → List Pair
arcs_back_to first x [] = arc x first ∷ []
arcs_back_to first x (y ∷ ys) = arc x y ∷ arcs_back_to first y ys

-- the arcs of a cycle: from each object to the next, and from the last to the first
abbrev pub cycle_arcs : List ℕ → List Pair
cycle_arcs [] = []
cycle_arcs (x ∷ xs) = arcs_back_to x x xs

-- the two arcs between two posts (u, w) of a fence: from each one's w to the other's u
abbrev pub arcs_across : ℕ × ℕ → ℕ × ℕ → List Pair
arcs_across p q = arc p.1 q.0 ∷ arc q.1 p.0 ∷ []

-- the arcs of a fence with these posts: each post's from u to w, and those across each two posts
abbrev pub post_arcs : List (ℕ × ℕ) → List Pair
post_arcs [] = []
post_arcs (p ∷ ps) = arc p.0 p.1 ∷ flat_map (arcs_across p) ps ++ post_arcs ps

-- the arcs of the fence whose posts are the first of us and of ws, the second of both, and so on
abbrev pub fence_arcs : List ℕ → List ℕ → List Pair
fence_arcs us ws = post_arcs (zip us ws)

-- each arc of a list once, where it stands first
abbrev pub distinct_arcs : List Pair → List Pair
distinct_arcs [] = []
distinct_arcs (a ∷ rest) = a ∷ filter (λ b. not (same_arc a b)) (distinct_arcs rest)

-- the distinct arcs of all cycles
abbrev pub ladder_arcs : List (List ℕ) → List Pair
ladder_arcs cycles = distinct_arcs (flat_map cycle_arcs cycles)

-- how many of the cycles have the arc
abbrev pub cycles_with : Pair → List (List ℕ) → ℕ
cycles_with a cycles = count_by (λ c. has_pair (cycle_arcs c) a.before a.after) cycles

-- three or four different objects
pub record IsCycle (objects : List ℕ) : Type 0 where
  pub size : (length objects ≡ 3) ⊎ (length objects ≡ 4)
  pub distinct : IsDistinct nat_eq objects
