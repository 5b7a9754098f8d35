-- Where the walk over the tree stands.
use Rattle.std.specs.Prelude.{◌≡◌, ◌≤◌, ◌-◌, ◌*◌, ◌/◌, ℕ, List, [], ◌∷◌, ◌++◌, fold, Bool, if◌then◌else◌}
use Rattle.std.specs.Vec.{vec_capacity}
use Rattle.lop_model.specs.declared.pair.Pair.{Pair}
use Rattle.lop_model.specs.Fixings.{IsClosure, IsBranchingPath}
use Rattle.lop_model.specs.Reversed.{reversed}
use Rattle.lop_check.specs.declared.path.Step.{Step}
use Rattle.lop_check.specs.declared.path.Walk.{Walk}
use Rattle.lop_check.specs.Trail.{FixedPath}

-- the path to the node whose line is due, and the paths whose subtrees come after its own
pub record TreePlace : Type 0 where
  pub path : List Pair
  pub others : List (List Pair)

-- one step further down: the pair is kept, and the path with its reverse may be still to come
abbrev pub stepped : TreePlace → Step → TreePlace
stepped at s = record {
  path = at.path ++ s.pair ∷ [];
  others = if s.reverse_due then (at.path ++ reversed s.pair ∷ []) ∷ at.others else at.others;
}

-- after steps from the root
abbrev pub place_after : List Step → TreePlace
place_after steps = fold stepped (record { path = []; others = [] }) steps

-- where a walk stands
abbrev pub place : Walk → TreePlace
place w = place_after w.steps.items

-- all paths that are pending
abbrev pub pending : TreePlace → List (List Pair)
pending at = at.path ∷ at.others

-- those that are pending if there are more
abbrev pub pending_if : Bool → TreePlace → List (List Pair)
pending_if more at = if more then pending at else []

-- the steps have room for one pair of each two objects
abbrev pub HasRoom : Walk → Type 0
HasRoom w = w.trail.size * (w.trail.size - 1) / 2 ≤ vec_capacity w.steps

-- the trail follows the steps, which are branching decisions for n objects
pub record Follows (n : ℕ) (steps : List Step) (trail : FixedPath) : Type 0 where
  pub size : trail.size ≡ n
  pub path : trail.path ≡ (place_after steps).path
  pub branching : IsBranchingPath n (place_after steps).path
  pub closure : IsClosure trail.path trail.fixed

-- the trail follows the steps, which have room for all that are to come
pub record IsWalk (w : Walk) : Type 0 where
  pub follows : Follows w.trail.size w.steps.items w.trail
  pub room : HasRoom w

-- no step was made yet
pub record IsRoot (n : ℕ) (w : Walk) : Type 0 where
  pub steps : w.steps.items ≡ []
  pub trail : w.trail ≡ record { size = n; path = []; fixed = [] }
  pub room : HasRoom w
