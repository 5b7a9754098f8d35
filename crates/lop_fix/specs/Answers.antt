use Rattle.std.specs.Prelude.{ℕ, ◌<◌, List, length, take, slice_index_or}
use Rattle.lop_model.specs.declared.pair.Pair.{Pair}
use Rattle.lop_model.specs.Fixings.{LeadsTo, IsClosure, IsUndecided, IsDecided, IsBranchingPrefix}
use Rattle.lop_fix.specs.declared.fixings.Decision.{Decision}
use Rattle.lop_fix.specs.declared.fixings.Decision.TheVariants.{Undecided, Before, After}
use Rattle.lop_fix.specs.declared.fixings.PathFault.{PathFault}
use Rattle.lop_fix.specs.declared.fixings.PathFault.TheVariants.{Decided}

-- how a and b stand to each other under the pairs F of n objects
abbrev pub IsDecision : ℕ → List Pair → ℕ → ℕ → Decision → Type 0
IsDecision n F a b Undecided = IsUndecided n F a b
IsDecision n F a b Before = LeadsTo F a b
IsDecision n F a b After = LeadsTo F b a

-- each pair of the path before place k is undecided under those before it, these decide the pair at place k, and G is their closure
abbrev pub IsPathFault : ℕ → List Pair → List Pair → PathFault → Type 0
IsPathFault n path G (Decided k) =
    (k < length path) × IsBranchingPrefix n path k × ((p : Pair) → IsDecided (take k path) (slice_index_or path k p).before (slice_index_or path k p).after) × IsClosure (take k path) G
