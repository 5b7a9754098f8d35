-- Journals: replay, whose entries, and which journals are lawful.
use Rattle.std.specs.Prelude.{◌≡◌, ℕ, ℤ, ◌+◌, ◌*◌, ◌/◌, min, ◌<◌, ◌≤◌, ◌≤ℤ◌, List, length, slice_get, take, fold, count_by, filter, Any, Bool, true, false, Option, Some, IfSome, IfNone, ◌==◌}
use Rattle.lop_model.specs.declared.pair.Pair.{Pair}
use Rattle.lop_model.specs.Order.{IsOrder}
use Rattle.lop_model.specs.Matrix.{Matrix, weight}
use Rattle.lop_model.specs.Attained.{IsAttained}
use Rattle.lop_model.specs.Fixings.{IsClosure, IsUndecided, IsLinearExtension, AreAllDecided}
use Rattle.lop_leaf.specs.Packing.{packing_bound}
use Rattle.lop_core.specs.declared.journal.Entry.{Entry}
use Rattle.lop_core.specs.declared.journal.Entry.TheVariants.{Take, Report}
use Rattle.lop_core.specs.Tree.{node_at, path_of, out_count, split_count}
use Rattle.lop_core.specs.Machine.{Problem, SearchState, root_state, after, IsOutTo, IsReady}

-- no order that extends the path weighs more than b
abbrev pub IsPathBound : Matrix → List Pair → ℤ → Type 0
IsPathBound C path b = (s : List ℕ) → IsOrder C.size s → IsLinearExtension s path → weight C s ≤ℤ b

-- b is at most the packing bound under the path
abbrev pub IsWithinPackingBound : Matrix → List Pair → ℤ → Type 0
IsWithinPackingBound C path b = (G : List Pair) → IsClosure path G → b ≤ℤ packing_bound C G

-- the state after the entries, from the root
abbrev pub replay : Problem → List Entry → SearchState
replay problem journal = fold after (root_state problem) journal

-- the worker whose entry it is
abbrev pub worker_of : Entry → ℕ
worker_of (Take who node) = who
worker_of (Report who node bound pair value room) = who

-- whether the entry is of the worker
abbrev pub is_of : ℕ → Entry → Bool
is_of worker entry = worker_of entry == worker

-- the entries of a worker
abbrev pub entries_of : ℕ → List Entry → List Entry
entries_of worker journal = filter (λ e. worker_of e == worker) journal

abbrev pub takes : ℕ → Entry → Bool
takes node (Take who taken) = taken == node
takes node (Report who reported bound pair value room) = false

abbrev pub reports : ℕ → Entry → Bool
reports node (Take who taken) = false
reports node (Report who reported bound pair value room) = reported == node

-- one of the entries is a take of the node
abbrev pub HasTake : ℕ → List Entry → Type 0
HasTake node journal = Any (λ e. takes node e ≡ true) journal

-- one of the entries is a report of the node
abbrev pub HasReport : ℕ → List Entry → Type 0
HasReport node journal = Any (λ e. reports node e ≡ true) journal

abbrev pub is_report : Entry → Bool
is_report (Take who node) = false
is_report (Report who node bound pair value room) = true

-- whether the entry is a report whose record found room
abbrev pub has_room : Entry → Bool
has_room (Take who node) = false
has_room (Report who node bound pair value room) = room

-- how many reports found room
abbrev pub room_count : List Entry → ℕ
room_count journal = count_by has_room journal

-- how many reports find room at least: each has at most 4,096 terms and as many new cuts
abbrev pub sure_rooms : ℕ → ℕ
sure_rooms budget = min 16 (1 + budget / 4)

-- a node may be handed out: it is live and idle, and the evaluated nodes and those that are out are below the budget
pub record MayTake (problem : Problem) (s : SearchState) (node : ℕ) : Type 0 where
  pub ready : IsReady s.nodes s.best node
  pub within : s.evaluated + out_count s.nodes < problem.budget

-- a report may come in a state that so many reports with room led to
pub record MayReport (problem : Problem) (s : SearchState) (rooms worker node : ℕ) (bound : ℤ) (pair : Option Pair) (value : ℤ) (room : Bool) : Type 0 where
  pub is_out : IsOutTo s worker node
  pub no_more : bound ≤ℤ (node_at s.nodes node).bound
  pub packed : IsWithinPackingBound problem.weights (path_of s.nodes node) bound
  pub holds : IsPathBound problem.weights (path_of s.nodes node) bound
  pub attained : IsAttained problem.weights value
  pub undecided : IfSome pair (λ p. IsUndecided problem.weights.size (path_of s.nodes node) p.before p.after)
  pub all_decided : IfNone pair (AreAllDecided problem.weights.size (path_of s.nodes node) × (value ≡ bound))
  pub decided_room : IfNone pair (room ≡ true)
  -- a record is refused only where the rooms may be full
  pub refused : room ≡ false → sure_rooms problem.budget ≤ rooms

-- the entry may come after those entries
abbrev pub MayFollow : Problem → List Entry → Entry → Type 0
MayFollow problem journal (Take worker node) = MayTake problem (replay problem journal) node
MayFollow problem journal (Report worker node bound pair value room) = MayReport problem (replay problem journal) (room_count journal) worker node bound pair value room

-- the search starts with the weight of an order, and each entry may come after those before it
pub record IsLawfulJournal (problem : Problem) (journal : List Entry) : Type 0 where
  pub start : IsAttained problem.weights problem.start
  pub each : (k : ℕ) (entry : Entry) → slice_get journal k ≡ Some entry → MayFollow problem (take k journal) entry

-- the counts of a state, and those of its journal
pub record AreCounted (problem : Problem) (s : SearchState) (journal : List Entry) : Type 0 where
  -- the evaluated nodes are the reports
  pub evaluated : s.evaluated ≡ count_by is_report journal
  -- each entry is a take or a report, and each take was reported or is out
  pub entries : length journal ≡ 2 * s.evaluated + out_count s.nodes
  pub within : s.evaluated + out_count s.nodes ≤ problem.budget
  pub splits : split_count s.nodes ≤ s.evaluated
  pub size : length s.nodes ≡ 1 + 2 * split_count s.nodes
