-- Results and entries that a judge shows.
use Rattle.std.specs.Prelude.{◌≡◌, ℕ, ℤ, List, slice_get, take, Option, Some}
use Rattle.lop_model.specs.declared.pair.Pair.{Pair}
use Rattle.lop_model.specs.Matrix.{Matrix}
use Rattle.lop_leaf.specs.Ticket.{TicketFields}
use Rattle.lop_leaf.specs.Evaluated.{EvaluatedFields}
use Rattle.lop_leaf.specs.Sound.{IsSoundResult}
use Rattle.lop_core.specs.declared.journal.Entry.{Entry}
use Rattle.lop_core.specs.declared.journal.Entry.TheVariants.{Take, Report}
use Rattle.lop_core.specs.Tree.{node_at, path_of}
use Rattle.lop_core.specs.Machine.{Problem, SearchState}
use Rattle.lop_core.specs.Journal.{replay}

-- what a judge's type shows of a result: a relation of the weights, the path, the bound, the pair and the value
abbrev pub Relation : Type 1
Relation = Matrix → List Pair → ℤ → Option Pair → ℤ → Type 0

-- what a report tells stands in the relation, with the path that its node has after the entries before it
abbrev pub IsJudged : Relation → Problem → List Entry → Entry → Type 0
IsJudged judged problem before (Take worker node) = Unit {0}
IsJudged judged problem before (Report worker node bound pair value room) = judged problem.weights (path_of (replay problem before).nodes node) bound pair value

-- each report of the journal came from a judge
abbrev pub AreJudged : Relation → Problem → List Entry → Type 0
AreJudged judged problem journal = (k : ℕ) (entry : Entry) → slice_get journal k ≡ Some entry → IsJudged judged problem (take k journal) entry

-- a result is sound for a ticket with the node's bound and path, and stands in the relation
pub record IsJudgedResult (judged : Relation) (C : Matrix) (s : SearchState) (found : EvaluatedFields) : Type 0 where
  pub ticket : TicketFields
  pub bound : ticket.bound ≡ (node_at s.nodes found.node).bound
  pub path : ticket.path ≡ path_of s.nodes found.node
  pub sound : IsSoundResult C ticket found
  pub shown : judged C ticket.path found.bound found.pair found.value
