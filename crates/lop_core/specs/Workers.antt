-- What several workers rely on: what stands still while a node is out, and what never changes.
use Rattle.std.specs.Prelude.{◌≡◌, ℕ, ℤ, pos, ◌≤ℤ◌, neg_ℤ, zero, suc, List, ◌∷◌}
use Rattle.std.specs.List.{flat_map}
use Rattle.lop_model.specs.declared.weights.TheConstants.{MAX_ABSOLUTE_SUM}
use Rattle.lop_leaf.specs.Ticket.{TicketFields}
use Rattle.lop_leaf.specs.Evaluated.{EvaluatedFields}
use Rattle.lop_leaf.specs.Record.{IsScaledTerms}
use Rattle.lop_core.specs.declared.reply.TakeReply.{TakeReply}
use Rattle.lop_core.specs.declared.reply.ReportReply.{ReportReply}
use Rattle.lop_core.specs.Tree.{node_at, path_of}
use Rattle.lop_core.specs.Machine.{Problem, SearchState, IsOutTo}
use Rattle.lop_core.specs.Records.{IsRecordBook}
use Rattle.lop_core.specs.Core.{CoreFields, HasHistory, AreRecorded, IsTake, IsReport, IsSoundReport}

-- n, the budget, the start value, and the entries of the matrix row by row, in one list
abbrev pub fixed_of : Problem → List ℤ
fixed_of problem = pos problem.weights.size ∷ pos problem.budget ∷ problem.start ∷ flat_map (λ (row : List ℤ). row) problem.weights.rows

-- at most the greatest absolute sum of weights, in absolute value
pub record IsInRange (value : ℤ) : Type 0 where
  pub low : neg_ℤ MAX_ABSOLUTE_SUM ≤ℤ value
  pub high : value ≤ℤ MAX_ABSOLUTE_SUM

-- the node has the bound and the path that it had
pub record StandsStill (old new : SearchState) (node : ℕ) : Type 0 where
  pub bound : (node_at new.nodes node).bound ≡ (node_at old.nodes node).bound
  pub path : path_of new.nodes node ≡ path_of old.nodes node

-- what holds of every core between its calls
pub record IsCore (core : CoreFields) : Type 0 where
  pub history : HasHistory core
  pub recorded : AreRecorded core
  pub book : IsRecordBook core.book

-- one call of a core: a take or a report of some worker
pub data IsCall (old new : CoreFields) : Type 0 where
  take_call : (worker : ℕ) (blank ticket : TicketFields) (reply : TakeReply) → IsTake old blank worker reply new ticket → IsCall old new
  report_call : (worker : ℕ) (found : EvaluatedFields) (reply : ReportReply) → IsScaledTerms found.shown → (IsOutTo old.state worker found.node → IsSoundReport old found)
      → IsReport old worker found reply new → IsCall old new

-- so many calls lead from one core to another
abbrev pub Leads : ℕ → CoreFields → CoreFields → Type 0
Leads zero old new = new ≡ old
Leads (suc k) old new = (mid : CoreFields) × IsCore mid × Leads k old mid × IsCall mid new
