-- What contracts see of a core, what is true of it, and its steps.
use Rattle.std.specs.Prelude.{◌≡◌, ℕ, ◌+◌, ◌*◌, ◌<◌, ◌≤◌, ◌<ℤ◌, ◌≤ℤ◌, List, [], ◌∷◌, ◌++◌, length, All, Bool, ◌||◌}
use Rattle.lop_model.specs.Order.{IsOrder}
use Rattle.lop_model.specs.Matrix.{Matrix, weight}
use Rattle.lop_cuts.specs.Kind.{FitsCut}
use Rattle.lop_cuts.specs.declared.limits.TheConstants.{MAX_TERMS}
use Rattle.lop_leaf.specs.Bound.{CertifiesUnder}
use Rattle.lop_leaf.specs.Ticket.{TicketFields}
use Rattle.lop_leaf.specs.Evaluated.{EvaluatedFields}
use Rattle.lop_leaf.specs.Sound.{IsSoundTicket, IsSoundResult}
use Rattle.lop_core.specs.declared.node.SearchNode.{SearchNode}
use Rattle.lop_core.specs.declared.node.NodeView.{NodeView}
use Rattle.lop_core.specs.declared.journal.Entry.{Entry}
use Rattle.lop_core.specs.declared.journal.Entry.TheVariants.{Take, Report}
use Rattle.lop_core.specs.declared.reply.TakeReply.{TakeReply}
use Rattle.lop_core.specs.declared.reply.TakeReply.TheVariants.{Node, Done, AllOut, Spent}
use Rattle.lop_core.specs.declared.reply.ReportReply.{ReportReply}
use Rattle.lop_core.specs.declared.reply.ReportReply.TheVariants.{Closed, Split, NotYours}
use Rattle.lop_core.specs.Tree.{node_at, path_of, out_count}
use Rattle.lop_core.specs.Records.{NodeRecord, RecordBook, empty_record, record_at, scaled_of, term_room, finds_room, is_own, IsTakenOrKept, with_children}
use Rattle.lop_core.specs.Machine.{Problem, SearchState, root_state, after, IsOutTo, IsLive, IsReady, IsFirstReady}
use Rattle.lop_core.specs.Journal.{replay, room_count, MayTake, IsLawfulJournal}
use Rattle.lop_core.specs.declared.search.TheConstants.{MAX_BUDGET}

-- a core as contracts see it: its problem and state, the journal of how it came about, the order that weighs as much as best, and the records of the nodes
pub record CoreFields : Type 0 where
  pub problem : Problem
  pub state : SearchState
  pub journal : List Entry
  pub order : List ℕ
  pub book : RecordBook

-- the journal is lawful, the state is its replay, and best is the weight of the kept order
pub record HasHistory (core : CoreFields) : Type 0 where
  pub lawful : IsLawfulJournal core.problem core.journal
  pub replayed : core.state ≡ replay core.problem core.journal
  pub is_order : IsOrder core.problem.weights.size core.order
  pub weighs : weight core.problem.weights core.order ≡ core.state.best

-- each node's record certifies the node's bound under the node's path
abbrev pub AreCertified : Matrix → RecordBook → List SearchNode → Type 0
AreCertified C book nodes =
    (i : ℕ) → i < length nodes → CertifiesUnder C (path_of nodes i) (scaled_of book.cuts (record_at book.records i)) (node_at nodes i).bound

-- each node has a record that certifies its bound; the cuts are of the objects; no more terms and cuts came than the reports with room brought; and no more records than one a report
pub record AreRecorded (core : CoreFields) : Type 0 where
  pub same_length : length core.book.records ≡ length core.state.nodes
  pub certified : AreCertified core.problem.weights core.book core.state.nodes
  pub fit : All (FitsCut core.problem.weights.size) core.book.cuts
  pub terms : core.book.used ≤ MAX_TERMS * room_count core.journal
  pub cuts : length core.book.cuts ≤ MAX_TERMS * room_count core.journal
  pub kept : length core.book.kept ≤ core.state.evaluated + 1

-- the core after an event is noted
abbrev pub with_entry : CoreFields → Entry → List ℕ → CoreFields
with_entry core entry order = record core { state = after core.state entry; journal = core.journal ++ entry ∷ []; order = order }

-- the records at the start: that of the root, without terms, which has number 0
abbrev pub root_book : RecordBook
root_book = record { cuts = []; used = 0; records = empty_record ∷ []; numbers = 0 ∷ []; kept = empty_record ∷ [] }

-- a core at its start: the root alone, and no entry
abbrev pub prepared : Problem → List ℕ → CoreFields
prepared problem order = record { problem = problem; state = root_state problem; journal = []; order = order; book = root_book }

-- the ticket of a node
abbrev pub ticket_of : CoreFields → ℕ → TicketFields
ticket_of core node = record {
  size = core.problem.weights.size;
  node = node;
  bound = (node_at core.state.nodes node).bound;
  best = core.state.best;
  path = path_of core.state.nodes node;
  inherited = scaled_of core.book.cuts (record_at core.book.records node);
}

-- nothing was handed out
abbrev pub NothingTaken : CoreFields → TicketFields → CoreFields → TicketFields → Type 0
NothingTaken old blank new ticket = (new ≡ old) × (ticket ≡ blank)

-- one take of the machine, whichever live idle node it hands out
abbrev pub IsTake : CoreFields → TicketFields → ℕ → TakeReply → CoreFields → TicketFields → Type 0
-- a live idle node is handed out, with its ticket, while the budget isn't met
IsTake old blank worker Node new ticket =
    MayTake old.problem old.state ticket.node
    × (new ≡ with_entry old (Take worker ticket.node) old.order)
    × (ticket ≡ ticket_of old ticket.node)
-- no node is live
IsTake old blank worker Done new ticket = ((node : ℕ) → ¬ (IsLive old.state.nodes old.state.best node)) × NothingTaken old blank new ticket
-- a live idle node is there, and the budget is met
IsTake old blank worker Spent new ticket =
    ((node : ℕ) × IsReady old.state.nodes old.state.best node)
    × (old.problem.budget ≤ old.state.evaluated + out_count old.state.nodes)
    × NothingTaken old blank new ticket
-- a node is live, and no live node is idle
IsTake old blank worker AllOut new ticket =
    ((node : ℕ) × IsLive old.state.nodes old.state.best node)
    × ((node : ℕ) → ¬ (IsReady old.state.nodes old.state.best node))
    × NothingTaken old blank new ticket

-- the ticket has the node's bound and path
pub record IsTicketOf (core : CoreFields) (node : ℕ) (ticket : TicketFields) : Type 0 where
  pub bound : ticket.bound ≡ (node_at core.state.nodes node).bound
  pub path : ticket.path ≡ path_of core.state.nodes node

-- the node of the ticket was handed out to the worker: the ticket is sound, it is still that of the node, and no live idle node had a greater bound, nor an equal one and a lower number
pub record IsHandedOut (old : CoreFields) (worker : ℕ) (new : CoreFields) (ticket : TicketFields) : Type 0 where
  pub sound : IsSoundTicket old.problem.weights ticket
  pub is_of : IsTicketOf new ticket.node ticket
  pub is_out : IsOutTo new.state worker ticket.node
  pub first : IsFirstReady old.state.nodes old.state.best ticket.node

-- what a take that replies `Node` promises of the node
abbrev pub OnNode : CoreFields → ℕ → TakeReply → CoreFields → TicketFields → Type 0
OnNode old worker Node new ticket = IsHandedOut old worker new ticket
OnNode old worker Done new ticket = Unit {0}
OnNode old worker AllOut new ticket = Unit {0}
OnNode old worker Spent new ticket = Unit {0}

-- the result is sound for a ticket with the node's number, bound and path
pub record IsSoundReport (core : CoreFields) (found : EvaluatedFields) : Type 0 where
  pub ticket : TicketFields
  pub is_of : IsTicketOf core found.node ticket
  pub sound : IsSoundResult core.problem.weights ticket found

-- whether the result's record finds room: the node has it already, or its terms and cuts fit
abbrev pub has_room_for : CoreFields → EvaluatedFields → Bool
has_room_for core found = is_own core.book found.node found.shown || finds_room (term_room core.problem.budget) core.book found.shown.terms

-- the entry of a report
abbrev pub entry_of : CoreFields → ℕ → EvaluatedFields → Entry
entry_of core worker found = Report worker found.node found.bound found.pair found.value (has_room_for core found)

-- the order that is kept after a result: the result's where it weighs more, and else the one before
pub record KeepsOrder (old : CoreFields) (found : EvaluatedFields) (order : List ℕ) : Type 0 where
  pub better : old.state.best <ℤ found.value → order ≡ found.order
  pub other : found.value ≤ℤ old.state.best → order ≡ old.order

-- a report was taken in: the node was out to the worker, the event is noted, and the record was taken in where it found room
pub record IsReported (old : CoreFields) (worker : ℕ) (found : EvaluatedFields) (new : CoreFields) : Type 0 where
  pub was_out : IsOutTo old.state worker found.node
  pub noted : new ≡ record (with_entry old (entry_of old worker found) new.order) { book = new.book }
  pub keeps : KeepsOrder old found new.order
  pub book : RecordBook
  pub taken : IsTakenOrKept (has_room_for old found) old.book found.node found.shown book

-- one report of the machine
abbrev pub IsReport : CoreFields → ℕ → EvaluatedFields → ReportReply → CoreFields → Type 0
-- the node isn't out to the worker
IsReport old worker found NotYours new = (¬ (IsOutTo old.state worker found.node)) × (new ≡ old)
-- the node is closed
IsReport old worker found Closed new =
    (step : IsReported old worker found new)
    × (length new.state.nodes ≡ length old.state.nodes)
    × (new.book ≡ step.book)
-- the node is split, these are the numbers of its children, and they have its record
IsReport old worker found (Split first) new =
    (step : IsReported old worker found new)
    × (first ≡ length old.state.nodes)
    × (length new.state.nodes ≡ length old.state.nodes + 2)
    × (new.book ≡ with_children step.book found.node)

-- what is known of a node
abbrev pub view_of : SearchNode → NodeRecord → NodeView
view_of node r = record { parent = node.parent; pair = node.pair; bound = node.bound; standing = node.standing; scale = r.scale; terms = length r.terms }

-- the rooms hold all nodes, the numbers of their records, the records and the entries that a budget allows
pub record HasRoom (budget node_room journal_room number_room record_room : ℕ) : Type 0 where
  pub positive : 1 ≤ budget
  pub within_limit : budget ≤ MAX_BUDGET
  pub for_nodes : 2 * budget + 1 ≤ node_room
  pub for_entries : 2 * budget ≤ journal_room
  pub for_numbers : 2 * budget + 1 ≤ number_room
  pub for_records : budget + 1 ≤ record_room
