-- What a worker holds: no node, nodes to judge, or results to report.
use Rattle.std.specs.Prelude.{◌≡◌, ◌≢◌, ℕ, ◌<◌, ◌≤◌, List, slice_index_or}
use Rattle.lop_model.specs.Matrix.{Matrix}
use Rattle.lop_leaf.specs.Ticket.{TicketFields}
use Rattle.lop_leaf.specs.Sound.{IsSoundTicket, IsSoundResult}
use Rattle.lop_core.specs.declared.journal.Entry.{Entry}
use Rattle.lop_core.specs.Tree.{node_at, path_of}
use Rattle.lop_core.specs.Machine.{Problem, SearchState, IsOutTo}
use Rattle.lop_core.specs.Journal.{replay, IsLawfulJournal}
use Rattle.lop_core.specs.Workers.{StandsStill}
use Rattle.lop_pool.specs.declared.event.Event.{Event}
use Rattle.lop_pool.specs.declared.parcel.Parcel.{Parcel}
use Rattle.lop_pool.specs.Events.{events_by}
use Rattle.lop_pool.specs.Judged.{Relation}

-- no node is out to the worker
abbrev pub HasNone : ℕ → SearchState → Type 0
HasNone worker s = (node : ℕ) → ¬ (IsOutTo s worker node)

-- the ticket's node is out to the worker, and the ticket has its bound and path
pub record HasTicket (worker : ℕ) (ticket : TicketFields) (s : SearchState) : Type 0 where
  pub is_out : IsOutTo s worker ticket.node
  pub bound : ticket.bound ≡ (node_at s.nodes ticket.node).bound
  pub path : ticket.path ≡ path_of s.nodes ticket.node

-- the worker has the tickets of the parcels from one place up to another, each of another node, and no other node is out to it
pub record HasTickets (worker : ℕ) (parcels : List Parcel) (from to : ℕ) (s : SearchState) : Type 0 where
  pub each : (k : ℕ) (d : Parcel) → from ≤ k → k < to → HasTicket worker (slice_index_or parcels k d).ticket s
  pub apart : (j k : ℕ) (d : Parcel) → from ≤ j → j < k → k < to → (slice_index_or parcels j d).ticket.node ≢ (slice_index_or parcels k d).ticket.node
  pub only : (node : ℕ) → IsOutTo s worker node → (k : ℕ) × (from ≤ k) × (k < to) × ((d : Parcel) → (slice_index_or parcels k d).ticket.node ≡ node)

-- beside this node the worker has what it had, and that stands still
pub record HasBeside (worker node : ℕ) (old new : SearchState) : Type 0 where
  pub stays : (other : ℕ) → other ≢ node → IsOutTo old worker other → IsOutTo new worker other
  pub stands : (other : ℕ) → other ≢ node → IsOutTo old worker other → StandsStill old new other
  pub had : (other : ℕ) → other ≢ node → IsOutTo new worker other → IsOutTo old worker other

-- the worker was handed the ticket's node, which it hadn't before
pub record IsHanded (worker : ℕ) (ticket : TicketFields) (old new : SearchState) : Type 0 where
  pub has : HasTicket worker ticket new
  pub fresh : ¬ (IsOutTo old worker ticket.node)
  pub beside : HasBeside worker ticket.node old new

-- the tickets of the parcels before the place are sound
abbrev pub AreSoundTickets : Matrix → List Parcel → ℕ → Type 0
AreSoundTickets C parcels to = (k : ℕ) (d : Parcel) → k < to → IsSoundTicket C (slice_index_or parcels k d).ticket

-- a judge found what the parcel has, for its ticket
pub record IsJudgedParcel (judged : Relation) (C : Matrix) (p : Parcel) : Type 0 where
  pub sound : IsSoundResult C p.ticket p.found
  pub shown : judged C p.ticket.path p.found.bound p.found.pair p.found.value

-- judges found what the parcels before the place have
abbrev pub AreJudgedParcels : Relation → Matrix → List Parcel → ℕ → Type 0
AreJudgedParcels judged C parcels to = (k : ℕ) (d : Parcel) → k < to → IsJudgedParcel judged C (slice_index_or parcels k d)

-- the worker has the results of the parcels before the place to report, and no other node is out to it
pub record Holds (judged : Relation) (C : Matrix) (worker : ℕ) (parcels : List Parcel) (held : ℕ) (s : SearchState) : Type 0 where
  pub tickets : HasTickets worker parcels 0 held s
  pub results : AreJudgedParcels judged C parcels held

-- two tickets of one node, with the same bound and path
pub record IsLike (t u : TicketFields) : Type 0 where
  pub node : u.node ≡ t.node
  pub bound : u.bound ≡ t.bound
  pub path : u.path ≡ t.path

-- it is so in each lawful journal in which the worker's events are these, whatever the others did
abbrev pub WhateverElse : Problem → ℕ → List Event → (SearchState → Type 0) → Type 0
WhateverElse problem worker mine P = (journal : List Entry) → IsLawfulJournal problem journal → events_by worker journal ≡ mine → P (replay problem journal)
