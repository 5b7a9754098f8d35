-- A journal as the turn sees it: each entry with those before it.
use Rattle.std.specs.Prelude.{◌≡◌, ℕ, List, [], ◌∷◌, ◌++◌, All}
use Rattle.lop_core.specs.declared.journal.Entry.{Entry}
use Rattle.lop_core.specs.Journal.{worker_of}
use Rattle.lop_turn.specs.Lists.{entries_by}
use Rattle.lop_pool.specs.declared.event.Event.{Event}

-- the entries as events, where the first list stands before them
abbrev pub events_after : List Entry → List Entry → List Event
events_after before [] = []
events_after before (e ∷ es) = record { before = before; entry = e } ∷ events_after (before ++ e ∷ []) es

-- the entries of a journal, each with those before it
abbrev pub events_of : List Entry → List Event
events_of journal = events_after [] journal

-- the worker whose event it is
abbrev pub event_worker : Event → ℕ
event_worker v = worker_of v.entry

-- the events of a worker
abbrev pub events_by : ℕ → List Entry → List Event
events_by worker journal = entries_by event_worker worker (events_of journal)

-- one journal is the other with entries of this worker appended
abbrev pub IsGrown : ℕ → List Entry → List Entry → Type 0
IsGrown worker old new = (more : List Event) × (events_of new ≡ events_of old ++ more) × All (λ v. event_worker v ≡ worker) more
