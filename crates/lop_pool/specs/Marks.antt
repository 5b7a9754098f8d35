-- What a mark that a worker has read says of its reports.
use Rattle.std.specs.Prelude.{◌≡◌, ℕ, ℤ, ◌≤ℤ◌, List, ◌++◌, All, true, false}
use Rattle.lop_core.specs.declared.journal.Entry.{Entry}
use Rattle.lop_core.specs.declared.journal.Entry.TheVariants.{Take, Report}
use Rattle.lop_core.specs.Tree.{node_at, is_split}
use Rattle.lop_core.specs.Machine.{Problem, after}
use Rattle.lop_core.specs.Journal.{replay}
use Rattle.lop_pool.specs.declared.event.Event.{Event}
use Rattle.lop_pool.specs.Events.{events_of, event_worker}

-- a report of a bound of at most the mark, whose record finds room, doesn't split its node
abbrev pub LeavesWhole : Problem → ℤ → List Entry → Entry → Type 0
LeavesWhole problem mark before (Take worker node) = Unit {0}
LeavesWhole problem mark before (Report worker node bound pair value room) =
    bound ≤ℤ mark → room ≡ true → is_split (node_at (after (replay problem before) (Report worker node bound pair value room)).nodes node).standing ≡ false

-- each event leaves its node so
abbrev pub LeaveWhole : Problem → ℤ → List Event → Type 0
LeaveWhole problem mark events = All (λ v. LeavesWhole problem mark v.before v.entry) events

-- one journal is the other with entries of this worker appended, and these leave their nodes so
abbrev pub GrowsWhole : Problem → ℤ → ℕ → List Entry → List Entry → Type 0
GrowsWhole problem mark worker old new =
    (more : List Event) × (events_of new ≡ events_of old ++ more) × All (λ v. event_worker v ≡ worker) more × LeaveWhole problem mark more
