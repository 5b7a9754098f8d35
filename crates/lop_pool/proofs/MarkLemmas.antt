-- Reports of bounds of at most a mark.
use Rattle.std.proofs.Common.{◌≡◌, ℕ, ◌<◌, List, [], ◌∷◌, ◌++◌, length, get_or, arith, refl, sym, ◌∙◌, ap, subst, Bool, true, false, cond, Option, Some, None, append-nil, append_assoc}
use Rattle.std.specs.Prelude.{ℤ, ◌≤ℤ◌, int_lt}
use Rattle.std.specs.Int.{int_max}
use Rattle.std.proofs.lemmas.Int.{ints, clamps}
use Rattle.std.proofs.lemmas.List.{get_or-set_same}
use Rattle.std.proofs.lemmas.Option.{slice_get_within}
use Rattle.lop_model.specs.declared.pair.Pair.{Pair}
use Rattle.lop_leaf.specs.Evaluated.{EvaluatedFields}
use Rattle.lop_core.specs.declared.node.SearchNode.{SearchNode}
use Rattle.lop_core.specs.declared.node.Standing.TheVariants.{Idle}
use Rattle.lop_core.specs.declared.journal.Entry.{Entry}
use Rattle.lop_core.specs.declared.journal.Entry.TheVariants.{Take, Report}
use Rattle.lop_core.specs.Tree.{node_at, is_split}
use Rattle.lop_core.specs.Machine.{Problem, SearchState, closed, divided, settled, after}
use Rattle.lop_core.specs.Core.{CoreFields, HasHistory, IsReported, entry_of, has_room_for}
use Rattle.lop_turn.specs.Lists.{entries_by}
use Rattle.lop_turn.proofs.Beginnings.{entries_by-append, entries_by-all}
use Rattle.lop_pool.specs.declared.event.Event.{Event}
use Rattle.lop_pool.specs.Events.{events_of, event_worker, events_by}
use Rattle.lop_pool.specs.Marks.{LeavesWhole, LeaveWhole, GrowsWhole}
use Rattle.lop_pool.proofs.EventLemmas.{events_of-push, all_one, all_append}

less : (a b c : ℤ) → a ≤ℤ b → b ≤ℤ c → a ≤ℤ c
less a b c h k = omega (arith, ints)

-- ---- one report

closed_whole : (s : SearchState) (node : ℕ) (bound best : ℤ) → node < length s.nodes → is_split (node_at (closed s node bound best).nodes node).standing ≡ false
closed_whole s node bound best lt = ap (λ (x : SearchNode). is_split x.standing) (get_or-set_same s.nodes node (record (node_at s.nodes node) { bound = bound; standing = Idle }) _ lt)

settled_whole : (s : SearchState) (node : ℕ) (bound best : ℤ) (pair : Option Pair) → node < length s.nodes → bound ≤ℤ best → is_split (node_at (settled s node bound best pair).nodes node).standing ≡ false
settled_whole s node bound best None lt le = closed_whole s node bound best lt
settled_whole s node bound best (Some p) lt le =
    let test : int_lt best bound ≡ false = grind (arith, ints) in
    subst (λ (b : Bool). is_split (node_at (cond b (divided s node bound best p) (closed s node bound best)).nodes node).standing ≡ false) (sym test) (closed_whole s node bound best lt)

after_whole : (s : SearchState) (worker node : ℕ) (bound : ℤ) (pair : Option Pair) (value : ℤ) (room : Bool) → node < length s.nodes → bound ≤ℤ s.best → room ≡ true → is_split (node_at (after s (Report worker node bound pair value room)).nodes node).standing ≡ false
unfolding after
after_whole s worker node bound pair value room lt le e =
    subst (λ (b : Bool). is_split (node_at (settled s node (cond b bound (node_at s.nodes node).bound) (int_max s.best value) pair).nodes node).standing ≡ false) (sym e)
    (settled_whole s node bound (int_max s.best value) pair lt (omega (arith, ints, clamps, le)))

-- ---- a journal that grows

pub whole_same : (problem : Problem) (mark : ℤ) (worker : ℕ) (journal : List Entry) → GrowsWhole problem mark worker journal journal
whole_same problem mark worker journal = ([], sym (append-nil (events_of journal)), λ k d lt. absurd (omega arith), λ k d lt. absurd (omega arith))

pub whole_trans : (problem : Problem) (mark : ℤ) (worker : ℕ) (a b c : List Entry) → GrowsWhole problem mark worker a b → GrowsWhole problem mark worker b c → GrowsWhole problem mark worker a c
whole_trans problem mark worker a b c p q = (
  p.0 ++ q.0,
  q.1 ∙ (ap (λ (vs : List Event). vs ++ q.0) p.1 ∙ append_assoc (events_of a) p.0 q.0),
  all_append (λ (v : Event). event_worker v ≡ worker) p.0 q.0 p.2 q.2,
  all_append (λ (v : Event). LeavesWhole problem mark v.before v.entry) p.0 q.0 p.3 q.3,
)

lower : (problem : Problem) (mark mark' : ℤ) (before : List Entry) (e : Entry) → mark ≤ℤ mark' → LeavesWhole problem mark' before e → LeavesWhole problem mark before e
lower problem mark mark' before (Take worker node) le h = tt
lower problem mark mark' before (Report worker node bound pair value room) le h = λ lb r. h (less bound mark mark' lb le) r

-- a lesser mark says less
pub whole_lower : (problem : Problem) (mark mark' : ℤ) (worker : ℕ) (a b : List Entry) → mark ≤ℤ mark' → GrowsWhole problem mark' worker a b → GrowsWhole problem mark worker a b
whole_lower problem mark mark' worker a b le p = (p.0, p.1, p.2, λ k d lt. lower problem mark mark' (get_or p.0 k d).before (get_or p.0 k d).entry le (p.3 k d lt))

pub whole_take : (problem : Problem) (mark : ℤ) (worker node : ℕ) (old new : List Entry) → new ≡ old ++ Take worker node ∷ [] → GrowsWhole problem mark worker old new
whole_take problem mark worker node old new is = (
  record { before = old; entry = Take worker node } ∷ [],
  ap events_of is ∙ events_of-push old (Take worker node),
  all_one (λ (v : Event). event_worker v ≡ worker) (record { before = old; entry = Take worker node }) refl,
  all_one (λ (v : Event). LeavesWhole problem mark v.before v.entry) (record { before = old; entry = Take worker node }) tt,
)

pub whole_report : (old new : CoreFields) (worker : ℕ) (found : EvaluatedFields) (mark : ℤ) → HasHistory old → IsReported old worker found new → mark ≤ℤ old.state.best → GrowsWhole old.problem mark worker old.journal new.journal
whole_report old new worker found mark h told le =
    let e : Entry = entry_of old worker found in
    let lt : found.node < length old.state.nodes = slice_get_within old.state.nodes found.node told.was_out.0 told.was_out.1 in
    let here : LeavesWhole old.problem mark old.journal (entry_of old worker found) = λ lb room.
    subst (λ (s : SearchState). is_split (node_at (after s (entry_of old worker found)).nodes found.node).standing ≡ false) h.replayed
    (after_whole old.state worker found.node found.bound found.pair found.value (has_room_for old found) lt (less found.bound mark old.state.best lb le) room) in (
      record { before = old.journal; entry = entry_of old worker found } ∷ [],
      ap (λ (x : CoreFields). events_of x.journal) told.noted ∙ events_of-push old.journal (entry_of old worker found),
      all_one (λ (v : Event). event_worker v ≡ worker) (record { before = old.journal; entry = entry_of old worker found }) refl,
      all_one (λ (v : Event). LeavesWhole old.problem mark v.before v.entry) (record { before = old.journal; entry = entry_of old worker found }) here,
    )

-- the worker's own events, after what it appended
pub own_whole : (problem : Problem) (mark : ℤ) (worker : ℕ) (old new : List Entry) → GrowsWhole problem mark worker old new → (more : List Event) × (events_by worker new ≡ events_by worker old ++ more) × LeaveWhole problem mark more
own_whole problem mark worker old new p = (
  p.0,
  ap (entries_by event_worker worker) p.1 ∙ (entries_by-append event_worker worker (events_of old) p.0 ∙ ap (λ (es : List Event). events_by worker old ++ es) (entries_by-all event_worker worker p.0 p.2)),
  p.3,
)
