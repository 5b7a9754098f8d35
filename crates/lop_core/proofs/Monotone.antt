-- Over a search, best never falls and the bound never rises.
use Rattle.std.proofs.Common.{◌≡◌, ◌≢◌, ◌⊎◌, ℕ, ◌+◌, ◌<◌, ◌≤◌, ◌∙◌, refl, length-set, List, [], ◌∷◌, ◌++◌, length, inl, inr, arith, sym, Some, None, Option, subst, suc, zero, Bool, true, false, cond, ap}
use Rattle.std.specs.Prelude.{slice_get, ℤ, ◌≤ℤ◌, int_lt, fold}
use Rattle.std.specs.Int.{int_max}
use Rattle.std.proofs.lemmas.Int.{ints, clamps}
use Rattle.std.proofs.lemmas.Option.{get_or_from_slice_get, slice_get_within, same_Some, none-some}
use Rattle.lop_model.specs.Matrix.{weight}
use Rattle.lop_model.specs.declared.pair.Pair.{Pair}
use Rattle.lop_model.specs.Bound.{pair_bound}
use Rattle.lop_model.proofs.BoundLemmas.{IsUpperBound-pair_bound, IsLinearExtension-none}
use Rattle.lop_model.proofs.ClosureLemmas.{IsClosure-none}
use Rattle.lop_model.specs.Fixings.{IsClosure, IsLinearExtension}
use Rattle.std.proofs.lemmas.List.Sums.{sum_by_push}
use Rattle.lop_leaf.specs.Packing.{packing_bound}
use Rattle.lop_core.proofs.PackedLemmas.{weight-le-packing_bound}
use Rattle.lop_core.proofs.Linked.{path_of_root}
use Rattle.lop_core.specs.declared.node.SearchNode.{SearchNode}
use Rattle.lop_core.specs.declared.node.Standing.{Standing}
use Rattle.lop_core.specs.declared.node.Standing.TheVariants.{Idle, Out, Split}
use Rattle.lop_core.specs.declared.journal.Entry.{Entry}
use Rattle.lop_core.specs.declared.journal.Entry.TheVariants.{Take, Report}
use Rattle.lop_core.specs.Tree.{no_pair, child, node_at, path_of, is_split}
use Rattle.lop_model.specs.Reversed.{reversed}
use Rattle.lop_core.specs.Machine.{Problem, SearchState, after, changed, settled, closed, divided, raised_by, state_bound}
use Rattle.lop_core.specs.Journal.{replay, room_count, sure_rooms, has_room, MayTake, MayReport, MayFollow, IsLawfulJournal}
use Rattle.lop_model.specs.Attained.{IsAttained}
use Rattle.lop_core.specs.Core.{CoreFields, HasHistory}
use Rattle.lop_core.proofs.Lists.{slice_get-set_cases, slice_get_two_cases, by_following}
use Rattle.lop_core.proofs.Replay.{replay_push, best_attained}

-- each node that isn't split has at most this bound, and best is at most it
pub record AreWithin (top : ℤ) (s : SearchState) : Type 0 where
  pub best : s.best ≤ℤ top
  pub nodes : (node : ℕ) (m : SearchNode) → slice_get s.nodes node ≡ Some m → is_split m.standing ≡ false → m.bound ≤ℤ top

raised_within : (b : Bool) (m : SearchNode) (best top : ℤ) → is_split m.standing ≡ b → best ≤ℤ top → (is_split m.standing ≡ false → m.bound ≤ℤ top) → cond b best (int_max best m.bound) ≤ℤ top
raised_within true m best top e low here = low
raised_within false m best top e low here = let h : m.bound ≤ℤ top = here e in omega (arith, ints, clamps)

fold_within : (nodes : List SearchNode) (best top : ℤ) → best ≤ℤ top → ((node : ℕ) (m : SearchNode) → slice_get nodes node ≡ Some m → is_split m.standing ≡ false → m.bound ≤ℤ top) → fold raised_by best nodes ≤ℤ top
fold_within [] best top low each = low
fold_within (m ∷ nodes) best top low each =
    fold_within nodes (raised_by best m) top (raised_within (is_split m.standing) m best top refl low (each 0 m refl)) (λ node x e. each (suc node) x e)

-- the state's bound is the least such number
pub state_bound_within : (top : ℤ) (s : SearchState) → AreWithin top s → state_bound s ≤ℤ top
state_bound_within top s w = fold_within s.nodes s.best top w.best w.nodes

-- ---- a step keeps it

-- each node but one that isn't split has at most this bound
abbrev OthersWithin : ℤ → List SearchNode → ℕ → Type 0
OthersWithin top nodes node = (i : ℕ) (m : SearchNode) → slice_get nodes i ≡ Some m → i ≢ node → is_split m.standing ≡ false → m.bound ≤ℤ top

changed_within : (top : ℤ) (s : SearchState) (node : ℕ) (bound : ℤ) (standing : Standing) → OthersWithin top s.nodes node → node < length s.nodes → bound ≤ℤ top
    → (i : ℕ) (m : SearchNode) → slice_get (changed s.nodes node bound standing) i ≡ Some m → is_split m.standing ≡ false → m.bound ≤ℤ top
changed_within top s node bound standing w l low i m e was =
    elim (slice_get-set_cases s.nodes node i _ m l e) [
      | inl old ↦ w i m old.1 old.0 was
      | inr new ↦ subst (λ (z : ℤ). z ≤ℤ top) (ap (λ (x : SearchNode). x.bound) new.1) low
    ]

divided_within : (top : ℤ) (s : SearchState) (node : ℕ) (bound best : ℤ) (pair : Pair) → OthersWithin top s.nodes node → node < length s.nodes → bound ≤ℤ top
    → (i : ℕ) (m : SearchNode) → slice_get (divided s node bound best pair).nodes i ≡ Some m → is_split m.standing ≡ false → m.bound ≤ℤ top
divided_within top s node bound best pair w l low i m e was =
    elim (slice_get_two_cases (changed s.nodes node bound (Split (length s.nodes))) (child node pair bound) (child node (reversed pair) bound) m i e) [
      | inl old ↦ changed_within top s node bound (Split (length s.nodes)) w l low i m old was
      | inr (inl first) ↦ subst (λ (z : ℤ). z ≤ℤ top) (ap (λ (x : SearchNode). x.bound) first.1) low
      | inr (inr second) ↦ subst (λ (z : ℤ). z ≤ℤ top) (ap (λ (x : SearchNode). x.bound) second.1) low
    ]

settled_within : (top : ℤ) (s : SearchState) (node : ℕ) (bound best : ℤ) (pair : Option Pair) → OthersWithin top s.nodes node → node < length s.nodes → bound ≤ℤ top → best ≤ℤ top → AreWithin top (settled s node bound best pair)
settled_within top s node bound best pair w l low high = go pair where
  when_closed : AreWithin top (closed s node bound best)
  when_closed = record { best = high; nodes = changed_within top s node bound Idle w l low }

  by_test : (b : Bool) (p : Pair) → AreWithin top (cond b (divided s node bound best p) (closed s node bound best))
  by_test true p = record { best = high; nodes = divided_within top s node bound best p w l low }
  by_test false p = when_closed

  go : (o : Option Pair) → AreWithin top (settled s node bound best o)
  go None = when_closed
  go (Some p) = by_test (int_lt best bound) p

take_within : (top : ℤ) (problem : Problem) (s : SearchState) (worker node : ℕ) → AreWithin top s → MayTake problem s node → AreWithin top (after s (Take worker node))
unfolding after
take_within top problem s worker node w may =
    let at : node_at s.nodes node ≡ may.ready.it = get_or_from_slice_get s.nodes node may.ready.it _ may.ready.is_there in
    let low : may.ready.it.bound ≤ℤ top = w.nodes node may.ready.it may.ready.is_there (ap is_split may.ready.idle) in record {
      best = w.best;
      nodes = changed_within top s node (node_at s.nodes node).bound (Out worker) (λ i m e ne. w.nodes i m e) (slice_get_within s.nodes node may.ready.it may.ready.is_there) (subst (λ (x : SearchNode). x.bound ≤ℤ top) (sym at) low);
    }

either_within : (top : ℤ) (room : Bool) (bound old : ℤ) → bound ≤ℤ top → old ≤ℤ top → cond room bound old ≤ℤ top
either_within top true bound old new was = new
either_within top false bound old new was = was

report_within : (top : ℤ) (problem : Problem) (s : SearchState) (rooms worker node : ℕ) (bound : ℤ) (pair : Option Pair) (value : ℤ) (room : Bool) → AreWithin top s → value ≤ℤ top
    → MayReport problem s rooms worker node bound pair value room → AreWithin top (after s (Report worker node bound pair value room))
unfolding after
report_within top problem s rooms worker node bound pair value room w high may =
    let m : SearchNode = may.is_out.0 in
    let there : slice_get s.nodes node ≡ Some m = may.is_out.1 in
    let at : node_at s.nodes node ≡ m = get_or_from_slice_get s.nodes node m _ there in
    let old : (node_at s.nodes node).bound ≤ℤ top = subst (λ (x : SearchNode). x.bound ≤ℤ top) (sym at) (w.nodes node m there (ap is_split may.is_out.2)) in
    let low : bound ≤ℤ top = let h = may.no_more in omega (arith, ints) in
    let best : s.best ≤ℤ top = w.best in
    settled_within top s node _ (int_max s.best value) pair (λ i m e ne. w.nodes i m e) (slice_get_within s.nodes node m there) (either_within top room bound (node_at s.nodes node).bound low old) (omega (arith, ints, clamps))

entry_within : (top : ℤ) (problem : Problem) (journal : List Entry) (e : Entry) → ((value : ℤ) → IsAttained problem.weights value → value ≤ℤ top) → AreWithin top (replay problem journal) → MayFollow problem journal e
    → AreWithin top (after (replay problem journal) e)
entry_within top problem journal (Take worker node) most w may = take_within top problem (replay problem journal) worker node w may
entry_within top problem journal (Report worker node bound pair value room) most w may = report_within top problem (replay problem journal) (room_count journal) worker node bound pair value room w (most value may.attained) may

-- ---- from the root on

attained_within : (problem : Problem) (value : ℤ) → IsAttained problem.weights value → value ≤ℤ pair_bound problem.weights []
attained_within problem value a = let h : weight problem.weights a.order ≤ℤ pair_bound problem.weights [] = (IsUpperBound-pair_bound problem.weights).each a.order a.is_order in subst (λ (z : ℤ). z ≤ℤ pair_bound problem.weights []) a.weighs h

attained_packed : (problem : Problem) (value : ℤ) → IsAttained problem.weights value → value ≤ℤ packing_bound problem.weights []
attained_packed problem value a = subst (λ (z : ℤ). z ≤ℤ packing_bound problem.weights []) a.weighs (weight-le-packing_bound problem.weights a.order a.is_order)

root_within : (top : ℤ) (i : ℕ) (m : SearchNode) → slice_get (child 0 no_pair top ∷ []) i ≡ Some m → m.bound ≤ℤ top
root_within top zero m e = subst (λ (x : SearchNode). x.bound ≤ℤ top) (same_Some _ m e) (omega (arith, ints))
root_within top (suc i) m e = absurd (none-some m e)

-- the bound of each state is at most the root's
pub bound_from_root : (problem : Problem) (journal : List Entry) → IsLawfulJournal problem journal → state_bound (replay problem journal) ≤ℤ pair_bound problem.weights []
bound_from_root problem journal h =
    let top : ℤ = pair_bound problem.weights [] in
    state_bound_within (pair_bound problem.weights []) (replay problem journal)
    (by_following (MayFollow problem) (λ (j : List Entry). AreWithin (pair_bound problem.weights []) (replay problem j))
    (record { best = attained_within problem problem.start h.start; nodes = λ node m e was. root_within (pair_bound problem.weights []) node m e })
    (λ j e lawful w may. subst (AreWithin (pair_bound problem.weights [])) (sym (replay_push problem j e)) (entry_within (pair_bound problem.weights []) problem j e (attained_within problem) w may))
    journal h.each)

best_settled : (s : SearchState) (node : ℕ) (bound best : ℤ) (pair : Option Pair) → (settled s node bound best pair).best ≡ best
best_settled s node bound best None = refl
best_settled s node bound best (Some p) = go (int_lt best bound) where
  go : (b : Bool) → (cond b (divided s node bound best p) (closed s node bound best)).best ≡ best
  go true = refl
  go false = refl

-- an entry never lowers best
pub best_rises : (s : SearchState) (e : Entry) → s.best ≤ℤ (after s e).best
unfolding after
best_rises s (Take worker node) = omega (arith, ints)
best_rises s (Report worker node bound pair value room) =
    subst (λ (z : ℤ). s.best ≤ℤ z) (sym (best_settled s node (cond room bound (node_at s.nodes node).bound) (int_max s.best value) pair)) (omega (arith, ints, clamps))

-- best is at least the weight with which the search started
pub best_from_start : (problem : Problem) (journal : List Entry) → IsLawfulJournal problem journal → problem.start ≤ℤ (replay problem journal).best
best_from_start problem journal h =
    by_following (MayFollow problem) (λ (j : List Entry). problem.start ≤ℤ (replay problem j).best) (omega (arith, ints))
    (λ j e lawful low may. let more = best_rises (replay problem j) e in subst (λ (s : SearchState). problem.start ≤ℤ s.best) (sym (replay_push problem j e)) (omega (arith, ints)))
    journal h.each

pub core_from_root : (core : CoreFields) → HasHistory core → state_bound core.state ≤ℤ pair_bound core.problem.weights []
core_from_root core h = subst (λ (s : SearchState). state_bound s ≤ℤ pair_bound core.problem.weights []) (sym h.replayed) (bound_from_root core.problem core.journal h.lawful)

pub core_from_start : (core : CoreFields) → HasHistory core → core.problem.start ≤ℤ core.state.best
core_from_start core h = subst (λ (s : SearchState). core.problem.start ≤ℤ s.best) (sym h.replayed) (best_from_start core.problem core.journal h.lawful)

-- ---- from the first report on

-- before the first report the root is alone
pub record IsUnreported (s : SearchState) (rooms : ℕ) : Type 0 where
  pub none_evaluated : s.evaluated ≡ 0
  pub root_alone : length s.nodes ≡ 1
  pub none_with_room : rooms ≡ 0

-- and from the first report on no bound exceeds the packing bound
abbrev IsPackedFrom : Problem → List Entry → Type 0
IsPackedFrom problem journal = IsUnreported (replay problem journal) (room_count journal) ⊎ AreWithin (packing_bound problem.weights []) (replay problem journal)

take_unreported : (s : SearchState) (journal : List Entry) (worker node : ℕ) → IsUnreported s (room_count journal) → IsUnreported (after s (Take worker node)) (room_count (journal ++ Take worker node ∷ []))
unfolding after
take_unreported s journal worker node u = record {
  none_evaluated = u.none_evaluated;
  root_alone = length-set s.nodes node _ ∙ u.root_alone;
  none_with_room = sum_by_push (λ (e : Entry). cond (has_room e) 1 0) journal (Take worker node) ∙ ap (λ k. k + 0) u.none_with_room;
}

-- the first report is of the root, and its record finds room
first_within : (problem : Problem) (s : SearchState) (rooms worker node : ℕ) (bound : ℤ) (pair : Option Pair) (value : ℤ) (room : Bool) → IsUnreported s rooms → IsAttained problem.weights s.best
    → MayReport problem s rooms worker node bound pair value room → AreWithin (packing_bound problem.weights []) (after s (Report worker node bound pair value room))
unfolding after
first_within problem s rooms worker node bound pair value room u best may =
    let m : SearchNode = may.is_out.0 in
    let there : slice_get s.nodes node ≡ Some m = may.is_out.1 in
    let lt : node < length s.nodes = slice_get_within s.nodes node m there in
    let root : node ≡ 0 = omega (arith, u.root_alone) in
    let path : path_of s.nodes node ≡ [] = ap (path_of s.nodes) root ∙ path_of_root s.nodes in
    let low : bound ≤ℤ packing_bound problem.weights [] = may.packed [] (subst (λ (p : List Pair). IsClosure p []) (sym path) IsClosure-none) in
    let each : (value : ℤ) → IsAttained problem.weights value → value ≤ℤ bound = λ v a.
    subst (λ (z : ℤ). z ≤ℤ bound) a.weighs (may.holds a.order a.is_order (subst (λ (p : List Pair). IsLinearExtension a.order p) (sym path) (IsLinearExtension-none a.order))) in
    let first : s.best ≤ℤ bound = each s.best best in
    let second : value ≤ℤ bound = each value may.attained in
    with_room (packing_bound problem.weights []) s node bound (int_max s.best value) pair room (never room (λ e. let h : sure_rooms problem.budget ≤ rooms = may.refused e in omega (arith, u.none_with_room)))
    (λ i m e ne was. absurd (let l : i < length s.nodes = slice_get_within s.nodes i m e in omega (arith, u.root_alone))) lt low (omega (arith, ints, clamps))
  where
    never : (room : Bool) → (room ≡ false → ⊥) → room ≡ true
    never true h = refl
    never false h = absurd (h refl)

    with_room : (top : ℤ) (s : SearchState) (node : ℕ) (bound best : ℤ) (pair : Option Pair) (room : Bool) → room ≡ true → OthersWithin top s.nodes node → node < length s.nodes → bound ≤ℤ top → best ≤ℤ top
        → AreWithin top (settled s node (cond room bound (node_at s.nodes node).bound) best pair)
    with_room top s node bound best pair true e others lt low high = settled_within top s node bound best pair others lt low high
    with_room top s node bound best pair false e others lt low high = absurd cc

packed_entry : (problem : Problem) (journal : List Entry) (e : Entry) → IsLawfulJournal problem journal → IsPackedFrom problem journal → MayFollow problem journal e
    → IsUnreported (after (replay problem journal) e) (room_count (journal ++ e ∷ [])) ⊎ AreWithin (packing_bound problem.weights []) (after (replay problem journal) e)
packed_entry problem journal (Take worker node) h (inl u) may = inl (take_unreported (replay problem journal) journal worker node u)
packed_entry problem journal (Take worker node) h (inr w) may = inr (take_within (packing_bound problem.weights []) problem (replay problem journal) worker node w may)
packed_entry problem journal (Report worker node bound pair value room) h (inl u) may = inr (first_within problem (replay problem journal) (room_count journal) worker node bound pair value room u (best_attained problem journal h) may)
packed_entry problem journal (Report worker node bound pair value room) h (inr w) may =
    inr (report_within (packing_bound problem.weights []) problem (replay problem journal) (room_count journal) worker node bound pair value room w (attained_packed problem value may.attained) may)

pub packed_from : (problem : Problem) (journal : List Entry) → IsLawfulJournal problem journal → IsPackedFrom problem journal
packed_from problem journal h =
    by_following (MayFollow problem) (IsPackedFrom problem) (inl (record { none_evaluated = refl; root_alone = refl; none_with_room = refl }))
    (λ j e lawful w may. subst (λ (s : SearchState). IsUnreported s (room_count (j ++ e ∷ [])) ⊎ AreWithin (packing_bound problem.weights []) s) (sym (replay_push problem j e))
    (packed_entry problem j e (record { start = h.start; each = lawful }) w may))
    journal h.each

-- once a node was evaluated, the bound is at most the packing bound
pub core_packed : (core : CoreFields) → HasHistory core → 1 ≤ core.state.evaluated → state_bound core.state ≤ℤ packing_bound core.problem.weights []
core_packed core h some =
    subst (λ (s : SearchState). state_bound s ≤ℤ packing_bound core.problem.weights []) (sym h.replayed)
    (elim (packed_from core.problem core.journal h.lawful) [
      | inl u ↦ absurd (let e : core.state.evaluated ≡ (replay core.problem core.journal).evaluated = ap (λ (s : SearchState). s.evaluated) h.replayed in omega (arith, u.none_evaluated))
      | inr w ↦ state_bound_within (packing_bound core.problem.weights []) (replay core.problem core.journal) w
    ])

-- and it is where no node is live
pub core_packed_closed : (core : CoreFields) → HasHistory core → state_bound core.state ≡ core.state.best → state_bound core.state ≤ℤ packing_bound core.problem.weights []
core_packed_closed core h closed =
    subst (λ (z : ℤ). z ≤ℤ packing_bound core.problem.weights []) (sym closed)
    (subst (λ (z : ℤ). z ≤ℤ packing_bound core.problem.weights []) h.weighs (weight-le-packing_bound core.problem.weights core.order h.is_order))
