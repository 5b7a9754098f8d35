-- A core keeps its history over a take and a report, and it has room for the entry and the nodes.
use Rattle.std.proofs.Common.{◌≡◌, ℕ, ◌+◌, ◌*◌, ◌<◌, ◌≤◌, List, [], ◌∷◌, ◌++◌, length, get_or, set, arith, sym, ◌∙◌, Some, None, Option, refl, ap, subst, Bool, true, false, ◌||◌, IsPermutation}
use Rattle.std.proofs.lemmas.List.{get_or_read, get_or_default, length_push}
use Rattle.std.proofs.lemmas.Option.{slice_get_read, get_or_from_slice_get, slice_get_within}
use Rattle.std.specs.Prelude.{slice_get, ℤ, pos, ◌≤ℤ◌, fold, int_lt, IfSome, IfNone, if◌then◌else◌, ◌↔◌}
use Rattle.std.specs.Int.{int_max}
use Rattle.std.proofs.lemmas.Int.{ints, clamps}
use Rattle.lop_model.specs.declared.pair.Pair.{Pair}
use Rattle.lop_model.specs.Order.{IsOrder}
use Rattle.lop_model.specs.Matrix.{Matrix, weight}
use Rattle.lop_model.specs.Fixings.{IsClosure, IsUndecided, IsBranchingPath, AreAllDecided}
use Rattle.lop_model.specs.Bound.{pair_bound}
use Rattle.lop_core.specs.Records.{RecordBook, IsRecordBook, record_at, scaled_of, finds_room, is_own, term_room, IsTakenOrKept}
use Rattle.lop_leaf.specs.Record.{ScaledTerms, IsScaledTerms}
use Rattle.lop_leaf.specs.Ticket.{TicketFields, pair_count}
use Rattle.lop_leaf.specs.Bound.{CertifiesUnder}
use Rattle.lop_leaf.specs.Sound.{IsDecidedResult}
use Rattle.lop_leaf.proofs.PathLemmas.{weight-le-certified_under, CertifiesUnder-result}
use Rattle.lop_core.proofs.Lists.{EachFollows-nil, slice_get-set_same}
use Rattle.lop_core.proofs.TreeLemmas.{paths-changed}
use Rattle.lop_core.specs.declared.node.SearchNode.{SearchNode}
use Rattle.lop_core.specs.declared.journal.Entry.{Entry}
use Rattle.lop_core.specs.declared.journal.Entry.TheVariants.{Take, Report}
use Rattle.lop_core.specs.declared.node.Standing.{Standing}
use Rattle.lop_core.specs.declared.node.Standing.TheVariants.{Idle, Out}
use Rattle.lop_leaf.specs.Evaluated.{EvaluatedFields}
use Rattle.lop_core.specs.Tree.{no_pair, child, node_at, path_of, is_out, out_count, IsCoveredOnce}
use Rattle.lop_core.specs.Machine.{Problem, SearchState, changed, after, settled, divided, closed, settled_nodes, IsOutTo, IsReady, IsLive, IsFirstReady, raised_by, state_bound}
use Rattle.lop_core.specs.Journal.{AreCounted, room_count, IsWithinPackingBound, MayTake, MayReport, MayFollow, HasTake, HasReport, entries_of}
use Rattle.lop_core.specs.Core.{CoreFields, prepared, root_book, HasHistory, AreRecorded, with_entry, IsTicketOf, IsHandedOut, IsSoundReport, ticket_of, has_room_for, entry_of, KeepsOrder}
use Rattle.std.specs.BinaryHeap.{IsHeap}
use Rattle.lop_core.specs.declared.candidates.Candidate.{Candidate}
use Rattle.lop_core.specs.Candidates.{AreCandidates, candidate, candidate_order}
use Rattle.lop_core.proofs.CandidateSteps.{reported_candidates}
use Rattle.lop_core.proofs.Replay.{replay_push, IsLawful_push, sound_replay, covered_once, weight-le-state_bound}
use Rattle.lop_core.proofs.Fates.{out_exactly}
use Rattle.lop_core.proofs.Sound.{count_changed, one_if}
use Rattle.lop_model.proofs.BranchingLength.{length-branching}
use Rattle.lop_core.proofs.Certified.{certified_root}
use Rattle.lop_core.proofs.BookLemmas.{refused_late, without_terms_found, cuts_below, TakenFacts, facts_of, GrownBook, report_recorded, rooms_after}
use Rattle.lop_core.proofs.Counts.{counted}

-- what holds of the counts of a core
pub core_counted : (view : CoreFields) → HasHistory view → AreCounted view.problem view.state view.journal
core_counted view h = subst (λ (s : SearchState). AreCounted view.problem s view.journal) (sym h.replayed) (counted view.problem view.journal h.lawful)

with_entry_true : (view : CoreFields) (e : Entry) (order : List ℕ) → HasHistory view → MayFollow view.problem view.journal e → IsOrder view.problem.weights.size order
    → weight view.problem.weights order ≡ (after view.state e).best → HasHistory (with_entry view e order)
with_entry_true view e order h may is weighs = record {
  lawful = IsLawful_push view.problem view.journal e h.lawful may;
  replayed = ap (λ (s : SearchState). after s e) h.replayed ∙ sym (replay_push view.problem view.journal e);
  is_order = is;
  weighs = weighs;
}

same_best : (s : SearchState) (w i : ℕ) → (after s (Take w i)).best ≡ s.best
unfolding after
same_best s w i = refl

pub core_take : (view : CoreFields) (w i : ℕ) → HasHistory view → MayTake view.problem view.state i → HasHistory (with_entry view (Take w i) view.order)
core_take view w i h may =
    with_entry_true view (Take w i) view.order h (subst (λ (s : SearchState). MayTake view.problem s i) h.replayed may) h.is_order (h.weighs ∙ sym (same_best view.state w i))

-- the nodes that a take leaves, and how many are out
pub take_nodes : (s : SearchState) (w i : ℕ) → after s (Take w i) ≡ record s { nodes = changed s.nodes i (node_at s.nodes i).bound (Out w) }
unfolding after
take_nodes s w i = refl

pub take_outs : (problem : Problem) (s : SearchState) (w i : ℕ) → MayTake problem s i → out_count (changed s.nodes i (node_at s.nodes i).bound (Out w)) ≡ out_count s.nodes + 1
take_outs problem s w i may =
    let idle : one_if (is_out may.ready.it.standing) ≡ 0 = ap (λ x. one_if (is_out x)) may.ready.idle in
    omega (arith, count_changed is_out s.nodes i may.ready.it (node_at s.nodes i).bound (Out w) may.ready.is_there)

pub may_take : (problem : Problem) (s : SearchState) (i out : ℕ) (seen : List SearchNode) (best : ℤ) → seen ≡ s.nodes → best ≡ s.best → out ≡ out_count s.nodes
    → IsReady seen best i → s.evaluated + out < problem.budget → MayTake problem s i
may_take problem s i out seen best e b o ready lt = record {
  ready = subst (λ (ns : List SearchNode). IsReady ns s.best i) e (subst (λ (z : ℤ). IsReady seen z i) b ready);
  within = omega arith;
}

-- a write of a standing where the node was read
pub written : (nodes : List SearchNode) (i : ℕ) (x : SearchNode) (bound : ℤ) (standing : Standing) → i < length nodes → x ≡ get_or nodes i x
    → set nodes i (record x { bound = bound; standing = standing }) ≡ changed nodes i bound standing
written nodes i x bound standing lt e =
    ap (λ (y : SearchNode). set nodes i (record y { bound = bound; standing = standing })) (get_or_read nodes i x lt e (child 0 no_pair (pos 0)))

pub written_out : (nodes : List SearchNode) (i w : ℕ) (x : SearchNode) → i < length nodes → x ≡ get_or nodes i x
    → set nodes i (record x { standing = Out w }) ≡ changed nodes i (node_at nodes i).bound (Out w)
written_out nodes i w x lt e =
    ap (λ (y : SearchNode). set nodes i (record y { standing = Out w })) (get_or_read nodes i x lt e (child 0 no_pair (pos 0)))

pub take_view : (view : CoreFields) (w i : ℕ) (nodes : List SearchNode) (journal : List Entry) → nodes ≡ changed view.state.nodes i (node_at view.state.nodes i).bound (Out w)
    → journal ≡ view.journal ++ Take w i ∷ [] → record view { state = record view.state { nodes = nodes }; journal = journal } ≡ with_entry view (Take w i) view.order
take_view view w i nodes journal en ej =
    ap (λ (ns : List SearchNode). record view { state = record view.state { nodes = ns }; journal = journal }) en
    ∙ (ap (λ (j : List Entry). record view { state = record view.state { nodes = changed view.state.nodes i (node_at view.state.nodes i).bound (Out w) }; journal = j }) ej
    ∙ ap (λ (s : SearchState). record view { state = s; journal = view.journal ++ Take w i ∷ [] }) (sym (take_nodes view.state w i)))

pub live_in : (s : SearchState) (k : ℕ) (seen : List SearchNode) (best : ℤ) → seen ≡ s.nodes → best ≡ s.best → IsLive seen best k → IsLive s.nodes s.best k
live_in s k seen best e b live = subst (λ (ns : List SearchNode). IsLive ns s.best k) e (subst (λ (z : ℤ). IsLive seen z k) b live)

pub never_live : (s : SearchState) (seen : List SearchNode) (best : ℤ) → seen ≡ s.nodes → best ≡ s.best → ((node : ℕ) → ¬ (IsLive seen best node)) → (node : ℕ) → ¬ (IsLive s.nodes s.best node)
never_live s seen best e b none = subst (λ (ns : List SearchNode). (node : ℕ) → ¬ (IsLive ns s.best node)) e (subst (λ (z : ℤ). (node : ℕ) → ¬ (IsLive seen z node)) b none)

pub never_ready : (s : SearchState) (seen : List SearchNode) (best : ℤ) → seen ≡ s.nodes → best ≡ s.best → ((node : ℕ) → ¬ (IsReady seen best node)) → (node : ℕ) → ¬ (IsReady s.nodes s.best node)
never_ready s seen best e b none = subst (λ (ns : List SearchNode). (node : ℕ) → ¬ (IsReady ns s.best node)) e (subst (λ (z : ℤ). (node : ℕ) → ¬ (IsReady seen z node)) b none)

-- the paths of a core's nodes are branching paths
pub core_branching : (core : CoreFields) → HasHistory core → (i : ℕ) → i < length core.state.nodes → IsBranchingPath core.problem.weights.size (path_of core.state.nodes i)
core_branching core h = subst (λ (s : SearchState). (i : ℕ) → i < length s.nodes → IsBranchingPath core.problem.weights.size (path_of s.nodes i)) (sym h.replayed)
    (sound_replay core.problem core.journal h.lawful).lawful

-- the book plays no part in the history
pub other_book : (core : CoreFields) (book : RecordBook) → HasHistory core → HasHistory (record core { book = book })
other_book core book h = record { lawful = h.lawful; replayed = h.replayed; is_order = h.is_order; weighs = h.weighs }

-- what a sound report shows: its record certifies its bound, which is at most the packing bound under the node's path
pub reported_certified : (core : CoreFields) (found : EvaluatedFields) → IsSoundReport core found → CertifiesUnder core.problem.weights (path_of core.state.nodes found.node) found.shown found.bound
reported_certified core found r = subst (λ (p : List Pair). CertifiesUnder core.problem.weights p found.shown found.bound) r.is_of.path (CertifiesUnder-result core.problem.weights r.ticket found r.sound)

reported_packed : (core : CoreFields) (found : EvaluatedFields) → IsSoundReport core found → IsWithinPackingBound core.problem.weights (path_of core.state.nodes found.node) found.bound
reported_packed core found r G c = r.sound.packed G (subst (λ (p : List Pair). IsClosure p G) (sym r.is_of.path) c)

decided_room : (core : CoreFields) (found : EvaluatedFields) (pair : Option Pair) (t : TicketFields) → IfNone pair (IsDecidedResult core.problem.weights t found) → IfNone pair (has_room_for core found ≡ true)
decided_room core found None t d = without_terms_found (is_own core.book found.node found.shown) (term_room core.problem.budget) core.book found.shown d.shown
decided_room core found (Some p) t d = tt

decided_value : (core : CoreFields) (found : EvaluatedFields) (path : List Pair) (pair : Option Pair) (t : TicketFields) → t.path ≡ path → IfNone pair (IsDecidedResult core.problem.weights t found)
    → IfNone pair (AreAllDecided core.problem.weights.size path × (found.value ≡ found.bound))
decided_value core found path None t e d = (subst (AreAllDecided core.problem.weights.size) e d.decided, d.exact)
decided_value core found path (Some p) t e d = tt

undecided_pair : (n : ℕ) (path path' : List Pair) (pair : Option Pair) → path ≡ path' → IfSome pair (λ p. IsUndecided n path p.before p.after) → IfSome pair (λ p. IsUndecided n path' p.before p.after)
undecided_pair n path path' None e u = tt
undecided_pair n path path' (Some p) e u = subst (λ (q : List Pair). IsUndecided n q p.before p.after) e u

reported_undecided : (core : CoreFields) (found : EvaluatedFields) → IsSoundReport core found → IfSome found.pair (λ p. IsUndecided core.problem.weights.size (path_of core.state.nodes found.node) p.before p.after)
reported_undecided core found r = undecided_pair core.problem.weights.size r.ticket.path (path_of core.state.nodes found.node) found.pair r.is_of.path r.sound.undecided

-- a sound report may come
may_report : (core : CoreFields) (w : ℕ) (found : EvaluatedFields) → HasHistory core → AreRecorded core → IsScaledTerms found.shown → IsOutTo core.state w found.node → IsSoundReport core found
    → MayReport core.problem core.state (room_count core.journal) w found.node found.bound found.pair found.value (has_room_for core found)
may_report core w found h kept few out r =
    let lt : found.node < length core.state.nodes = slice_get_within core.state.nodes found.node out.0 out.1 in
    record {
      is_out = out;
      no_more = subst (λ (b : ℤ). found.bound ≤ℤ b) r.is_of.bound r.sound.no_more;
      packed = reported_packed core found r;
      holds = λ s o x. weight-le-certified_under core.problem.weights (path_of core.state.nodes found.node) found.shown found.bound s (core_branching core h found.node lt) r.sound.cuts (reported_certified core found r) o x;
      attained = record { order = found.order; is_order = r.sound.order; weighs = sym r.sound.value };
      undecided = reported_undecided core found r;
      all_decided = decided_value core found (path_of core.state.nodes found.node) found.pair r.ticket r.is_of.path r.sound.all_decided;
      decided_room = decided_room core found found.pair r.ticket r.sound.all_decided;
      refused = λ e. refused_late (is_own core.book found.node found.shown) core.problem.budget core.book found.shown.terms (room_count core.journal) e kept.terms kept.cuts few.bounded_count;
    }

-- the bound that a node has after a report
abbrev pub kept_bound : CoreFields → EvaluatedFields → ℤ
kept_bound core found = if has_room_for core found then found.bound else (node_at core.state.nodes found.node).bound

-- the state after a report
report_after : (core : CoreFields) (w : ℕ) (found : EvaluatedFields) → after core.state (entry_of core w found) ≡ record {
  nodes = settled_nodes core.state.nodes found.node (kept_bound core found) (int_max core.state.best found.value) found.pair;
  best = int_max core.state.best found.value;
  evaluated = core.state.evaluated + 1;
}
unfolding after
report_after core w found = go core.state found.node (kept_bound core found) (int_max core.state.best found.value) found.pair where
  test : (s : SearchState) (n : ℕ) (bound best : ℤ) (p : Pair) (b : Bool) → (if b then divided s n bound best p else closed s n bound best)
      ≡ record {
        nodes = (if b then divided (record { nodes = s.nodes; best = best; evaluated = 0 }) n bound best p else closed (record { nodes = s.nodes; best = best; evaluated = 0 }) n bound best).nodes;
        best = best;
        evaluated = s.evaluated + 1;
      }
  test s n bound best p true = refl
  test s n bound best p false = refl

  go : (s : SearchState) (n : ℕ) (bound best : ℤ) (p : Option Pair) → settled s n bound best p ≡ record { nodes = settled_nodes s.nodes n bound best p; best = best; evaluated = s.evaluated + 1 }
  go s n bound best None = refl
  go s n bound best (Some p) = test s n bound best p (int_lt best bound)

-- the order that is kept has the greater weight
kept_weighs : (C : Matrix) (best value : ℤ) (old new : List ℕ) → weight C old ≡ best → weight C new ≡ value
    → weight C (if int_lt best value then new else old) ≡ int_max best value
kept_weighs C best value old new ho hn = go (int_lt best value) refl where
  go : (b : Bool) → int_lt best value ≡ b → weight C (if b then new else old) ≡ int_max best value
  go true t = let e : value ≡ int_max best value = grind (arith, ints, clamps) in hn ∙ e
  go false f = let e : best ≡ int_max best value = grind (arith, ints, clamps) in ho ∙ e

kept_is_order : (n : ℕ) (b : Bool) (old new : List ℕ) → IsOrder n old → IsOrder n new → IsOrder n (if b then new else old)
kept_is_order n true old new ho hn = hn
kept_is_order n false old new ho hn = ho

pub kept_order : (old : CoreFields) (found : EvaluatedFields) → KeepsOrder old found (if int_lt old.state.best found.value then found.order else old.order)
kept_order old found = go (int_lt old.state.best found.value) refl where
  go : (b : Bool) → int_lt old.state.best found.value ≡ b → KeepsOrder old found (if b then found.order else old.order)
  go true t = record { better = λ h. refl; other = λ h. absurd (grind (arith, ints)) }
  go false f = record { better = λ h. absurd (grind (arith, ints)); other = λ h. refl }

abbrev pub better_of : CoreFields → EvaluatedFields → List ℕ
better_of view found = if int_lt view.state.best found.value then found.order else view.order

pub core_report : (view : CoreFields) (w : ℕ) (found : EvaluatedFields) → HasHistory view → AreRecorded view → IsScaledTerms found.shown → IsOutTo view.state w found.node → IsSoundReport view found
    → HasHistory (with_entry view (entry_of view w found) (better_of view found))
core_report view w found h kept few out sound =
    let may = subst (λ (s : SearchState). MayReport view.problem s (room_count view.journal) w found.node found.bound found.pair found.value (has_room_for view found)) h.replayed (may_report view w found h kept few out sound) in
    with_entry_true view (entry_of view w found) (better_of view found) h may
    (kept_is_order view.problem.weights.size (int_lt view.state.best found.value) view.order found.order h.is_order sound.sound.order)
    (kept_weighs view.problem.weights view.state.best found.value view.order found.order h.weighs (sym sound.sound.value)
    ∙ sym (ap (λ (s : SearchState). s.best) (report_after view w found)))

pub report_view : (view : CoreFields) (w : ℕ) (found : EvaluatedFields) (nodes : List SearchNode) (best : ℤ) (journal : List Entry) (order : List ℕ)
    → nodes ≡ settled_nodes view.state.nodes found.node (kept_bound view found) best found.pair → best ≡ int_max view.state.best found.value → journal ≡ view.journal ++ entry_of view w found ∷ []
    → order ≡ better_of view found
    → record view { state = record { nodes = nodes; best = best; evaluated = view.state.evaluated + 1 }; journal = journal; order = order } ≡ with_entry view (entry_of view w found) (better_of view found)
report_view view w found nodes best journal order en eb ej eo =
    let bound : ℤ = kept_bound view found in
    let en2 : nodes ≡ settled_nodes view.state.nodes found.node (kept_bound view found) (int_max view.state.best found.value) found.pair =
    en ∙ ap (λ (b : ℤ). settled_nodes view.state.nodes found.node (kept_bound view found) b found.pair) eb in
    ap (λ (x : List SearchNode). record view { state = record { nodes = x; best = best; evaluated = view.state.evaluated + 1 }; journal = journal; order = order }) en2
    ∙ (ap (λ (b : ℤ). record view { state = record { nodes = settled_nodes view.state.nodes found.node bound (int_max view.state.best found.value) found.pair; best = b; evaluated = view.state.evaluated + 1 }; journal = journal; order = order }) eb
    ∙ (ap (λ (j : List Entry). record view { state = record { nodes = settled_nodes view.state.nodes found.node bound (int_max view.state.best found.value) found.pair; best = int_max view.state.best found.value; evaluated = view.state.evaluated + 1 }; journal = j; order = order }) ej
    ∙ (ap (λ (o : List ℕ). record view { state = record { nodes = settled_nodes view.state.nodes found.node bound (int_max view.state.best found.value) found.pair; best = int_max view.state.best found.value; evaluated = view.state.evaluated + 1 }; journal = view.journal ++ entry_of view w found ∷ []; order = o }) eo
    ∙ ap (λ (s : SearchState). record view { state = s; journal = view.journal ++ entry_of view w found ∷ []; order = better_of view found }) (sym (report_after view w found)))))

-- the counts before and after a report
pub report_counts : (view : CoreFields) (w n : ℕ) → HasHistory view → IsOutTo view.state w n → 1 ≤ out_count view.state.nodes
report_counts view w n h out =
    let one : one_if (is_out out.0.standing) ≡ 1 = ap (λ x. one_if (is_out x)) out.2 in
    omega (arith, one, count_changed is_out view.state.nodes n out.0 (pos 0) Idle out.1)

pub out_to : (s : SearchState) (w n : ℕ) (x : SearchNode) → n < length s.nodes → x ≡ get_or s.nodes n x → x.standing ≡ Out w → IsOutTo s w n
out_to s w n x lt e out = (x, slice_get_read s.nodes (length s.nodes) n x refl lt e, out)

pub not_out_to : (s : SearchState) (w n : ℕ) (x : SearchNode) → x ≡ get_or s.nodes n x → ¬ (x.standing ≡ Out w) → ¬ (IsOutTo s w n)
not_out_to s w n x e never out = never (ap (λ (y : SearchNode). y.standing) (e ∙ get_or_from_slice_get s.nodes n out.0 x out.1) ∙ out.2)

pub not_there : (s : SearchState) (w n : ℕ) → length s.nodes ≤ n → ¬ (IsOutTo s w n)
not_there s w n le out = let lt : n < length s.nodes = slice_get_within s.nodes n out.0 out.1 in absurd (omega arith)

-- what the code leaves of a report
pub record Leaves (view : CoreFields) (w : ℕ) (found : EvaluatedFields) (nodes : List SearchNode) (best : ℤ) (journal : List Entry) (order : List ℕ) : Type 0 where
  pub nodes_are : nodes ≡ settled_nodes view.state.nodes found.node (kept_bound view found) best found.pair
  pub best_is : best ≡ int_max view.state.best found.value
  pub journal_is : journal ≡ view.journal ++ entry_of view w found ∷ []
  pub order_is : order ≡ better_of view found

-- the same by the numbers, the pair, the order and the answer on the room as the code passed them on
pub leaves_by : (view : CoreFields) (w : ℕ) (found : EvaluatedFields) (nodes : List SearchNode) (best : ℤ) (journal : List Entry) (order : List ℕ)
    (n : ℕ) (zb zk zv zbest : ℤ) (p : Option Pair) (seen : List ℕ) (room : Bool) → n ≡ found.node → zb ≡ found.bound → zk ≡ kept_bound view found → zv ≡ found.value → zbest ≡ best → p ≡ found.pair → seen ≡ found.order → room ≡ has_room_for view found
    → nodes ≡ settled_nodes view.state.nodes n zk zbest p → best ≡ int_max view.state.best zv → journal ≡ view.journal ++ Report w n zb p zv room ∷ []
    → order ≡ (if int_lt view.state.best zv then seen else view.order) → Leaves view w found nodes best journal order
leaves_by view w found nodes best journal order n zb zk zv zbest p seen room en eb ek ev ebest ep eo er hn hb hj ho = record {
  nodes_are = rw (en, ek, ebest, ep) at hn;
  best_is = rw ev at hb;
  journal_is = rw (en, eb, ep, ev, er) at hj;
  order_is = rw (ev, eo) at ho;
}

-- the bound that the code passes on
pub kept_is : (view : CoreFields) (found : EvaluatedFields) (room : Bool) (b k : ℤ) (n : ℕ) (seen : SearchNode) → room ≡ has_room_for view found → b ≡ found.bound → k ≡ seen.bound → n ≡ found.node → seen ≡ get_or view.state.nodes n seen → n < length view.state.nodes
    → (if room then b else k) ≡ kept_bound view found
kept_is view found room b k n seen er eb ek en is lt =
    let at : seen ≡ node_at view.state.nodes n = is ∙ get_or_default view.state.nodes n seen (child 0 no_pair (pos 0)) lt in
    ap (λ (z : ℤ). if room then b else z) ek
    ∙ ap (λ (r : Bool). if r then b else seen.bound) er
    ∙ ap (λ (z : ℤ). if has_room_for view found then z else seen.bound) eb
    ∙ ap (λ (m : SearchNode). if has_room_for view found then found.bound else m.bound) (at ∙ ap (node_at view.state.nodes) en)

-- the answer on the room that the code passes on
pub room_is : (view : CoreFields) (found : EvaluatedFields) (room : Bool) (places n : ℕ) (shown : ScaledTerms) → room ≡ (is_own view.book n shown || finds_room places view.book shown.terms) → places ≡ term_room view.problem.budget
    → n ≡ found.node → shown ≡ found.shown → room ≡ has_room_for view found
room_is view found room places n shown e ep en es =
    e ∙ ap (λ k. is_own view.book n shown || finds_room k view.book shown.terms) ep
    ∙ ap (λ k. is_own view.book k shown || finds_room (term_room view.problem.budget) view.book shown.terms) en
    ∙ ap (λ (r : ScaledTerms). is_own view.book found.node r || finds_room (term_room view.problem.budget) view.book r.terms) es

-- what was taken in, by the node and the record of the result
pub taken_is : (old mid : RecordBook) (room room' : Bool) (node node' : ℕ) (shown shown' : ScaledTerms) → room ≡ room' → node ≡ node' → shown ≡ shown' → IsTakenOrKept room old node shown mid → IsTakenOrKept room' old node' shown' mid
taken_is old mid room room' node node' shown shown' er en es taken = rw (er, en, es) at taken

-- the facts of the book after the record was taken in or refused
pub report_facts : (view : CoreFields) (found : EvaluatedFields) (mid : RecordBook) → HasHistory view → AreRecorded view → IsRecordBook view.book → found.node < length view.state.nodes → IsSoundReport view found → IsScaledTerms found.shown
    → IsTakenOrKept (has_room_for view found) view.book found.node found.shown mid → TakenFacts view found.node (kept_bound view found) (room_count view.journal + (if has_room_for view found then 1 else 0)) mid
report_facts view found mid h rec book inside sound few taken =
    facts_of view rec book found.node inside found (room_count view.journal + (if has_room_for view found then 1 else 0)) mid (has_room_for view found) refl taken few.bounded_count sound.sound.cuts.fit (reported_certified view found sound)

pub if_some : {X P : Type 0} (o : Option X) → P → IfSome o (λ _. P)
if_some None p = tt
if_some (Some x) p = p

-- the laws of the records after a report
pub report_laws : (view new : CoreFields) (w : ℕ) (found : EvaluatedFields) (best : ℤ) (mid : RecordBook) (split : Option ℕ) (nodes : List SearchNode) → HasHistory view → AreRecorded view → IsRecordBook view.book → IsOutTo view.state w found.node
    → IsSoundReport view found → IsScaledTerms found.shown → IsTakenOrKept (has_room_for view found) view.book found.node found.shown mid → nodes ≡ settled_nodes view.state.nodes found.node (kept_bound view found) best found.pair
    → GrownBook view.state.nodes mid found.node split nodes new.book → new.problem.weights ≡ view.problem.weights → new.state.nodes ≡ nodes → new.journal ≡ view.journal ++ entry_of view w found ∷ []
    → new.state.evaluated ≡ view.state.evaluated + 1 → AreRecorded new
report_laws view new w found best mid split nodes h rec book out sound few taken settled grown ew en ej ee =
    let inside : found.node < length view.state.nodes = slice_get_within view.state.nodes found.node out.0 out.1 in
    report_recorded view found.node (kept_bound view found) best (room_count view.journal + (if has_room_for view found then 1 else 0)) mid new.book split found.pair nodes new rec
    (report_facts view found mid h rec book inside sound few taken) inside (core_branching view h found.node inside) (reported_undecided view found sound) settled grown ew en refl
    (rooms_after view.journal new.journal w found.node found.bound found.pair found.value (has_room_for view found) ej) ee

module _ (view : CoreFields) (w : ℕ) (found : EvaluatedFields) (nodes : List SearchNode) (best : ℤ) (journal : List Entry) (order : List ℕ) (leaves : Leaves view w found nodes best journal order) where
  left_order : order ≡ better_of view found
  left_order = leaves.order_is

  left_view : record view { state = record { nodes = nodes; best = best; evaluated = view.state.evaluated + 1 }; journal = journal; order = order } ≡ with_entry view (entry_of view w found) (better_of view found)
  left_view = report_view view w found nodes best journal order leaves.nodes_are leaves.best_is leaves.journal_is leaves.order_is

  pub left_noted : (book : RecordBook) → record view { state = record { nodes = nodes; best = best; evaluated = view.state.evaluated + 1 }; journal = journal; order = order; book = book } ≡ record (with_entry view (entry_of view w found) order) { book = book }
  left_noted book = ap (λ (v : CoreFields). record v { book = book }) (left_view ∙ ap (with_entry view (entry_of view w found)) (sym left_order))

  pub left_keeps : KeepsOrder view found order
  left_keeps = subst (KeepsOrder view found) (sym left_order) (kept_order view found)

  pub left_true : (book : RecordBook) → HasHistory view → AreRecorded view → IsScaledTerms found.shown → IsOutTo view.state w found.node → IsSoundReport view found
      → HasHistory (record view { state = record { nodes = nodes; best = best; evaluated = view.state.evaluated + 1 }; journal = journal; order = order; book = book })
  left_true book h kept few out sound =
      other_book (record view { state = record { nodes = nodes; best = best; evaluated = view.state.evaluated + 1 }; journal = journal; order = order }) book
      (subst HasHistory (sym left_view) (core_report view w found h kept few out sound))

  -- one node fewer is out
  pub left_outs : HasHistory view → AreRecorded view → IsScaledTerms found.shown → IsOutTo view.state w found.node → IsSoundReport view found → out_count view.state.nodes ≡ out_count nodes + 1
  left_outs h kept few out sound =
      let before = core_counted view h in
      let now = core_counted _ (left_true view.book h kept few out sound) in
      let grown : length journal ≡ length view.journal + 1 = ap length leaves.journal_is ∙ length_push view.journal _ in
      omega (arith, before.entries, now.entries)

-- the laws of a core
pub core_covered : (core : CoreFields) → HasHistory core → (s : List ℕ) → IsOrder core.problem.weights.size s → IsCoveredOnce core.state.nodes s
core_covered core h s o = subst (λ (t : SearchState). IsCoveredOnce t.nodes s) (sym h.replayed) (covered_once core.problem core.journal h.lawful s o)

pub core_bound : (core : CoreFields) → HasHistory core → (s : List ℕ) → IsOrder core.problem.weights.size s → weight core.problem.weights s ≤ℤ state_bound core.state
core_bound core h s o = subst (λ (t : SearchState). weight core.problem.weights s ≤ℤ state_bound t) (sym h.replayed) (weight-le-state_bound core.problem core.journal h.lawful s o)

pub core_out : (core : CoreFields) (w n : ℕ) → HasHistory core → IsOutTo core.state w n ↔ (HasTake n (entries_of w core.journal) × ¬ (HasReport n (entries_of w core.journal)))
core_out core w n h = subst (λ (t : SearchState). IsOutTo t w n ↔ (HasTake n (entries_of w core.journal) × ¬ (HasReport n (entries_of w core.journal)))) (sym h.replayed)
    (out_exactly core.problem core.journal w n h.lawful)

pub prepared_true : (problem : Problem) (order : List ℕ) → IsOrder problem.weights.size order → weight problem.weights order ≡ problem.start → HasHistory (prepared problem order)
prepared_true problem order o w = record {
  lawful = record { start = record { order = order; is_order = o; weighs = w }; each = EachFollows-nil (MayFollow problem) };
  replayed = refl;
  is_order = o;
  weighs = w;
}

-- what a core that was just made keeps
pub made : (C C0 : Matrix) (budget : ℕ) (start : ℤ) (nodes : List SearchNode) (journal : List Entry) (order order0 : List ℕ) (book : RecordBook) → C ≡ C0 → start ≡ weight C0 order0 → IsOrder C0.size order0
    → nodes ≡ child 0 no_pair (pair_bound C0 []) ∷ [] → journal ≡ [] → order ≡ order0 → book ≡ root_book
    → HasHistory (record { problem = record { weights = C; start = start; budget = budget }; state = record { nodes = nodes; best = start; evaluated = 0 }; journal = journal; order = order; book = book })
    × AreRecorded (record { problem = record { weights = C; start = start; budget = budget }; state = record { nodes = nodes; best = start; evaluated = 0 }; journal = journal; order = order; book = book }) × (0 ≡ out_count nodes)
made C C0 budget start nodes journal order order0 book eC es o en ej eo ek =
    rw (en, ej, eo, eC, ek) (
      prepared_true (record { weights = C0; start = start; budget = budget }) order0 o (sym es),
      record { same_length = refl; certified = certified_root C0; fit = λ k d lt. absurd (omega arith); terms = omega arith; cuts = omega arith; kept = omega arith },
      refl,
    )

-- the number of nodes, of which no more than twice the budget came after the root
pub core_nodes : (core : CoreFields) → HasHistory core → length core.state.nodes ≤ 2 * core.problem.budget + 1
core_nodes core h = let k = core_counted core h in omega (arith, k.size, k.splits, k.within)

-- the path of each node fits a path's room
pub core_path_length : (core : CoreFields) → HasHistory core → (i : ℕ) → i < length core.state.nodes → length (path_of core.state.nodes i) ≤ pair_count core.problem.weights.size
core_path_length core h i lt = length-branching core.problem.weights.size (path_of core.state.nodes i) (core_branching core h i lt)

-- the first of the best, as the state sees it
pub first_in : (s : SearchState) (k : ℕ) (seen : List SearchNode) (best : ℤ) → seen ≡ s.nodes → best ≡ s.best → IsFirstReady seen best k → IsFirstReady s.nodes s.best k
first_in s k seen best e b first = subst (λ (ns : List SearchNode). IsFirstReady ns s.best k) e (subst (λ (z : ℤ). IsFirstReady seen z k) b first)

-- what was written into the ticket is the node's ticket
pub ticket_is : (core : CoreFields) (i size : ℕ) (seen : List SearchNode) (best : ℤ) (inherited : ScaledTerms) (ticket : TicketFields)
    → seen ≡ core.state.nodes → size ≡ core.problem.weights.size → best ≡ core.state.best → inherited ≡ scaled_of core.book.cuts (record_at core.book.records i)
    → ticket ≡ record { size = size; node = i; bound = (node_at seen i).bound; best = best; path = path_of seen i; inherited = inherited } → ticket ≡ ticket_of core i
ticket_is core i size seen best inherited ticket en es eb ei e = rw (en, es, eb, ei) at e

-- the step of a take, by the ticket
pub take_step : (core new : CoreFields) (w i : ℕ) (ticket : TicketFields) → MayTake core.problem core.state i → new ≡ with_entry core (Take w i) core.order → ticket ≡ ticket_of core i
    → MayTake core.problem core.state ticket.node × (new ≡ with_entry core (Take w ticket.node) core.order) × (ticket ≡ ticket_of core ticket.node)
take_step core new w i ticket may view e =
    subst (λ (k : ℕ). MayTake core.problem core.state k × (new ≡ with_entry core (Take w k) core.order) × (ticket ≡ ticket_of core k)) (sym (ap (λ (t : TicketFields). t.node) e)) (may, view, e)

module _ (core : CoreFields) (w i : ℕ) (lt : i < length core.state.nodes) where
  -- a take changes the standing of its node alone
  taken_there : slice_get (changed core.state.nodes i (node_at core.state.nodes i).bound (Out w)) i ≡ Some (record (node_at core.state.nodes i) { standing = Out w })
  taken_there = slice_get-set_same core.state.nodes i _ lt

  taken_ticket : IsTicketOf (with_entry core (Take w i) core.order) i (ticket_of core i)
  taken_ticket = rw (take_nodes core.state w i) (record {
    bound = ap (λ (m : SearchNode). m.bound) (sym (get_or_from_slice_get (changed core.state.nodes i (node_at core.state.nodes i).bound (Out w)) i _ _ taken_there));
    path = ap (λ (ps : List (List Pair)). get_or ps i []) (sym (paths-changed core.state.nodes i (node_at core.state.nodes i).bound (Out w) lt));
  })

  taken_out : IsOutTo (with_entry core (Take w i) core.order).state w i
  taken_out = rw (take_nodes core.state w i) (record (node_at core.state.nodes i) { standing = Out w }, taken_there, refl)

-- what a take promises of its ticket
pub take_on_node : (core new : CoreFields) (w i : ℕ) (ticket : TicketFields) → HasHistory core → AreRecorded core → IsRecordBook core.book → i < length core.state.nodes
    → new ≡ with_entry core (Take w i) core.order → ticket ≡ ticket_of core i → IsFirstReady core.state.nodes core.state.best i → IsHandedOut core w new ticket
take_on_node core new w i ticket h kept book lt en e first =
    let own : IsHandedOut core w (with_entry core (Take w i) core.order) (ticket_of core i) = record {
      sound = record { same_size = refl; branching = core_branching core h i lt; cuts = cuts_below core i kept book lt; certified = kept.certified i lt };
      is_of = taken_ticket core w i lt;
      is_out = taken_out core w i lt;
      first = first;
    } in
    subst (λ (v : CoreFields). IsHandedOut core w v ticket) (sym en) (subst (λ (t : TicketFields). IsHandedOut core w (with_entry core (Take w i) core.order) t) (sym e) own)

-- the answer of the scan is the state's bound
pub bound_found : (s : SearchState) (seen : List SearchNode) (best z z' : ℤ) → seen ≡ s.nodes → best ≡ s.best → z' ≡ z → z ≡ fold raised_by best seen → z' ≡ state_bound s
bound_found s seen best z z' en eb ez e = ez ∙ (rw (en, eb) at e)

-- where no pair is left, the bound that is kept is at most the greater weight
pub report_low : (view : CoreFields) (w : ℕ) (found : EvaluatedFields) → HasHistory view → AreRecorded view → IsScaledTerms found.shown → IsOutTo view.state w found.node → IsSoundReport view found
    → IfNone found.pair (kept_bound view found ≤ℤ int_max view.state.best found.value)
report_low view w found h kept few out sound = let may = may_report view w found h kept few out sound in go found.pair may.all_decided may.decided_room where
  go : (p : Option Pair) → IfNone p (AreAllDecided view.problem.weights.size (path_of view.state.nodes found.node) × (found.value ≡ found.bound)) → IfNone p (has_room_for view found ≡ true)
      → IfNone p (kept_bound view found ≤ℤ int_max view.state.best found.value)
  go None d k = rw k (subst (λ (b : ℤ). b ≤ℤ int_max view.state.best found.value) d.1 (omega (arith, ints, clamps)))
  go (Some p) d k = tt

-- the candidates after a report, by the bound as the code passed it on
pub report_candidates : (view : CoreFields) (w : ℕ) (found : EvaluatedFields) (nodes : List SearchNode) (best : ℤ) (journal : List Entry) (order : List ℕ) (split : Option ℕ) (zk : ℤ) (cs more : List Candidate) → Leaves view w found nodes best journal order
    → HasHistory view → AreRecorded view → IsScaledTerms found.shown → IsOutTo view.state w found.node → IsSoundReport view found → AreCandidates view.state.nodes best cs → zk ≡ kept_bound view found
    → IfSome split (λ first. (first ≡ length view.state.nodes) × (length nodes ≡ length view.state.nodes + 2)) → IfNone split (length nodes ≡ length view.state.nodes)
    → IfSome split (λ first. IsPermutation (candidate zk (first + 1) ∷ candidate zk first ∷ cs) more) → IfNone split (more ≡ cs) → IsHeap candidate_order more → AreCandidates nodes best more
report_candidates view w found nodes best journal order split zk cs more leaves h kept few out sound candidates ek grows stays put same heap =
    let low = subst (λ (b : ℤ). IfNone found.pair (kept_bound view found ≤ℤ b)) (sym leaves.best_is) (report_low view w found h kept few out sound) in
    let put' = subst (λ (z : ℤ). IfSome split (λ first. IsPermutation (candidate z (first + 1) ∷ candidate z first ∷ cs) more)) ek put in
    reported_candidates view.state.nodes best (kept_bound view found) found.node w found.pair split nodes cs more candidates out.0 out.1 out.2 low leaves.nodes_are grows stays put' same heap
