-- What one worker meets that works alone, and what is known once it ends.
use Rattle.std.proofs.Common.{◌≡◌, ℕ, ◌+◌, List, [], ◌∷◌, ◌++◌, length, inl, inr, arith, sym, ◌∙◌, Some, refl, ap, subst, Bool, true, false}
use Rattle.std.specs.Prelude.{slice_get, ℤ, pos, ◌<ℤ◌, ◌≤ℤ◌, count_by, int_lt}
use Rattle.std.proofs.lemmas.Int.{ints}
use Rattle.std.proofs.lemmas.List.{length_push}
use Rattle.std.proofs.lemmas.List.Sums.{sum_by_push}
use Rattle.lop_core.specs.declared.node.SearchNode.{SearchNode}
use Rattle.lop_core.specs.declared.node.Standing.{Standing}
use Rattle.lop_core.specs.declared.node.Standing.TheVariants.{Idle, Out, Split}
use Rattle.lop_core.specs.declared.journal.Entry.{Entry}
use Rattle.lop_core.specs.Tree.{is_split, is_out, out_count}
use Rattle.lop_core.specs.declared.journal.Entry.TheVariants.{Take}
use Rattle.lop_core.specs.declared.reply.TakeReply.{TakeReply}
use Rattle.lop_core.specs.declared.reply.TakeReply.TheVariants.{Node, Done, AllOut, Spent}
use Rattle.lop_core.specs.declared.reply.ReportReply.{ReportReply}
use Rattle.lop_core.specs.declared.reply.ReportReply.TheVariants.{Closed, NotYours}
use Rattle.lop_core.specs.declared.reply.ReportReply.TheVariants as replies
use Rattle.lop_core.specs.Machine.{Problem, SearchState, IsLive, IsReady, IsOutTo, state_bound}
use Rattle.lop_core.specs.Journal.{is_report}
use Rattle.lop_leaf.specs.Ticket.{TicketFields}
use Rattle.lop_leaf.specs.Evaluated.{EvaluatedFields}
use Rattle.lop_core.specs.Core.{CoreFields, HasHistory, IsTake, IsReport, IsReported, with_entry, entry_of}
use Rattle.lop_core.specs.Outcome.{IsFinished, IsOutcome}
use Rattle.lop_core.proofs.Sound.{one_if, count_changed}
use Rattle.lop_core.proofs.Replay.{raised-le}
use Rattle.lop_core.proofs.CoreLemmas.{core_counted}
use Rattle.lop_core.proofs.Monotone.{state_bound_within}

-- after a take and its report one node more is evaluated, and as many are out as before
pub turn_counts : (old new : CoreFields) (t r : Entry) → HasHistory old → HasHistory new → new.problem ≡ old.problem → new.journal ≡ (old.journal ++ t ∷ []) ++ r ∷ [] → is_report t ≡ false → is_report r ≡ true
    → (new.state.evaluated ≡ old.state.evaluated + 1) × (out_count new.state.nodes ≡ out_count old.state.nodes)
turn_counts old new t r h g same grown takes reports =
    let before = core_counted old h in
    let after = core_counted new g in
    let first : count_by is_report (old.journal ++ t ∷ []) ≡ count_by is_report old.journal + one_if (is_report t) = sum_by_push (λ (e : Entry). one_if (is_report e)) old.journal t in
    let second : count_by is_report ((old.journal ++ t ∷ []) ++ r ∷ []) ≡ count_by is_report (old.journal ++ t ∷ []) + one_if (is_report r) = sum_by_push (λ (e : Entry). one_if (is_report e)) (old.journal ++ t ∷ []) r in
    let none : one_if (is_report t) ≡ 0 = ap one_if takes in
    let one : one_if (is_report r) ≡ 1 = ap one_if reports in
    let reported : count_by is_report new.journal ≡ count_by is_report ((old.journal ++ t ∷ []) ++ r ∷ []) = ap (λ (j : List Entry). count_by is_report j) grown in
    let noted : length new.journal ≡ (length old.journal + 1) + 1 = ap length grown ∙ length_push (old.journal ++ t ∷ []) r ∙ ap (λ (k : ℕ). k + 1) (length_push old.journal t) in
    (omega (arith, before.evaluated, after.evaluated), omega (arith, before.evaluated, after.evaluated, before.entries, after.entries))

-- where no node is out, each live node is idle
ready_by : (nodes : List SearchNode) (best : ℤ) (node : ℕ) (it : SearchNode) (standing : Standing) → it.standing ≡ standing → slice_get nodes node ≡ Some it → is_split it.standing ≡ false → best <ℤ it.bound → out_count nodes ≡ 0 → IsReady nodes best node
ready_by nodes best node it Idle is there unsplit above none = record { it = it; is_there = there; idle = is; above = above }
ready_by nodes best node it (Out w) is there unsplit above none =
    let one : one_if (is_out it.standing) ≡ 1 = ap (λ (x : Standing). one_if (is_out x)) is in
    absurd (omega (arith, count_changed is_out nodes node it (pos 0) Idle there))
ready_by nodes best node it (Split first) is there unsplit above none = let split : is_split it.standing ≡ true = ap is_split is in absurd cc

pub ready_alone : (nodes : List SearchNode) (best : ℤ) (node : ℕ) → out_count nodes ≡ 0 → IsLive nodes best node → IsReady nodes best node
ready_alone nodes best node none live = ready_by nodes best node live.it live.it.standing refl live.is_there live.unsplit live.above none

-- where no node is live, the bound is best
pub bound_closed : (s : SearchState) → ((node : ℕ) → IsLive s.nodes s.best node → ⊥) → state_bound s ≡ s.best
bound_closed s none =
    let high : state_bound s ≤ℤ s.best = state_bound_within s.best s (record {
      best = omega (arith, ints);
      nodes = λ node m there unsplit. below node m there unsplit (int_lt s.best m.bound) refl;
    }) in
    let low : s.best ≤ℤ state_bound s = raised-le s.nodes s.best in
    omega (arith, ints)
  where
    below : (node : ℕ) (m : SearchNode) → slice_get s.nodes node ≡ Some m → is_split m.standing ≡ false → (b : Bool) → b ≡ int_lt s.best m.bound → m.bound ≤ℤ s.best
    below node m there unsplit true is = absurd (none node (record { it = m; is_there = there; unsplit = unsplit; above = omega (arith, ints) }))
    below node m there unsplit false is = omega (arith, ints)

-- a finished run whose bound exceeds best has spent its budget
pub spent_above : (problem : Problem) (s : SearchState) → IsFinished problem s → s.best <ℤ state_bound s → s.evaluated ≡ problem.budget
spent_above problem s f above =
    elim f.closed_or_spent [ inl closed ↦ let same : state_bound s ≡ s.best = bound_closed s closed in absurd (omega (arith, ints)) | inr spent ↦ spent ]

-- what a core that is finished stands for
pub core_outcome : (core : CoreFields) → HasHistory core → IsFinished core.problem core.state → IsOutcome core.problem.weights core.problem.budget core.order core.state.best (state_bound core.state) core.state.evaluated
core_outcome core h f = record {
  is_order = h.is_order;
  weighs = h.weighs;
  start = core.problem.start;
  journal = core.journal;
  lawful = h.lawful;
  best = ap (λ (s : SearchState). s.best) (sym h.replayed);
  bound = ap state_bound (sym h.replayed);
  evaluated_is = ap (λ (s : SearchState). s.evaluated) (sym h.replayed);
  finished = subst (λ (s : SearchState). IsFinished core.problem s) h.replayed f;
}

-- a take of one worker alone that hands nothing out: the run is finished
pub alone_finished : (old new : CoreFields) (blank ticket : TicketFields) (worker : ℕ) (r : TakeReply) → HasHistory old → out_count old.state.nodes ≡ 0 → IsTake old blank worker r new ticket → (r ≡ Node → ⊥)
    → (new ≡ old) × IsFinished old.problem old.state
alone_finished old new blank ticket worker Node h none step other = absurd (other refl)
alone_finished old new blank ticket worker Done h none step other = (step.1.0, record { none_out = none; closed_or_spent = inl step.0 })
alone_finished old new blank ticket worker AllOut h none step other = absurd (step.1 step.0.0 (ready_alone old.state.nodes old.state.best step.0.0 none step.0.1))
alone_finished old new blank ticket worker Spent h none step other =
    let most = (core_counted old h).within in (step.2.0, record { none_out = none; closed_or_spent = inr (omega (arith, most, step.1)) })

-- a report of a node that is out to the worker is taken in
pub taken_in : (old new : CoreFields) (worker : ℕ) (found : EvaluatedFields) (r : ReportReply) → IsOutTo old.state worker found.node → IsReport old worker found r new → IsReported old worker found new
taken_in old new worker found NotYours out step = absurd (step.0 out)
taken_in old new worker found Closed out step = step.0
taken_in old new worker found (replies.Split first) out step = step.0

-- a node was handed out to the worker, and what was found there was taken in
pub turned : (old mid new : CoreFields) (worker node : ℕ) (found : EvaluatedFields) → HasHistory old → HasHistory new → mid ≡ with_entry old (Take worker node) old.order
    → new ≡ record (with_entry mid (entry_of mid worker found) new.order) { book = new.book }
    → (new.problem ≡ old.problem) × (new.state.evaluated ≡ old.state.evaluated + 1) × (out_count new.state.nodes ≡ out_count old.state.nodes)
turned old mid new worker node found h g first second =
    let problem : new.problem ≡ old.problem = ap (λ (x : CoreFields). x.problem) second ∙ ap (λ (x : CoreFields). x.problem) first in
    let journal : new.journal ≡ (old.journal ++ Take worker node ∷ []) ++ entry_of mid worker found ∷ [] =
    ap (λ (x : CoreFields). x.journal) second ∙ ap (λ (x : CoreFields). x.journal ++ entry_of mid worker found ∷ []) first in
    let counts = turn_counts old new (Take worker node) (entry_of mid worker found) h g problem journal refl refl in
    (problem, counts.0, counts.1)
