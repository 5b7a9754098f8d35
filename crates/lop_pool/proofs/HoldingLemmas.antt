-- What a worker holds stays so, whatever the others do.
use Rattle.std.proofs.Common.{◌≡◌, ◌≢◌, ℕ, inl, inr, List, [], ◌∷◌, ◌++◌, get_or, arith, sym, ◌∙◌, Some, Option, refl, ap, subst, true, false}
use Rattle.std.specs.Prelude.{slice_get, pos, ◌≤ℤ◌, map, ◌==◌}
use Rattle.std.proofs.lemmas.Int.{ints}
use Rattle.std.proofs.lemmas.Bool.{false≢true, eqb-true}
use Rattle.lop_model.specs.declared.pair.Pair.{Pair}
use Rattle.lop_model.specs.Matrix.{Matrix}
use Rattle.lop_leaf.specs.Ticket.{TicketFields}
use Rattle.lop_leaf.specs.Evaluated.{EvaluatedFields}
use Rattle.lop_leaf.specs.Sound.{IsSoundResult}
use Rattle.lop_core.specs.declared.node.SearchNode.{SearchNode}
use Rattle.lop_core.specs.declared.node.Standing.{Standing}
use Rattle.lop_core.specs.declared.node.Standing.TheVariants.{Idle, Out, Split}
use Rattle.lop_core.specs.declared.journal.Entry.{Entry}
use Rattle.lop_core.specs.declared.journal.Entry.TheVariants.{Take}
use Rattle.lop_core.specs.declared.reply.TakeReply.{TakeReply}
use Rattle.lop_core.specs.declared.reply.TakeReply.TheVariants.{Node, Done, AllOut, Spent}
use Rattle.lop_core.specs.Tree.{node_at, path_of, is_out, is_split, out_count}
use Rattle.lop_core.specs.Machine.{Problem, SearchState, IsOutTo}
use Rattle.lop_core.specs.Journal.{replay, entries_of, takes, reports, HasTake, HasReport, MayTake, IsLawfulJournal}
use Rattle.lop_core.specs.Core.{CoreFields, HasHistory, IsTake, IsTicketOf, IsSoundReport, IsReported, with_entry, entry_of, has_room_for}
use Rattle.lop_core.specs.Workers.{StandsStill}
use Rattle.lop_core.proofs.Lists.{EachFollows-push}
use Rattle.lop_core.proofs.Sound.{one_if, count_changed}
use Rattle.lop_core.proofs.Fates.{out_exactly}
use Rattle.lop_core.proofs.CoreLemmas.{core_out, core_counted}
use Rattle.lop_core.proofs.Alone.{ready_alone}
use Rattle.lop_core.proofs.Monotone.{best_rises}
use Rattle.lop_core.proofs.Workers.{lawful_start, Any_more, count_none, report_apart, out_stands_still}
use Rattle.lop_pool.specs.declared.event.Event.{Event}
use Rattle.lop_pool.specs.declared.parcel.Parcel.{Parcel}
use Rattle.lop_pool.specs.declared.end.SearchEnd.TheVariants as ends
use Rattle.lop_pool.specs.Events.{events_of, event_worker, events_by, IsGrown}
use Rattle.lop_pool.specs.Judged.{Relation, IsJudged, AreJudged, IsJudgedResult}
use Rattle.lop_pool.specs.Holding.{HasNone, HasTickets, HasBeside, IsHanded, WhateverElse}
use Rattle.lop_pool.specs.Ends.{NoneLive, IsSpent, IsEnd}
use Rattle.lop_pool.proofs.EventLemmas.{entries_told, same_entries, IsIn, in_filter, in_prefix, took_at, is_take, took_cases, reported_cases, took_last, grown_same, grown_push}

-- ---- two journals in which a worker's events are the same

at_take : (problem : Problem) (h : List Entry) (worker node : ℕ) (v : Event) → IsLawfulJournal problem h → IsOutTo (replay problem h) worker node → IsIn v (events_of h) → v.entry ≡ Take worker node
    → StandsStill (replay problem (v.before ++ Take worker node ∷ [])) (replay problem h) node
at_take problem h worker node v lawful out there is =
    let r = in_prefix v [] h there in
    let split : h ≡ (v.before ++ Take worker node ∷ []) ++ r.0 = r.1 ∙ ap (λ (e : Entry). (v.before ++ e ∷ []) ++ r.0) is in
    let whole : IsLawfulJournal problem ((v.before ++ Take worker node ∷ []) ++ r.0) = subst (IsLawfulJournal problem) split lawful in
    let late : IsOutTo (replay problem ((v.before ++ Take worker node ∷ []) ++ r.0)) worker node = subst (λ (j : List Entry). IsOutTo (replay problem j) worker node) split out in
    let first : IsLawfulJournal problem (v.before ++ Take worker node ∷ []) = lawful_start problem (v.before ++ Take worker node ∷ []) r.0 whole in
    let held = (out_exactly problem ((v.before ++ Take worker node ∷ []) ++ r.0) worker node whole).0 late in
    let early : IsOutTo (replay problem (v.before ++ Take worker node ∷ [])) worker node =
    (out_exactly problem (v.before ++ Take worker node ∷ []) worker node first).1 (took_last worker node v.before, λ q. held.1 (Any_more worker (v.before ++ Take worker node ∷ []) r.0 q)) in
    subst (λ (j : List Entry). StandsStill (replay problem (v.before ++ Take worker node ∷ [])) (replay problem j) node) (sym split)
    (out_stands_still problem (v.before ++ Take worker node ∷ []) r.0 worker node whole early late)

-- a node that is out to the worker in the one is so in the other, with the same bound and path
record IsAlike (h j : SearchState) (worker node : ℕ) : Type 0 where
  is_out : IsOutTo j worker node
  bound : (node_at j.nodes node).bound ≡ (node_at h.nodes node).bound
  path : path_of j.nodes node ≡ path_of h.nodes node

alike : (problem : Problem) (h j : List Entry) (worker node : ℕ) → IsLawfulJournal problem h → IsLawfulJournal problem j → events_by worker h ≡ events_by worker j → IsOutTo (replay problem h) worker node
    → IsAlike (replay problem h) (replay problem j) worker node
alike problem h j worker node lh lj e out =
    let held = (out_exactly problem h worker node lh).0 out in
    let es = same_entries worker h j e in
    let out_j : IsOutTo (replay problem j) worker node = (out_exactly problem j worker node lj).1 (subst (HasTake node) es held.0, λ r. held.1 (subst (HasReport node) (sym es) r)) in
    let told : HasTake node (map (λ (u : Event). u.entry) (events_by worker h)) = subst (HasTake node) (entries_told worker h) held.0 in
    let found = took_at node (events_by worker h) told.0 told.1 told.2 told.3 told.4 in
    let v : Event = found.0 in
    let in_h = in_filter (λ (u : Event). event_worker u == worker) found.0 (events_of h) found.1 in
    let in_j = in_filter (λ (u : Event). event_worker u == worker) found.0 (events_of j) (subst (IsIn found.0) e found.1) in
    let is : found.0.entry ≡ Take worker node = is_take worker node found.0.entry (eqb-true (event_worker found.0) worker in_h.1) found.2 in
    let at_h = at_take problem h worker node found.0 lh out in_h.0 is in
    let at_j = at_take problem j worker node found.0 lj out_j in_j.0 is in
    record { is_out = out_j; bound = at_j.bound ∙ sym at_h.bound; path = at_j.path ∙ sym at_h.path }

pub none_kept : (problem : Problem) (journal : List Entry) (worker : ℕ) → IsLawfulJournal problem journal → HasNone worker (replay problem journal) → WhateverElse problem worker (events_by worker journal) (HasNone worker)
none_kept problem journal worker lawful none = λ j lj e node out. none node (alike problem j journal worker node lj lawful e out).is_out

pub tickets_kept : (problem : Problem) (journal : List Entry) (worker : ℕ) (parcels : List Parcel) (from to : ℕ) → IsLawfulJournal problem journal → HasTickets worker parcels from to (replay problem journal)
    → WhateverElse problem worker (events_by worker journal) (HasTickets worker parcels from to)
tickets_kept problem journal worker parcels from to lawful has = λ j lj e.
    record {
      each = λ k d lo hi.
          let one = has.each k d lo hi in
          let same = alike problem journal j worker (get_or parcels k d).ticket.node lawful lj (sym e) one.is_out in
          record { is_out = same.is_out; bound = one.bound ∙ sym same.bound; path = one.path ∙ sym same.path };
      apart = has.apart;
      only = λ node out. has.only node (alike problem j journal worker node lj lawful e out).is_out;
    }

-- ---- what a judge found

pub judged_result : (judged : Relation) (C : Matrix) (s : SearchState) (t : TicketFields) (found : EvaluatedFields) → t.bound ≡ (node_at s.nodes t.node).bound → t.path ≡ path_of s.nodes t.node
    → IsSoundResult C t found → judged C t.path found.bound found.pair found.value → IsJudgedResult judged C s found
judged_result judged C s t found bound path sound shown = record {
  ticket = t;
  bound = bound ∙ ap (λ (k : ℕ). (node_at s.nodes k).bound) (sym sound.node);
  path = path ∙ ap (λ (k : ℕ). path_of s.nodes k) (sym sound.node);
  sound = sound;
  shown = shown;
}

pub sound_report : (judged : Relation) (core : CoreFields) (found : EvaluatedFields) → IsJudgedResult judged core.problem.weights core.state found → IsSoundReport core found
sound_report judged core found r = record { ticket = r.ticket; is_of = record { bound = r.bound; path = r.path }; sound = r.sound }

-- ---- every report of the journal came from a judge

pub take_judged : (judged : Relation) (old new : CoreFields) (blank ticket : TicketFields) (worker : ℕ) (r : TakeReply) → IsTake old blank worker r new ticket → AreJudged judged old.problem old.journal → AreJudged judged new.problem new.journal
take_judged judged old new blank ticket worker Node step h =
    subst (λ (x : CoreFields). AreJudged judged x.problem x.journal) (sym step.1) (EachFollows-push (IsJudged judged old.problem) old.journal (Take worker ticket.node) h tt)
take_judged judged old new blank ticket worker Done step h = subst (λ (x : CoreFields). AreJudged judged x.problem x.journal) (sym step.1.0) h
take_judged judged old new blank ticket worker AllOut step h = subst (λ (x : CoreFields). AreJudged judged x.problem x.journal) (sym step.2.0) h
take_judged judged old new blank ticket worker Spent step h = subst (λ (x : CoreFields). AreJudged judged x.problem x.journal) (sym step.2.0) h

pub report_judged : (judged : Relation) (old new : CoreFields) (worker : ℕ) (found : EvaluatedFields) → IsReported old worker found new → HasHistory old → IsJudgedResult judged old.problem.weights old.state found
    → AreJudged judged old.problem old.journal → AreJudged judged new.problem new.journal
report_judged judged old new worker found told history result h =
    let path : result.ticket.path ≡ path_of (replay old.problem old.journal).nodes found.node = result.path ∙ ap (λ (s : SearchState). path_of s.nodes found.node) history.replayed in
    let one : judged old.problem.weights (path_of (replay old.problem old.journal).nodes found.node) found.bound found.pair found.value =
    subst (λ (p : List Pair). judged old.problem.weights p found.bound found.pair found.value) path result.shown in
    subst (λ (x : CoreFields). AreJudged judged x.problem x.journal) (sym told.noted) (EachFollows-push (IsJudged judged old.problem) old.journal (entry_of old worker found) h one)

-- ---- which nodes are out

pub no_out : (s : SearchState) → out_count s.nodes ≡ 0 → (worker : ℕ) → HasNone worker s
no_out s none worker node out =
    let one : one_if (is_out out.0.standing) ≡ 1 = ap (λ (x : Standing). one_if (is_out x)) out.2 in
    absurd (omega (arith, count_changed is_out s.nodes node out.0 (pos 0) Idle out.1))

standing_in : (s : SearchState) (i : ℕ) (x : SearchNode) (standing : Standing) → ((worker : ℕ) → HasNone worker s) → slice_get s.nodes i ≡ Some x → x.standing ≡ standing → is_out x.standing ≡ false
standing_in s i x Idle none there e = ap is_out e
standing_in s i x (Split first) none there e = ap is_out e
standing_in s i x (Out w) none there e = absurd (none w i (x, there, e))

-- where no worker has a node, none is out
pub none_counted : (s : SearchState) → ((worker : ℕ) → HasNone worker s) → out_count s.nodes ≡ 0
none_counted s none = count_none s.nodes (λ i x there. standing_in s i x x.standing none there refl)

-- ---- a report, and a take

pub report_grown : (old new : CoreFields) (worker : ℕ) (found : EvaluatedFields) → IsReported old worker found new → IsGrown worker old.journal new.journal
report_grown old new worker found told = grown_push worker old.journal new.journal (entry_of old worker found) (ap (λ (x : CoreFields). x.journal) told.noted) refl

pub report_best : (old new : CoreFields) (worker : ℕ) (found : EvaluatedFields) → IsReported old worker found new → old.state.best ≤ℤ new.state.best
report_best old new worker found told = subst (λ (x : CoreFields). old.state.best ≤ℤ x.state.best) (sym told.noted) (best_rises old.state (entry_of old worker found))

-- ---- what one more entry leaves of the worker's other nodes

pub beside : (old new : CoreFields) (worker node : ℕ) (e : Entry) → HasHistory old → HasHistory new → new.problem ≡ old.problem → new.journal ≡ old.journal ++ e ∷ [] → ((other : ℕ) → takes other e ≡ true → other ≡ node)
    → ((other : ℕ) → reports other e ≡ true → other ≡ node) → HasBeside worker node old.state new.state
beside old new worker node e h g same grown take report =
    let keeps : (other : ℕ) → other ≢ node → IsOutTo old.state worker other → IsOutTo new.state worker other = λ other ne out.
    let before = (core_out old worker other h).0 out in
    (core_out new worker other g).1 (
      subst (λ (j : List Entry). HasTake other (entries_of worker j)) (sym grown) (Any_more worker old.journal (e ∷ []) before.0),
      λ r. elim (reported_cases worker other old.journal e (subst (λ (j : List Entry). HasReport other (entries_of worker j)) grown r)) [ inl a ↦ before.1 a | inr b ↦ ne (report other b) ],
    ) in
    record {
      stays = keeps;
      stands = λ other ne out.
          let whole : IsLawfulJournal old.problem (old.journal ++ e ∷ []) = subst (IsLawfulJournal old.problem) grown (subst (λ (q : Problem). IsLawfulJournal q new.journal) same g.lawful) in
          let now : new.state ≡ replay old.problem (old.journal ++ e ∷ []) = g.replayed ∙ (ap (λ (q : Problem). replay q new.journal) same ∙ ap (replay old.problem) grown) in
          let early : IsOutTo (replay old.problem old.journal) worker other = subst (λ (s : SearchState). IsOutTo s worker other) h.replayed out in
          let late : IsOutTo (replay old.problem (old.journal ++ e ∷ [])) worker other = subst (λ (s : SearchState). IsOutTo s worker other) now (keeps other ne out) in
          let still = out_stands_still old.problem old.journal (e ∷ []) worker other whole early late in
          subst (λ (s : SearchState). StandsStill s new.state other) (sym h.replayed) (subst (λ (s : SearchState). StandsStill (replay old.problem old.journal) s other) (sym now) still);
      had = λ other ne out.
          let later = (core_out new worker other g).0 out in
          let took : HasTake other (entries_of worker (old.journal ++ e ∷ [])) = subst (λ (j : List Entry). HasTake other (entries_of worker j)) grown later.0 in
          elim (took_cases worker other old.journal e took) [
            | inl t ↦ (core_out old worker other h).1 (t, λ r. later.1 (subst (λ (j : List Entry). HasReport other (entries_of worker j)) (sym grown) (Any_more worker old.journal (e ∷ []) r)))
            | inr t ↦ absurd (ne (take other t))
          ];
    }

-- after its report the node is out to the worker no more
pub reported : (old new : CoreFields) (worker : ℕ) (found : EvaluatedFields) → HasHistory old → HasHistory new → IsReported old worker found new → HasBeside worker found.node old.state new.state × ¬ (IsOutTo new.state worker found.node)
reported old new worker found h g told =
    let grown : new.journal ≡ old.journal ++ entry_of old worker found ∷ [] = ap (λ (x : CoreFields). x.journal) told.noted in (
      beside old new worker found.node (entry_of old worker found) h g (ap (λ (x : CoreFields). x.problem) told.noted) grown (λ other t. absurd (false≢true t)) (λ other r. sym (eqb-true found.node other r)),
      λ out.
          let later = (core_out new worker found.node g).0 out in
          let open_still : ¬ (HasReport found.node (entries_of worker (old.journal ++ entry_of old worker found ∷ []))) = λ r. later.1 (subst (λ (j : List Entry). HasReport found.node (entries_of worker j)) (sym grown) r) in
          report_apart old.state old.journal worker found.node found.bound found.pair found.value (has_room_for old found) worker found.node told.was_out told.was_out open_still refl,
    )

idle_or_out : (it was : SearchNode) (o : Option SearchNode) (worker : ℕ) → o ≡ Some it → it.standing ≡ Idle → o ≡ Some was → was.standing ≡ Out worker → ⊥
idle_or_out it was o worker a b c d =
    let same : it ≡ was = cc in
    let clash : Idle ≡ Out worker = sym b ∙ (ap (λ (y : SearchNode). y.standing) same ∙ d) in
    absurd cc

-- a node that is handed out was idle
pub handed_out : (old new : CoreFields) (worker : ℕ) (ticket : TicketFields) → HasHistory old → HasHistory new → MayTake old.problem old.state ticket.node → new ≡ with_entry old (Take worker ticket.node) old.order → IsOutTo new.state worker ticket.node
    → IsTicketOf new ticket.node ticket → IsHanded worker ticket old.state new.state
handed_out old new worker ticket h g may noted out is = record {
  has = record { is_out = out; bound = is.bound; path = is.path };
  fresh = λ was. idle_or_out may.ready.it was.0 (slice_get old.state.nodes ticket.node) worker may.ready.is_there may.ready.idle was.1 was.2;
  beside = beside old new worker ticket.node (Take worker ticket.node) h g (ap (λ (x : CoreFields). x.problem) noted) (ap (λ (x : CoreFields). x.journal) noted) (λ other t. sym (eqb-true ticket.node other t)) (λ other r. absurd (false≢true r));
}

-- what a take leaves, whatever it replies
pub record AfterTake (old new : CoreFields) (worker : ℕ) : Type 0 where
  pub problem : new.problem ≡ old.problem
  pub grown : IsGrown worker old.journal new.journal
  pub best : old.state.best ≤ℤ new.state.best

after_same : (old new : CoreFields) (worker : ℕ) → new ≡ old → AfterTake old new worker
after_same old new worker e = subst (λ (x : CoreFields). AfterTake old x worker) (sym e) (record { problem = refl; grown = grown_same worker old.journal; best = omega (arith, ints) })

pub after_take : (old new : CoreFields) (blank ticket : TicketFields) (worker : ℕ) (r : TakeReply) → IsTake old blank worker r new ticket → AfterTake old new worker
after_take old new blank ticket worker Node step = record {
  problem = ap (λ (x : CoreFields). x.problem) step.1;
  grown = grown_push worker old.journal new.journal (Take worker ticket.node) (ap (λ (x : CoreFields). x.journal) step.1) refl;
  best = subst (λ (x : CoreFields). old.state.best ≤ℤ x.state.best) (sym step.1) (best_rises old.state (Take worker ticket.node));
}
after_take old new blank ticket worker Done step = after_same old new worker step.1.0
after_take old new blank ticket worker AllOut step = after_same old new worker step.2.0
after_take old new blank ticket worker Spent step = after_same old new worker step.2.0

-- the size of the ticket stays
pub take_size : (old new : CoreFields) (blank ticket : TicketFields) (worker : ℕ) (r : TakeReply) → IsTake old blank worker r new ticket → blank.size ≡ old.problem.weights.size → ticket.size ≡ blank.size
take_size old new blank ticket worker Node step e = ap (λ (t : TicketFields). t.size) step.2 ∙ sym e
take_size old new blank ticket worker Done step e = ap (λ (t : TicketFields). t.size) step.1.1
take_size old new blank ticket worker AllOut step e = ap (λ (t : TicketFields). t.size) step.2.1
take_size old new blank ticket worker Spent step e = ap (λ (t : TicketFields). t.size) step.2.1

-- ---- how a search ends

pub end_done : (old new : CoreFields) (blank ticket : TicketFields) (worker : ℕ) → IsTake old blank worker Done new ticket → IsEnd new ends.Closed
end_done old new blank ticket worker step = subst NoneLive (sym step.1.0) step.0

pub end_spent : (old new : CoreFields) (blank ticket : TicketFields) (worker : ℕ) → HasHistory old → out_count old.state.nodes ≡ 0 → IsTake old blank worker Spent new ticket → IsEnd new ends.Spent
end_spent old new blank ticket worker h none step =
    let ready = step.0.1 in
    let most = (core_counted old h).within in
    subst IsSpent (sym step.2.0) ((step.0.0, record { it = ready.it; is_there = ready.is_there; unsplit = ap is_split ready.idle; above = ready.above }), omega (arith, most, step.1, none))

pub never_all_out : (old new : CoreFields) (blank ticket : TicketFields) (worker : ℕ) → out_count old.state.nodes ≡ 0 → IsTake old blank worker AllOut new ticket → ⊥
never_all_out old new blank ticket worker none step = step.1 step.0.0 (ready_alone old.state.nodes old.state.best step.0.0 none step.0.1)

-- a take that hands nothing out changes nothing
pub untaken : (old new : CoreFields) (blank ticket : TicketFields) (worker : ℕ) (r : TakeReply) → IsTake old blank worker r new ticket → (r ≡ Node → ⊥) → new ≡ old
untaken old new blank ticket worker Node step other = absurd (other refl)
untaken old new blank ticket worker Done step other = step.1.0
untaken old new blank ticket worker AllOut step other = step.2.0
untaken old new blank ticket worker Spent step other = step.2.0
