-- A node that is out keeps its record too, whatever calls come.
use Rattle.std.proofs.Common.{◌≡◌, ◌≢◌, ℕ, ◌<◌, List, [], ◌∷◌, ◌++◌, length, arith, sym, ◌∙◌, ap, subst, zero, suc, append-nil, append_assoc}
use Rattle.std.proofs.lemmas.List.{get_or_append_left}
use Rattle.std.proofs.lemmas.Option.{slice_get_within}
use Rattle.lop_leaf.specs.Record.{ScaledTerms, IsScaledTerms}
use Rattle.lop_leaf.specs.Ticket.{TicketFields}
use Rattle.lop_leaf.specs.Evaluated.{EvaluatedFields}
use Rattle.lop_core.specs.declared.journal.Entry.{Entry}
use Rattle.lop_core.specs.declared.journal.Entry.TheVariants.{Take}
use Rattle.lop_core.specs.declared.reply.TakeReply.{TakeReply}
use Rattle.lop_core.specs.declared.reply.TakeReply.TheVariants.{Node, Done, AllOut, Spent}
use Rattle.lop_core.specs.declared.reply.ReportReply.{ReportReply}
use Rattle.lop_core.specs.declared.reply.ReportReply.TheVariants.{Closed, Split, NotYours}
use Rattle.lop_core.specs.Machine.{Problem, SearchState, IsOutTo}
use Rattle.lop_core.specs.Journal.{replay, entries_of, HasTake, HasReport, IsLawfulJournal}
use Rattle.lop_core.specs.Records.{RecordBook, empty_record, record_at, scaled_of}
use Rattle.lop_core.specs.Core.{CoreFields, IsTake, IsReport, IsReported, IsSoundReport, entry_of}
use Rattle.lop_core.specs.Workers.{IsCore, IsCall, Leads, StandsStill}
use Rattle.lop_core.specs.Workers.IsCall.{take_call, report_call}
use Rattle.lop_core.proofs.CoreLemmas.{core_out, report_facts}
use Rattle.lop_core.proofs.Workers.{Any_more, report_apart, out_stands_still}

-- the journal goes on from what it was, and the problem stays
record GoesOn (old new : CoreFields) : Type 0 where
  more : List Entry
  journal : new.journal ≡ old.journal ++ more
  problem : new.problem ≡ old.problem

same_goes_on : (old new : CoreFields) → new ≡ old → GoesOn old new
same_goes_on old new e = record { more = []; journal = ap (λ (c : CoreFields). c.journal) e ∙ sym (append-nil old.journal); problem = ap (λ (c : CoreFields). c.problem) e }

reported_goes_on : (old new : CoreFields) (w : ℕ) (found : EvaluatedFields) → IsReported old w found new → GoesOn old new
reported_goes_on old new w found r = record { more = entry_of old w found ∷ []; journal = ap (λ (c : CoreFields). c.journal) r.noted; problem = ap (λ (c : CoreFields). c.problem) r.noted }

take_goes_on : (old new : CoreFields) (w : ℕ) (blank ticket : TicketFields) (reply : TakeReply) → IsTake old blank w reply new ticket → GoesOn old new
take_goes_on old new w blank ticket Node is = record { more = Take w ticket.node ∷ []; journal = ap (λ (c : CoreFields). c.journal) is.1; problem = ap (λ (c : CoreFields). c.problem) is.1 }
take_goes_on old new w blank ticket Done is = same_goes_on old new is.1.0
take_goes_on old new w blank ticket Spent is = same_goes_on old new is.2.0
take_goes_on old new w blank ticket AllOut is = same_goes_on old new is.2.0

report_goes_on : (old new : CoreFields) (w : ℕ) (found : EvaluatedFields) (reply : ReportReply) → IsReport old w found reply new → GoesOn old new
report_goes_on old new w found NotYours is = same_goes_on old new is.1
report_goes_on old new w found Closed is = reported_goes_on old new w found is.0
report_goes_on old new w found (Split first) is = reported_goes_on old new w found is.0

call_goes_on : (old new : CoreFields) → IsCall old new → GoesOn old new
call_goes_on old new (take_call w blank ticket reply is) = take_goes_on old new w blank ticket reply is
call_goes_on old new (report_call w found reply scaled sound is) = report_goes_on old new w found reply is

leads_on : (k : ℕ) (old new : CoreFields) → Leads k old new → GoesOn old new
leads_on zero old new e = same_goes_on old new e
leads_on (suc k) old new l =
    let first = leads_on k old l.0 l.2 in
    let last = call_goes_on l.0 new l.3 in
    record {
      more = first.more ++ last.more;
      journal = last.journal ∙ ap (λ (j : List Entry). j ++ last.more) first.journal ∙ append_assoc old.journal first.more last.more;
      problem = last.problem ∙ first.problem;
    }

-- what a core knows of the node's record
abbrev record_of : CoreFields → ℕ → ScaledTerms
record_of core node = scaled_of core.book.cuts (record_at core.book.records node)

same_record_of : (old new : CoreFields) (node : ℕ) → new.book ≡ old.book → record_of new node ≡ record_of old node
same_record_of old new node e = ap (λ (b : RecordBook). scaled_of b.cuts (record_at b.records node)) e

take_record : (old new : CoreFields) (w node : ℕ) (blank ticket : TicketFields) (reply : TakeReply) → IsTake old blank w reply new ticket → record_of new node ≡ record_of old node
take_record old new w node blank ticket Node is = same_record_of old new node (ap (λ (c : CoreFields). c.book) is.1)
take_record old new w node blank ticket Done is = same_record_of old new node (ap (λ (c : CoreFields). c.book) is.1.0)
take_record old new w node blank ticket Spent is = same_record_of old new node (ap (λ (c : CoreFields). c.book) is.2.0)
take_record old new w node blank ticket AllOut is = same_record_of old new node (ap (λ (c : CoreFields). c.book) is.2.0)

-- a report of another node
module _ (old new : CoreFields) (own : IsCore old) (w v node : ℕ) (found : EvaluatedFields) (scaled : IsScaledTerms found.shown) (sound : IsOutTo old.state w found.node → IsSoundReport old found)
    (out : IsOutTo old.state v node) (none : ¬ (HasReport node (entries_of v new.journal))) where
  reported_other : IsReported old w found new → node ≢ found.node
  reported_other r =
      report_apart old.state old.journal w found.node found.bound found.pair found.value _ v node r.was_out out
      (subst (λ (j : List Entry). ¬ (HasReport node (entries_of v j))) (ap (λ (c : CoreFields). c.journal) r.noted) none)

  inside : node < length old.state.nodes
  inside = slice_get_within old.state.nodes node out.0 out.1

  mid_record : (r : IsReported old w found new) → (length r.book.records ≡ length old.state.nodes) × (scaled_of r.book.cuts (record_at r.book.records node) ≡ record_of old node)
  mid_record r =
      let facts = report_facts old found r.book own.history own.recorded own.book (slice_get_within old.state.nodes found.node r.was_out.0 r.was_out.1) (sound r.was_out) scaled r.taken in
      (facts.same_length, facts.others node inside (reported_other r))

  report_record : (reply : ReportReply) → IsReport old w found reply new → record_of new node ≡ record_of old node
  report_record NotYours is = same_record_of old new node (ap (λ (c : CoreFields). c.book) is.1)
  report_record Closed is = ap (λ (b : RecordBook). scaled_of b.cuts (record_at b.records node)) is.2 ∙ (mid_record is.0).1
  report_record (Split first) is =
      let m = mid_record is.0 in
      let mid : RecordBook = is.0.book in
      let at : record_at (mid.records ++ record_at mid.records found.node ∷ record_at mid.records found.node ∷ []) node ≡ record_at mid.records node =
      get_or_append_left mid.records (record_at mid.records found.node ∷ record_at mid.records found.node ∷ []) empty_record node (let lt = inside in omega (arith, m.0)) in
      ap (λ (b : RecordBook). scaled_of b.cuts (record_at b.records node)) is.3 ∙ ap (scaled_of mid.cuts) at ∙ m.1

-- whatever calls lead from one core to another: where a node is out to a worker in both, it has the same bound, path and record in both
pub record_stands_still : (k : ℕ) (old new : CoreFields) (w node : ℕ) → IsCore old → IsCore new → Leads k old new → IsOutTo old.state w node → IsOutTo new.state w node → record_of new node ≡ record_of old node
record_stands_still zero old new w node own its l out later = ap (λ (c : CoreFields). record_of c node) l
record_stands_still (suc k) old new w node own its l out later =
    let mid : CoreFields = l.0 in
    let first = leads_on k old l.0 l.2 in
    let last = call_goes_on l.0 new l.3 in
    let held = (core_out old w node own.history).0 out in
    let at_end = (core_out new w node its.history).0 later in
    let none : ¬ (HasReport node (entries_of w l.0.journal)) = λ r. at_end.1 (subst (λ (j : List Entry). HasReport node (entries_of w j)) (sym last.journal) (Any_more w l.0.journal last.more r)) in
    let out' : IsOutTo l.0.state w node = (core_out l.0 w node l.1.history).1 (subst (λ (j : List Entry). HasTake node (entries_of w j)) (sym first.journal) (Any_more w old.journal first.more held.0), none) in
    step l.3 out' at_end.1 ∙ record_stands_still k old l.0 w node own l.1 l.2 out out'
  where
    step : IsCall l.0 new → IsOutTo l.0.state w node → ¬ (HasReport node (entries_of w new.journal)) → record_of new node ≡ record_of l.0 node
    step (take_call v blank ticket reply is) out' none = take_record l.0 new v node blank ticket reply is
    step (report_call v found reply scaled sound is) out' none = report_record l.0 new l.1 v w node found scaled sound out' none reply is

pub core_stands_still : (k : ℕ) (old new : CoreFields) (w node : ℕ) → IsCore old → IsCore new → Leads k old new → IsOutTo old.state w node → IsOutTo new.state w node → StandsStill old.state new.state node
core_stands_still k old new w node own its l out later =
    let on = leads_on k old new l in
    let whole : replay old.problem (old.journal ++ on.more) ≡ new.state = ap (λ (p : Problem). replay p (old.journal ++ on.more)) (sym on.problem) ∙ ap (replay new.problem) (sym on.journal) ∙ sym its.history.replayed in
    let lawful : IsLawfulJournal old.problem (old.journal ++ on.more) = subst (λ (p : Problem). IsLawfulJournal p (old.journal ++ on.more)) on.problem (subst (IsLawfulJournal new.problem) on.journal its.history.lawful) in
    let still = out_stands_still old.problem old.journal on.more w node lawful (subst (λ (s : SearchState). IsOutTo s w node) own.history.replayed out) (subst (λ (s : SearchState). IsOutTo s w node) (sym whole) later) in
    subst (λ (s : SearchState). StandsStill s new.state node) (sym own.history.replayed) (subst (λ (s : SearchState). StandsStill (replay old.problem old.journal) s node) whole still)
