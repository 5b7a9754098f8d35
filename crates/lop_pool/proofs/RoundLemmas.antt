-- What a pass knows of a worker, through a turn.
use Rattle.std.proofs.Common.{◌≡◌, ℕ, List, ◌++◌, arith, sym, ◌∙◌, ap, subst, true, false}
use Rattle.std.specs.Prelude.{ℤ, ◌≤ℤ◌, All}
use Rattle.lop_model.specs.Matrix.{Matrix, IsWeights}
use Rattle.lop_core.specs.declared.journal.Entry.{Entry}
use Rattle.lop_core.specs.Machine.{Problem, SearchState}
use Rattle.lop_core.specs.Journal.{replay, IsLawfulJournal}
use Rattle.lop_core.specs.Core.{CoreFields, HasHistory}
use Rattle.lop_core.specs.Workers.{fixed_of}
use Rattle.lop_core.proofs.Workers.{fixed_decides}
use Rattle.lop_turn.specs.declared.view.View.{View}
use Rattle.lop_turn.specs.Lists.{entries_by}
use Rattle.lop_turn.specs.Views.{Known, TurnName, after_take, after_give}
use Rattle.lop_pool.specs.declared.event.Event.{Event}
use Rattle.lop_pool.specs.declared.parcel.Parcel.{Parcel}
use Rattle.lop_pool.specs.Events.{events_of, event_worker, events_by, IsGrown}
use Rattle.lop_pool.specs.Judged.{Relation}
use Rattle.lop_pool.specs.Holding.{HasNone, HasTickets, Holds, WhateverElse}
use Rattle.lop_pool.specs.Workers.{IsPassFor, quiet, unmarked}
use Rattle.lop_pool.proofs.HoldingLemmas.{none_kept, tickets_kept}
use Rattle.lop_pool.proofs.BatchLemmas.{no_tickets}

replayed : (problem : Problem) (b : CoreFields) → HasHistory b → b.problem ≡ problem → b.state ≡ replay problem b.journal
replayed problem b h same = h.replayed ∙ ap (λ (q : Problem). replay q b.journal) same

lawful : (problem : Problem) (b : CoreFields) → HasHistory b → b.problem ≡ problem → IsLawfulJournal problem b.journal
lawful problem b h same = subst (λ (q : Problem). IsLawfulJournal q b.journal) same h.lawful

-- what holds whatever the others did holds of the core at hand
pub known : (problem : Problem) (b : CoreFields) (number : ℕ) (mine : List Event) (P : SearchState → Type 0) → HasHistory b → b.problem ≡ problem → events_by number b.journal ≡ mine → WhateverElse problem number mine P → P b.state
known problem b number mine P h same e all = subst P (sym (replayed problem b h same)) (all b.journal (lawful problem b h same) e)

pub knows_none : (problem : Problem) (b : CoreFields) (number : ℕ) (mine : List Event) → HasHistory b → b.problem ≡ problem → mine ≡ events_by number b.journal → HasNone number b.state → WhateverElse problem number mine (HasNone number)
knows_none problem b number mine h same e none =
    subst (λ (m : List Event). WhateverElse problem number m (HasNone number)) (sym e)
    (none_kept problem b.journal number (lawful problem b h same) (subst (HasNone number) (replayed problem b h same) none))

pub knows_tickets : (problem : Problem) (b : CoreFields) (number : ℕ) (mine : List Event) (parcels : List Parcel) (to : ℕ) → HasHistory b → b.problem ≡ problem → mine ≡ events_by number b.journal → HasTickets number parcels 0 to b.state
    → WhateverElse problem number mine (HasTickets number parcels 0 to)
knows_tickets problem b number mine parcels to h same e has =
    subst (λ (m : List Event). WhateverElse problem number m (HasTickets number parcels 0 to)) (sym e)
    (tickets_kept problem b.journal number parcels 0 to (lawful problem b h same) (subst (HasTickets number parcels 0 to) (replayed problem b h same) has))

-- a worker to which no node is out holds no result
pub holds_none : (judged : Relation) (C : Matrix) (number : ℕ) (parcels : List Parcel) (held : ℕ) (s : SearchState) → held ≡ 0 → HasNone number s → Holds judged C number parcels held s
holds_none judged C number parcels held s e none =
    subst (λ (n : ℕ). Holds judged C number parcels n s) (sym e) (record { tickets = no_tickets number parcels s none; results = λ k d lt. absurd (omega (arith, lt)) })

-- the problem of the value that was taken
pub same_problem : (problem q : Problem) (fixed : List ℤ) → IsWeights problem.weights → IsWeights q.weights → fixed_of q ≡ fixed → fixed ≡ fixed_of problem → q ≡ problem
same_problem problem q fixed hp hq a b = fixed_decides q problem hq hp (a ∙ b)

-- ---- one turn: a pass p, as it is with the turn (v), and as it is after the turn was given (w)

module _ (p : Known Event) (v w : View Event) (b e : CoreFields)
    (took : quiet v ≡ quiet (after_take p.view (events_of b.journal) b.state.best))
    (gave : w ≡ after_give event_worker v (events_of e.journal) e.state.best) where
  pub turn_number : w.number ≡ p.view.number
  turn_number = ap (λ (x : View Event). x.number) gave ∙ ap (λ (x : View Event). x.number) took

  pub turn_fixed : w.fixed ≡ p.view.fixed
  turn_fixed = ap (λ (x : View Event). x.fixed) gave ∙ ap (λ (x : View Event). x.fixed) took

  pub turn_free : w.holds ≡ false
  turn_free = ap (λ (x : View Event). x.holds) gave

  pub turn_mine : w.mine ≡ events_by p.view.number e.journal
  turn_mine = ap (λ (x : View Event). x.mine) gave ∙ ap (λ (x : View Event). entries_by event_worker x.number (events_of e.journal)) took

-- with the turn
module _ (p : Known Event) (v : View Event) (b : CoreFields) (took : quiet v ≡ quiet (after_take p.view (events_of b.journal) b.state.best)) where
  pub turn_holds : v.holds ≡ true
  turn_holds = ap (λ (x : View Event). x.holds) took

  pub turn_score : (s : ℤ) → b.state.best ≤ℤ s → v.taken_score ≤ℤ s
  turn_score s le = subst (λ (z : ℤ). z ≤ℤ s) (sym (ap (λ (x : View Event). x.taken_score) took)) le

  pub turn_kept : (q : Problem) → q ≡ b.problem → fixed_of b.problem ≡ p.view.fixed → fixed_of q ≡ v.fixed
  turn_kept q same fixed = ap fixed_of same ∙ (fixed ∙ sym (ap (λ (x : View Event). x.fixed) took))

  pub turn_history : (number : ℕ) (journal : List Entry) → p.view.number ≡ number → IsGrown number b.journal journal
      → (more : List Event) × (events_of journal ≡ v.taken ++ more) × All (λ x. event_worker x ≡ v.number) more
  turn_history number journal is grown = (
    grown.0,
    grown.1 ∙ ap (λ (l : List Event). l ++ grown.0) (sym (ap (λ (x : View Event). x.taken) took)),
    subst (λ (n : ℕ). All (λ x. event_worker x ≡ n) grown.0) (sym (ap (λ (x : View Event). x.number) took ∙ is)) grown.2,
  )

-- a refused try changes nothing but whom it found
pub still_pass : (turn : TurnName) (problem : Problem) (number : ℕ) (p q : Known Event) → q.turn ≡ p.turn → quiet q.view ≡ quiet p.view → IsPassFor turn problem number p → IsPassFor turn problem number q
still_pass turn problem number p q same view is = record {
  turn_is = same ∙ is.turn_is;
  free = ap (λ (x : View Event). x.holds) view ∙ is.free;
  number_is = ap (λ (x : View Event). x.number) view ∙ is.number_is;
  fixed_is = ap (λ (x : View Event). x.fixed) view ∙ is.fixed_is;
}

-- a mark that was raised or read changes nothing but the floor
pub marked_pass : (turn : TurnName) (problem : Problem) (number : ℕ) (p q : Known Event) → q.turn ≡ p.turn → unmarked q.view ≡ unmarked p.view → IsPassFor turn problem number p → IsPassFor turn problem number q
marked_pass turn problem number p q same view is = record {
  turn_is = same ∙ is.turn_is;
  free = ap (λ (x : View Event). x.holds) view ∙ is.free;
  number_is = ap (λ (x : View Event). x.number) view ∙ is.number_is;
  fixed_is = ap (λ (x : View Event). x.fixed) view ∙ is.fixed_is;
}
