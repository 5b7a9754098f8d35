use Rattle.std.proofs.Common.{ℕ, ap, sym, subst, ◌∙◌}
use Rattle.std.specs.Prelude.{ℤ, ◌≤ℤ◌}
use Rattle.lop_turn.specs.declared.view.View.{View}
use Rattle.lop_turn.specs.Lists.{entries_by}
use Rattle.lop_turn.specs.Views.{after_take}
use Rattle.lop_pool.specs.declared.event.Event.{Event}
use Rattle.lop_pool.specs.Events.{events_of, event_worker}
use Rattle.lop_pool.specs.Workers.{quiet}
use Rattle.lop_pool.proofs.round.take_within.Goals as goal

pub try_take-requires-clause-turn : goal.try_take-requires-clause-turn
try_take-requires-clause-turn g c = λ _ _. c.loop-tries.invariant.turn ∙ c.requires.turn

pub try_take-requires-clause-free : goal.try_take-requires-clause-free
try_take-requires-clause-free g c = λ _ _. ap (λ (v : View Event). v.holds) c.loop-tries.invariant.quiet ∙ c.requires.free

pub returns-in-Ok-clause-some : goal.returns-in-Ok-clause-some
returns-in-Ok-clause-some g c =
    ap (λ (v : View Event). quiet v) c.in-Ok.ensures.taken ∙ ap (λ (v : View Event). after_take v (events_of c.in-Ok.core.journal) c.in-Ok.core.state.best) c.loop-tries.invariant.quiet

pub returns-in-Ok-clause-mine : goal.returns-in-Ok-clause-mine
returns-in-Ok-clause-mine g c =
    ap (λ (n : ℕ). entries_by event_worker n (events_of c.in-Ok.core.journal)) (sym (ap (λ (v : View Event). v.number) c.loop-tries.invariant.quiet))
    ∙ (c.in-Ok.ensures.mine ∙ ap (λ (v : View Event). v.mine) c.loop-tries.invariant.quiet)

pub returns-in-Ok-clause-fixed : goal.returns-in-Ok-clause-fixed
returns-in-Ok-clause-fixed g c = c.in-Ok.ensures.fixed ∙ ap (λ (v : View Event). v.fixed) c.loop-tries.invariant.quiet

pub returns-in-Ok-clause-floor : goal.returns-in-Ok-clause-floor
returns-in-Ok-clause-floor g c = subst (λ (z : ℤ). z ≤ℤ c.in-Ok.core.state.best) (ap (λ (v : View Event). v.floor) c.loop-tries.invariant.quiet) c.in-Ok.ensures.floor
