use Rattle.std.proofs.Common.{◌≡◌, ℕ, ◌+◌, ◌∙◌, inl, inr, List, length, get_or, arith, refl, ap, sym, subst}
use Rattle.lop_model.specs.Matrix.{IsWeights}
use Rattle.lop_core.specs.Core.{CoreFields, HasHistory}
use Rattle.lop_turn.specs.Lists.{StartsWith, entries_by}
use Rattle.lop_pool.specs.declared.event.Event.{Event}
use Rattle.lop_pool.specs.Events.{events_of, event_worker, events_by}
use Rattle.lop_pool.proofs.HoldingLemmas.{no_out}
use Rattle.lop_pool.proofs.RoundLemmas.{same_problem}
use Rattle.lop_pool.proofs.RelayLemmas.{all_ended, left_in, still_none, beyond}
use Rattle.lop_pool.proofs.RiseLemmas.{evaluated_rises}
use Rattle.lop_pool.proofs.closing.close_round.Goals as goal

pub close-core-requires-clause-joined : goal.close-core-requires-clause-joined
close-core-requires-clause-joined g c κs within =
    all_ended g.J.Judge.objects g.J.Judge.judged c.args.about.now.value.problem c.args.weights.now c.args.first.view c.args.workers.now c.requires.split c.requires.back

pub returns-clause-same_problem : goal.returns-clause-same_problem
returns-clause-same_problem g c =
    let own : IsWeights c.args.about.now.value.problem.weights = subst IsWeights (sym c.requires.weights) c.n-own.ensures.weights in
    let shared : IsWeights c.close-core.result.problem.weights = subst IsWeights (c.weights.ensures ∙ ap (λ (x : CoreFields). x.problem.weights) c.core.ensures) c.n-shared.ensures.weights in
    same_problem c.args.about.now.value.problem c.close-core.result.problem c.args.first.view.fixed own shared c.close-core.ensures.fixed c.requires.first.fixed_is

pub returns-clause-rises : goal.returns-clause-rises
returns-clause-rises g c =
    let hist : HasHistory c.close-core.result = subst HasHistory c.core-2.ensures c.evaluated-history.ensures.history in
    evaluated_rises c.args.about.now.value c.close-core.result c.requires.history hist (subst (λ (o : List Event). StartsWith (events_of c.close-core.result.journal) o) c.requires.first.opening_is c.close-core.ensures.opening)

pub returns-clause-left : goal.returns-clause-left
returns-clause-left g c =
    let own : IsWeights c.args.about.now.value.problem.weights = subst IsWeights (sym c.requires.weights) c.n-own.ensures.weights in
    let shared : IsWeights c.close-core.result.problem.weights = subst IsWeights (c.weights.ensures ∙ ap (λ (x : CoreFields). x.problem.weights) c.core.ensures) c.n-shared.ensures.weights in
    let same : c.close-core.result.problem ≡ c.args.about.now.value.problem = same_problem c.args.about.now.value.problem c.close-core.result.problem c.args.first.view.fixed own shared c.close-core.ensures.fixed c.requires.first.fixed_is in
    λ k d lt.
    let b = c.requires.back k d lt in
    left_in g.J.Judge.objects g.J.Judge.judged c.args.about.now.value.problem c.args.weights.now c.close-core.result.problem (k + 1) b.mine (events_by (k + 1) c.close-core.result.journal) (get_or c.args.workers.now k d) same
    (c.close-core.ensures.ended (k + 1) b.mine b.ended) b.left

pub returns-clause-none : goal.returns-clause-none
returns-clause-none g c =
    let own : IsWeights c.args.about.now.value.problem.weights = subst IsWeights (sym c.requires.weights) c.n-own.ensures.weights in
    let shared : IsWeights c.close-core.result.problem.weights = subst IsWeights (c.weights.ensures ∙ ap (λ (x : CoreFields). x.problem.weights) c.core.ensures) c.n-shared.ensures.weights in
    let same : c.close-core.result.problem ≡ c.args.about.now.value.problem = same_problem c.args.about.now.value.problem c.close-core.result.problem c.args.first.view.fixed own shared c.close-core.ensures.fixed c.requires.first.fixed_is in
    let hist : HasHistory c.close-core.result = subst HasHistory c.core-2.ensures c.evaluated-history.ensures.history in
    λ w h. elim h [
      | inl zero ↦
          let stays : events_by w c.close-core.result.journal ≡ events_by w c.args.about.now.value.journal =
          subst (λ (n : ℕ). events_by n c.close-core.result.journal ≡ events_by n c.args.about.now.value.journal) (sym zero) (c.close-core.ensures.mine ∙ c.requires.first.mine_is) in
          still_none c.args.about.now.value.problem c.args.about.now.value c.close-core.result w c.requires.history hist refl same stays (no_out c.args.about.now.value.state c.requires.none_out w)
      | inr gt ↦
          let stays : events_by w c.close-core.result.journal ≡ events_by w c.args.about.now.value.journal =
          c.close-core.ensures.others w (λ e. omega (arith, e, gt)) (beyond (length c.args.workers.now) w c.args.first.view.split_off c.requires.split gt) ∙ ap (λ (es : List Event). entries_by event_worker w es) c.requires.first.opening_is in
          still_none c.args.about.now.value.problem c.args.about.now.value c.close-core.result w c.requires.history hist refl same stays (no_out c.args.about.now.value.state c.requires.none_out w)
    ]
