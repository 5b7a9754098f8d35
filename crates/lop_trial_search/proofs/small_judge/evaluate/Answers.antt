use Rattle.std.proofs.Common.{◌∙◌, sym, ap, subst, refl}
use Rattle.lop_model.specs.Order.{IsOrder}
use Rattle.lop_model.specs.Matrix.{Matrix}
use Rattle.lop_leaf.specs.Sound.{IsSoundTicket, IsSoundResult}
use Rattle.lop_core.specs.Core.{CoreFields, IsTicketOf}
use Rattle.lop_trial_search.proofs.small_judge.evaluate.Goals as goal

pub judge-requires-clause-ticket : goal.judge-requires-clause-ticket
judge-requires-clause-ticket c =
    subst (λ (m : Matrix). IsSoundTicket m c.take.new.into) (sym (c.weights.ensures ∙ ap (λ (v : CoreFields). v.problem.weights) c.in-Node.ensures.step.1)) c.in-Node.ensures.on_node.sound

pub judge-requires-clause-order : goal.judge-requires-clause-order
judge-requires-clause-order c = subst (λ (m : Matrix). IsOrder m.size c.best_order.result.now) (sym c.weights.ensures) c.best_order.ensures.is_order

pub judge-requires-clause-fixings : goal.judge-requires-clause-fixings
judge-requires-clause-fixings c =
    c.requires.fixings ∙ ap (λ (m : Matrix). m.size) (sym (c.weights.ensures ∙ ap (λ (v : CoreFields). v.problem.weights) c.in-Node.ensures.step.1))

pub judge-requires-clause-room : goal.judge-requires-clause-room
judge-requires-clause-room c =
    c.requires.room ∙ ap (λ (m : Matrix). m.size) (sym (c.weights.ensures ∙ ap (λ (v : CoreFields). v.problem.weights) c.in-Node.ensures.step.1))

pub judge-requires-clause-into : goal.judge-requires-clause-into
judge-requires-clause-into c =
    c.requires.into ∙ ap (λ (m : Matrix). m.size) (sym (c.weights.ensures ∙ ap (λ (v : CoreFields). v.problem.weights) c.in-Node.ensures.step.1))

pub report-requires : goal.report-requires
report-requires c =
    let sound : IsSoundResult c.take.new.self.problem.weights c.take.new.into c.judge.new.into = subst (λ (m : Matrix). IsSoundResult m c.take.new.into c.judge.new.into) c.weights.ensures (c.if-not-judge.ensures refl) in
    record {
      sound = λ out. record {
        ticket = c.take.new.into;
        is_of = subst (λ k. IsTicketOf c.take.new.self k c.take.new.into) (sym sound.node) c.in-Node.ensures.on_node.is_of;
        sound = sound;
      };
    }
