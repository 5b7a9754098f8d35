use Rattle.std.proofs.Common.{ℕ, ◌∙◌, ◌∷◌, ap, rules}
use Rattle.lop_turn.specs.declared.view.View.{View}
use Rattle.lop_pool.specs.declared.event.Event.{Event}
use Rattle.lop_pool.specs.Holding.{Holds, WhateverElse}
use Rattle.lop_pool.specs.Workers.{IsPassFor}
use Rattle.lop_pool.proofs.relay.take_pass.Goals as goal

pub returns-clause-ended : goal.returns-clause-ended
returns-clause-ended g c =
    let has : IsPassFor c.args.turn.now c.args.about.now.value.problem c.args.number c.in-Some.pass
    × WhateverElse c.args.about.now.value.problem c.args.number c.in-Some.pass.view.mine (Holds g.J.Judge.judged c.args.weights.now c.args.number c.args.worker.now.parcels.items c.args.worker.now.held) = search rules in (
      c.in-Some.pass.view.mine,
      ap (λ (v : View Event). v.ended) c.join.ensures.joined ∙ ap (λ (n : ℕ). (n, c.in-Some.pass.view.mine) ∷ c.args.first.now.view.ended) has.0.number_is,
      record { fits = record { judge = c.requires.left.fits.judge; eight = c.requires.left.fits.eight; parcels = c.requires.left.fits.parcels; within = c.requires.left.fits.within }; knows = has.1 },
    )
