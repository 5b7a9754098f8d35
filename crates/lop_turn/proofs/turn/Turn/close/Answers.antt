use Rattle.std.proofs.Common.{ap, refl, subst, sym, IsSome}
use Rattle.lop_turn.proofs.Seats.{finds, finds_this}
use Rattle.lop_turn.proofs.turn.Turn.close.Goals as goal

pub unwrap-value-requires : goal.unwrap-value-requires
unwrap-value-requires g c =
    let t = finds g.T.Kept.history g.T.Kept.worker g.T.Kept.score g.T.Kept.fixed _ _ c.args.pass.view _ _ c.take.result (ap (λ k. k.view) c.pass.view_is) c.requires.first.0 c.pass.invariant.1 c.requires.first.1 c.requires.joined c.close_with-closed.ensures.values.2 c.take.ensures.value in
    subst IsSome (sym t.1) refl

pub returns : goal.returns
returns g c =
    let t = finds g.T.Kept.history g.T.Kept.worker g.T.Kept.score g.T.Kept.fixed _ _ c.args.pass.view _ _ c.take.result (ap (λ k. k.view) c.pass.view_is) c.requires.first.0 c.pass.invariant.1 c.requires.first.1 c.requires.joined c.close_with-closed.ensures.values.2 c.take.ensures.value in
    let all = finds_this g.T.Kept.history g.T.Kept.worker g.T.Kept.score g.T.Kept.fixed c.args.pass.view c.take.result c.unwrap-value.result t c.unwrap-value.ensures in
    record { seen = all.sees; opening = all.opens; fixed = all.fixed_is; floor = all.floor; ended = all.ended; mine = all.mine; others = all.never }
