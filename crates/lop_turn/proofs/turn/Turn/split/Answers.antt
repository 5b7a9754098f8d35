use Rattle.std.proofs.Common.{◌≡◌, ap, sym, ◌∙◌, arith, true}
use Rattle.lop_turn.specs.Views.{after_announcement}
use Rattle.lop_turn.proofs.Steps.{announces}
use Rattle.lop_turn.proofs.Seats.{splits_announced}
use Rattle.lop_turn.proofs.turn.Turn.split.Goals as goal

pub compare_exchange-requires : goal.compare_exchange-requires
compare_exchange-requires g c = (
  ap (λ k. k.turn) c.pass.view_is ∙ (c.requires.turn ∙ sym c.self.view_is),
  omega (arith, c.self.invariant.0),
  announces g.T.Kept.history g.T.Kept.worker g.T.Kept.score g.T.Kept.fixed _ _ _ _ c.pass.invariant.1,
)

pub split_seat-seat-requires : goal.split_seat-seat-requires
split_seat-seat-requires g c =
    let known = c.args.pass.now in
    let is : c.pass.inside.seat.me.0 ≡ known.view = ap (λ k. k.view) c.pass.view_is in
    let live : known.view.is_live ≡ true = ap (λ v. v.is_live) (sym is) ∙ c.pass.invariant.1 in
    let t = c.compare_exchange.ensures in (
      t.0 ∙ (ap (λ k. k.turn) c.pass.view_is ∙ (c.requires.turn ∙ sym c.self.view_is)),
      omega (arith, c.self.invariant.0),
      splits_announced g.T.Kept.history g.T.Kept.worker g.T.Kept.score g.T.Kept.fixed _ known.view c.compare_exchange.new.seat.me.0 c.args.number
          (ap (λ m. m.0) t.2 ∙ (ap (λ n. after_announcement c.pass.inside.seat.me.0 n) c.from-word.ensures ∙ ap (λ v. after_announcement v c.args.number) is))
          c.requires.first.0 live c.requires.first.1 c.requires.number.0 c.ranges.number.fits c.requires.number.1,
    )
