use Rattle.std.proofs.Common.{◌≡◌, ap, sym, ◌∙◌, arith, false, cond, None, Some, [], ◌∷◌}
use Rattle.atomic_table.specs.Table.{rest}
use Rattle.lop_turn.proofs.Steps.{tries}
use Rattle.lop_turn.proofs.turn.Turn.try_take.Goals as goal

pub compare_exchange-found-requires : goal.compare_exchange-found-requires
compare_exchange-found-requires g c =
    let known = c.args.pass.now in
    let is : c.pass.inside.seat.me.0 ≡ known.view = ap (λ k. k.view) c.pass.view_is in
    let idle : c.pass.inside.seat.me.0.holds ≡ false = ap (λ v. v.holds) is ∙ c.requires.free in (
      ap (λ k. k.turn) c.pass.view_is ∙ (c.requires.turn ∙ sym c.self.view_is),
      omega (arith, c.self.invariant.0),
      tries g.T.Kept.history g.T.Kept.worker g.T.Kept.score g.T.Kept.fixed _ _ _ _ idle c.pass.invariant.1 (omega (arith, c.from-name.ensures, c.pass.invariant.0)),
    )

pub exchange-requires : goal.exchange-requires
exchange-requires g c =
    let t = c.compare_exchange-found.ensures in
    let took = t.2.0 c.if-found-eq0.true in
    let idle : c.pass.inside.seat.me.0.holds ≡ false = ap (λ k. k.view.holds) c.pass.view_is ∙ c.requires.free in
    let out : c.pass.inside.seat.me.1 ≡ [] = c.pass.invariant.2 ∙ ap (λ b. cond b ((0, None) ∷ []) []) idle in
    let now : c.compare_exchange-found.new.seat.me.1 ≡ (0, Some took.value) ∷ c.pass.inside.seat.me.1 = ap (λ m. m.1) took.seat in (
      t.0 ∙ (ap (λ k. k.turn) c.pass.view_is ∙ (c.requires.turn ∙ sym c.self.view_is)),
      (Some took.value, now ∙ ap (λ l. (0, Some took.value) ∷ rest l) (sym now)),
    )
