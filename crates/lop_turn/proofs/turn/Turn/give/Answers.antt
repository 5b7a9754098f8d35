use Rattle.std.proofs.Common.{◌≡◌, ap, sym, ◌∙◌, arith, true, cond, None, Some, [], ◌∷◌}
use Rattle.atomic_table.specs.Table.{rest}
use Rattle.lop_turn.proofs.Steps.{gives_back, gives_more}
use Rattle.lop_turn.proofs.turn.Turn.give.Goals as goal

pub store-requires : goal.store-requires
store-requires g c =
    let known = c.args.pass.now in
    let is : c.pass.inside.seat.me.0 ≡ known.view = ap (λ k. k.view) c.pass.view_is in
    let t = c.exchange-before.ensures in
    let live : known.view.is_live ≡ true = ap (λ v. v.is_live) (sym is) ∙ c.pass.invariant.1 in
    let holds : c.pass.inside.seat.me.0.holds ≡ true = ap (λ v. v.holds) is ∙ c.requires.holds in
    let out : c.pass.inside.seat.me.1 ≡ (0, None) ∷ [] = c.pass.invariant.2 ∙ ap (λ b. cond b ((0, None) ∷ []) []) holds in
    let more = c.requires.history in (
      t.0 ∙ (ap (λ k. k.turn) c.pass.view_is ∙ (c.requires.turn ∙ sym c.self.view_is)),
      omega (arith, c.self.invariant.0),
      gives_back g.T.Kept.history g.T.Kept.worker g.T.Kept.score g.T.Kept.fixed _ _ _ known.view c.args.kept more.0
          (t.3 ∙ (ap (λ l. (c.pass.inside.seat.me.0, (0, Some c.args.kept) ∷ rest l)) out ∙ ap (λ v. (v, (0, Some c.args.kept) ∷ [])) is))
          live c.requires.holds more.1 more.2 c.requires.fixed c.requires.score,
    )

pub returns-clause-mine : goal.returns-clause-mine
returns-clause-mine g c =
    let known = c.args.pass.now in
    let is : c.pass.inside.seat.me.0 ≡ known.view = ap (λ k. k.view) c.pass.view_is in
    let t = c.exchange-before.ensures in
    let holds : c.pass.inside.seat.me.0.holds ≡ true = ap (λ v. v.holds) is ∙ c.requires.holds in
    let out : c.pass.inside.seat.me.1 ≡ (0, None) ∷ [] = c.pass.invariant.2 ∙ ap (λ b. cond b ((0, None) ∷ []) []) holds in
    let more = c.requires.history in
    gives_more g.T.Kept.history g.T.Kept.worker g.T.Kept.score g.T.Kept.fixed _ _ known.view c.args.kept more.0
    (t.3 ∙ (ap (λ l. (c.pass.inside.seat.me.0, (0, Some c.args.kept) ∷ rest l)) out ∙ ap (λ v. (v, (0, Some c.args.kept) ∷ [])) is))
    more.1 more.2 c.store.ensures.2
