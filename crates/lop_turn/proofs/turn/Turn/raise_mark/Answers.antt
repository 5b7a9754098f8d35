use Rattle.std.proofs.Common.{◌≡◌, ap, sym, ◌∙◌, arith, true}
use Rattle.std.proofs.lemmas.Int.{ints}
use Rattle.lop_turn.proofs.Beginnings.{found}
use Rattle.lop_turn.proofs.Steps.{raises}
use Rattle.lop_turn.proofs.turn.Turn.raise_mark.Goals as goal

pub fetch_max-requires : goal.fetch_max-requires
fetch_max-requires g c =
    let known = c.args.pass.now in
    let is : c.pass.inside.seat.me.0 ≡ known.view = ap (λ k. k.view) c.pass.view_is in
    let live : known.view.is_live ≡ true = ap (λ v. v.is_live) (sym is) ∙ c.pass.invariant.1 in
    let gave = found known.view.last_given c.requires.given in
    let last : c.pass.inside.last_given ≡ gave.0 = c.pass.invariant.3 gave.0 (ap (λ v. v.last_given) is ∙ gave.1) in (
      ap (λ k. k.turn) c.pass.view_is ∙ (c.requires.turn ∙ sym c.self.view_is),
      omega (arith, c.self.invariant.0),
      raises g.T.Kept.history g.T.Kept.worker g.T.Kept.score g.T.Kept.fixed _ _ _ _ known.view gave.0 is live gave.1 (omega (arith, ints, c.word_of-word.ensures, last)),
    )
