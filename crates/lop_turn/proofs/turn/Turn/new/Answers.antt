use Rattle.std.proofs.Common.{arith}
use Rattle.std.proofs.lemmas.Int.{ints}
use Rattle.lop_turn.proofs.Seats.{opens}
use Rattle.lop_turn.proofs.turn.Turn.new.Goals as goal

pub new-requires : goal.new-requires
new-requires g c =
    rw (c.push_reserved.ensures.items, c.in-Ok.ensures.items, c.of-about.ensures) (opens g.T.Kept.history g.T.Kept.worker g.T.Kept.score g.T.Kept.fixed c.args.kept _ (omega (arith, ints, c.word_of-mark.ensures, c.score.ensures)))
