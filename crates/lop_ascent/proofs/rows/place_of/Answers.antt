use Rattle.lop_ascent.proofs.rows.place_of.Goals as goal

pub returns-then-arc : goal.returns-then-arc
returns-then-arc c = λ n cells below some. c.of.ensures.within n cells below.1 some

pub returns-then-arc-2 : goal.returns-then-arc-2
returns-then-arc-2 c = λ n cells below some. c.of-then-arc-2.ensures.within n cells below.0 some
