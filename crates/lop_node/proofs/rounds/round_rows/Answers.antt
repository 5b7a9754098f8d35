use Rattle.lop_node.proofs.rounds.round_rows.Goals as goal

pub returns : goal.returns
returns c = c.round_hints.ensures.fit c.args.ascent.now.size c.rows.ensures.list.fit
