use Rattle.std.proofs.Common.{sym, ◌∙◌}
use Rattle.lop_core.proofs.RecordLemmas.{read_new}
use Rattle.lop_core.proofs.records.read_terms.Goals as goal

pub put-requires-clause-new_cut : goal.put-requires-clause-new_cut
put-requires-clause-new_cut c =
    read_new c.args.cuts.now c.args.terms.now c.loop-term.term-index (record { cut = 0; multiplier = 0 }) c.copy.result c.loop-term.into.terms c.len-count.ensures.different c.requires.rising c.requires.listed c.loop-term-test.true (c.copy.ensures ∙ sym c.get.ensures.is_there) c.loop-term.invariant.so_far
