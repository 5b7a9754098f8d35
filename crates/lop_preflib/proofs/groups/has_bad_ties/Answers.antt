use Rattle.std.proofs.Common.{sym, ◌∙◌}
use Rattle.lop_preflib.proofs.BraceLemmas.{no_ties}
use Rattle.lop_preflib.proofs.groups.has_bad_ties.Goals as goal

pub returns-else-has_brace : goal.returns-else-has_brace
returns-else-has_brace c = c.if-has_brace.false ∙ sym (no_ties c.args.list.now (sym c.has_brace.ensures ∙ c.if-has_brace.false))
