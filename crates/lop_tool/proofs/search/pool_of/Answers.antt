use Rattle.std.proofs.Common.{◌∙◌, arith, sym}
use Rattle.lop_tool.proofs.search.pool_of.Goals as goal

pub returns : goal.returns
returns c =
    sym (c.in_ok-pool.ensures.size 0 0 (omega (arith, c.requires.some, c.in_ok-judges.ensures.count))) ∙ c.in_ok-judges.ensures.same_n 0 0 (omega (arith, c.requires.some, c.in_ok-judges.ensures.count))
