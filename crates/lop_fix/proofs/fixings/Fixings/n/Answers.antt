use Rattle.std.proofs.Common.{subst}
use Rattle.lop_fix.specs.PartialOrder.{FixedPairs, IsPartialOrder}
use Rattle.lop_fix.proofs.TableFixings.{IsPartialOrder-table}
use Rattle.lop_fix.proofs.fixings.Fixings.n.Goals as goal

pub returns-clause-partial_order : goal.returns-clause-partial_order
returns-clause-partial_order c = subst (λ (f : FixedPairs). IsPartialOrder f) c.self.view_is (IsPartialOrder-table c.self.inside.size c.self.inside.words.items c.self.invariant)
