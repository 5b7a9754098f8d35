use Rattle.std.proofs.Common.{◌≡◌, take}
use Rattle.lop_model.specs.Fixings.{IsClosure, IsBranchingPrefix}
use Rattle.lop_fix.specs.PartialOrder.{IsPartialOrder}
use Rattle.lop_fix.proofs.fixings.Fixings.of_path.Given as goal

abbrev pub invariant-loop-k : goal.invariant-loop-k
invariant-loop-k l = record {
  size : l.self.size ≡ l.fn.self.size;
  branching : IsBranchingPrefix l.self.size l.path l.k;
  closure : IsClosure (take l.k l.path) l.self.pairs;
  partial_order : IsPartialOrder l.self;
}
