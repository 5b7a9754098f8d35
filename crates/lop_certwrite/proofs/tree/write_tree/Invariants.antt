use Rattle.std.proofs.Common.{◌≤◌}
use Rattle.lop_desk.specs.Desk.{IsMaking}
use Rattle.lop_certwrite.specs.CoreTree.{WholeTree}
use Rattle.lop_certwrite.proofs.Walked.{IsWrittenTo}
use Rattle.lop_certwrite.proofs.tree.write_tree.Given as goal

abbrev pub invariant-loop : goal.invariant-loop
invariant-loop g l = record {
  making : IsMaking (g.D.Desk.told l.desk);
  later : g.D.Desk.faults l.fn.desk ≤ g.D.Desk.faults l.desk;
  walk : (whole : WholeTree l.core.state.nodes) → IsWrittenTo l.core.state.nodes l.core.book.numbers l.names.users.items (g.D.Desk.told l.fn.desk) (g.D.Desk.told l.desk) whole.tree l.counter l.node;
}
