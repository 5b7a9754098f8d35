use Rattle.std.proofs.Common.{◌≡◌, ◌≤◌, take, map}
use Rattle.lop_desk.specs.World.{with_written}
use Rattle.lop_desk.specs.Desk.{IsMaking}
use Rattle.lop_certtext.specs.Certificate.{text_of}
use Rattle.lop_certwrite.specs.Walk.{user_line}
use Rattle.lop_certwrite.proofs.body.write_records.Given as goal

abbrev pub invariant-loop-node : goal.invariant-loop-node
invariant-loop-node g l = record {
  making : IsMaking (g.D.Desk.told l.desk);
  later : g.D.Desk.faults l.fn.desk ≤ g.D.Desk.faults l.desk;
  written : g.D.Desk.told l.desk ≡ with_written (text_of (map (user_line l.core.book.records) (take l.node-index l.users))) (g.D.Desk.told l.fn.desk);
}
