use Rattle.std.proofs.Common.{◌≡◌, ◌≤◌, take, map}
use Rattle.std.specs.Prelude.{All}
use Rattle.lop_desk.specs.World.{with_written}
use Rattle.lop_desk.specs.Desk.{IsMaking}
use Rattle.lop_certtext.specs.CutLine.{cut_line, IsShapedCut}
use Rattle.lop_certtext.specs.Certificate.{text_of}
use Rattle.lop_certwrite.proofs.body.write_cuts.Given as goal

abbrev pub invariant-loop-index : goal.invariant-loop-index
invariant-loop-index g l = record {
  making : IsMaking (g.D.Desk.told l.desk);
  later : g.D.Desk.faults l.fn.desk ≤ g.D.Desk.faults l.desk;
  written : g.D.Desk.told l.desk ≡ with_written (text_of (map cut_line (take l.index l.core.book.cuts))) (g.D.Desk.told l.fn.desk);
  shaped : All IsShapedCut (take l.index l.core.book.cuts);
}
