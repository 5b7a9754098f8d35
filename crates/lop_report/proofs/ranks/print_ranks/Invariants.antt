use Rattle.std.proofs.Common.{◌≡◌, ◌≤◌, length, take}
use Rattle.std.specs.List.{flat_map, range_with_len}
use Rattle.lop_desk.specs.World.{with_printed}
use Rattle.lop_report.specs.Lines.{rank_line}
use Rattle.lop_report.proofs.ranks.print_ranks.Given as goal

abbrev pub invariant-loop-place : goal.invariant-loop-place
invariant-loop-place g l = record {
  later : g.D.Desk.faults l.fn.desk ≤ g.D.Desk.faults l.desk;
  printed : g.D.Desk.told l.desk ≡ with_printed (flat_map (rank_line l.profile.names l.order) (take l.place (range_with_len 0 (length l.order)))) (g.D.Desk.told l.fn.desk);
}
