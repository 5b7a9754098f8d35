use Rattle.std.proofs.Common.{◌≡◌, ◌+◌, ◌*◌, ◌≤◌, ◌∷◌, length, take, pos}
use Rattle.std.specs.Prelude.{All}
use Rattle.std.specs.List.{flat_map}
use Rattle.lop_certtext.specs.CutLine.{cycle_numbers, IsShapedCycle}
use Rattle.lop_certwrite.proofs.cut.push_cycles.Given as goal

abbrev pub invariant-loop-cycle : goal.invariant-loop-cycle
invariant-loop-cycle l = record {
  items : l.numbers.items ≡ pos (length l.cycles) ∷ flat_map cycle_numbers (take l.cycle-index l.cycles);
  len : length l.numbers.items ≤ 1 + 5 * l.cycle-index;
  shaped : All IsShapedCycle (take l.cycle-index l.cycles);
}
