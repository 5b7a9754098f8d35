use Rattle.std.proofs.Common.{◌≡◌, ◌≤◌, length}
use Rattle.lop_certtext.specs.CutLine.{cycles_of}
use Rattle.lop_check.specs.Cycles.{all_in_front}
use Rattle.lop_check.proofs.ladder.cycles_of.Given as goal

abbrev pub invariant-loop-rest : goal.invariant-loop-rest
invariant-loop-rest l = record {
  so_far : cycles_of l.n l.numbers ≡ all_in_front l.cycles.items (cycles_of l.n l.rest);
  within : length l.rest ≤ length l.numbers;
}

abbrev pub decreases-loop-rest : goal.decreases-loop-rest
decreases-loop-rest l = length l.rest
