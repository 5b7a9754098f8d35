use Rattle.std.proofs.Common.{◌≡◌, ◌++◌, take, codes, decimal}
use Rattle.std.specs.List.{flat_map}
use Rattle.lop_gen.specs.Text.{row_line}
use Rattle.lop_gen.proofs.text.lolib_text.Given as goal

abbrev pub invariant-loop-row : goal.invariant-loop-row
invariant-loop-row l = l.text.items ≡ decimal l.weights.size ++ codes "\n" ++ flat_map row_line (take l.row l.weights.rows)
