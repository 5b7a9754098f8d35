use Rattle.std.proofs.Common.{◌≡◌, ◌≤◌, ◌+◌, ◌++◌, take, List}
use Rattle.arrayvec.specs.ArrayVec.{array_vec_len}
use Rattle.lop_model.specs.declared.pair.Pair.{Pair}
use Rattle.lop_cuts.specs.Arcs.{distinct_arcs}
use Rattle.lop_cuts.proofs.arcs.push_new.Given as goal

abbrev pub invariant-loop-arc : goal.invariant-loop-arc
invariant-loop-arc l = record {
  distinct : (seen : List Pair) → l.initial.arcs.items ≡ distinct_arcs seen → l.arcs.items ≡ distinct_arcs (seen ++ take l.arc-index l.more);
  len : array_vec_len l.arcs ≤ array_vec_len l.initial.arcs + l.arc-index;
}
