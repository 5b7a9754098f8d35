use Rattle.std.proofs.Common.{◌≡◌, length}
use Rattle.lop_simplex.specs.Run.{IsReady}
use Rattle.lop_simplex.proofs.run.simplex.Given as goal

abbrev pub invariant-loop-count : goal.invariant-loop-count
invariant-loop-count l = record {
  ready : IsReady (length l.rows) l.basis;
  done : l.basis.done ≡ l.count;
  room : l.basis.room ≡ l.fn.basis.room;
}
