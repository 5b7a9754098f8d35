use Rattle.std.proofs.Common.{◌+◌, ◌-◌, length, false}
use Rattle.lop_sep3.specs.Dicycles.{dicycles_over, violates}
use Rattle.lop_sep3.specs.Search.{IsAppended}
use Rattle.lop_sep3.proofs.SearchLemmas.{found_from}
use Rattle.lop_sep3.proofs.dicycles.search_seconds.Given as goal

abbrev pub invariant-loop-j : goal.invariant-loop-j
invariant-loop-j l = IsAppended (l.until - length l.fn.list.cuts) (found_from (violates l.point) (dicycles_over l.point.size l.i) (l.i + 1) l.j) l.fn.list l.list false
