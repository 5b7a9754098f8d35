use Rattle.std.proofs.Common.{◌-◌, length, false}
use Rattle.lop_sep3.specs.Dicycles.{dicycles_from, violates}
use Rattle.lop_sep3.specs.Search.{IsAppended}
use Rattle.lop_sep3.proofs.SearchLemmas.{found_from}
use Rattle.lop_sep3.proofs.dicycles.search_all.Given as goal

abbrev pub invariant-loop-i : goal.invariant-loop-i
invariant-loop-i l = IsAppended (l.until - length l.fn.list.cuts) (found_from (violates l.point) (dicycles_from l.point.size) 0 l.i) l.fn.list l.list false
