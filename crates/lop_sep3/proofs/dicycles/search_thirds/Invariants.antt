use Rattle.std.proofs.Common.{◌+◌, ◌-◌, length, false}
use Rattle.lop_sep3.specs.Dicycles.{both_dicycles, violates}
use Rattle.lop_sep3.specs.Search.{IsAppended}
use Rattle.lop_sep3.proofs.SearchLemmas.{found_from}
use Rattle.lop_sep3.proofs.dicycles.search_thirds.Given as goal

abbrev pub invariant-loop-k : goal.invariant-loop-k
invariant-loop-k l = IsAppended (l.until - length l.fn.list.cuts) (found_from (violates l.point) (both_dicycles l.i l.j) (l.j + 1) l.k) l.fn.list l.list false
