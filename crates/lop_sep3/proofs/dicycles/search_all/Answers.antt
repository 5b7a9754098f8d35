use Rattle.std.proofs.Common.{◌-◌, Bool, false, length, subst, arith, filter}
use Rattle.lop_sep3.specs.Dicycles.{dicycles_from, violates}
use Rattle.lop_sep3.specs.Search.{IsAppended}
use Rattle.lop_sep3.proofs.SearchLemmas.{search_next, search_stop}
use Rattle.lop_sep3.proofs.dicycles.search_all.Goals as goal

pub loop-i-preserved : goal.loop-i-preserved
loop-i-preserved c =
    let test = violates c.args.point.now in
    let mid = c.loop-i.list in
    let new = c.search_seconds.new.list in
    search_next test (dicycles_from c.args.point.now.size) 0 c.loop-i.i c.args.until c.args.list.now mid new false (omega arith) c.requires.within c.loop-i.invariant
    (subst (λ (b : Bool). IsAppended (c.args.until - length mid.cuts) (filter test (dicycles_from c.args.point.now.size c.loop-i.i)) mid new b) c.if-search_seconds.false c.search_seconds.ensures)

pub returns-then-search_seconds : goal.returns-then-search_seconds
returns-then-search_seconds c =
    let test = violates c.args.point.now in
    let mid = c.loop-i.list in
    let new = c.search_seconds.new.list in
    search_stop test (dicycles_from c.args.point.now.size) 0 c.loop-i.i c.args.point.now.size c.args.until c.args.list.now mid new (omega arith) (omega (arith, c.n-n.ensures.size, c.loop-i-test.true)) c.requires.within c.loop-i.invariant
    (subst (λ (b : Bool). IsAppended (c.args.until - length mid.cuts) (filter test (dicycles_from c.args.point.now.size c.loop-i.i)) mid new b) c.if-search_seconds.true c.search_seconds.ensures)
