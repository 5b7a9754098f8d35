use Rattle.std.proofs.Common.{◌+◌, ◌-◌, Bool, false, length, subst, arith, filter}
use Rattle.lop_sep3.specs.Dicycles.{dicycles_over, violates}
use Rattle.lop_sep3.specs.Search.{IsAppended}
use Rattle.lop_sep3.proofs.SearchLemmas.{search_next, search_stop}
use Rattle.lop_sep3.proofs.dicycles.search_seconds.Goals as goal

pub loop-j-preserved : goal.loop-j-preserved
loop-j-preserved c =
    let test = violates c.args.point.now in
    let mid = c.loop-j.list in
    let new = c.search_thirds.new.list in
    search_next test (dicycles_over c.args.point.now.size c.args.i) (c.args.i + 1) c.loop-j.j c.args.until c.args.list.now mid new false c.loop-j.auto.j c.requires.within c.loop-j.invariant
    (subst (λ (b : Bool). IsAppended (c.args.until - length mid.cuts) (filter test (dicycles_over c.args.point.now.size c.args.i c.loop-j.j)) mid new b) c.if-search_thirds.false c.search_thirds.ensures)

pub returns-then-search_thirds : goal.returns-then-search_thirds
returns-then-search_thirds c =
    let test = violates c.args.point.now in
    let mid = c.loop-j.list in
    let new = c.search_thirds.new.list in
    search_stop test (dicycles_over c.args.point.now.size c.args.i) (c.args.i + 1) c.loop-j.j c.args.point.now.size c.args.until c.args.list.now mid new c.loop-j.auto.j (omega (arith, c.n-n.ensures.size, c.loop-j-test.true)) c.requires.within c.loop-j.invariant
    (subst (λ (b : Bool). IsAppended (c.args.until - length mid.cuts) (filter test (dicycles_over c.args.point.now.size c.args.i c.loop-j.j)) mid new b) c.if-search_thirds.true c.search_thirds.ensures)
