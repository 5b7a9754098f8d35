use Rattle.std.proofs.Common.{◌+◌, ◌-◌, Bool, false, length, subst, arith, filter}
use Rattle.lop_sep3.specs.Dicycles.{both_dicycles, violates}
use Rattle.lop_sep3.specs.Search.{IsAppended}
use Rattle.lop_sep3.proofs.SearchLemmas.{search_next, search_stop}
use Rattle.lop_sep3.proofs.dicycles.search_thirds.Goals as goal

pub loop-k-preserved : goal.loop-k-preserved
loop-k-preserved c =
    let test = violates c.args.point.now in
    let mid = c.loop-k.list in
    let new = c.append_either.new.list in
    search_next test (both_dicycles c.args.i c.args.j) (c.args.j + 1) c.loop-k.k c.args.until c.args.list.now mid new false c.loop-k.auto.k c.requires.within c.loop-k.invariant
    (subst (λ (b : Bool). IsAppended (c.args.until - length mid.cuts) (filter test (both_dicycles c.args.i c.args.j c.loop-k.k)) mid new b) c.if-append_either.false c.append_either.ensures)

pub returns-then-append_either : goal.returns-then-append_either
returns-then-append_either c =
    let test = violates c.args.point.now in
    let mid = c.loop-k.list in
    let new = c.append_either.new.list in
    search_stop test (both_dicycles c.args.i c.args.j) (c.args.j + 1) c.loop-k.k c.args.point.now.size c.args.until c.args.list.now mid new c.loop-k.auto.k (omega (arith, c.n-n.ensures.size, c.loop-k-test.true)) c.requires.within c.loop-k.invariant
    (subst (λ (b : Bool). IsAppended (c.args.until - length mid.cuts) (filter test (both_dicycles c.args.i c.args.j c.loop-k.k)) mid new b) c.if-append_either.true c.append_either.ensures)
