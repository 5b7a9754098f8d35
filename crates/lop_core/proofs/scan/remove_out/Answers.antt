use Rattle.std.proofs.Common.{◌≡◌, length, ap, arith, rules, tests}
use Rattle.lop_core.proofs.OutLemmas.{removed_one}
use Rattle.lop_core.proofs.scan.remove_out.Goals as goal

pub returns-then-index-node-clause-moved : goal.returns-then-index-node-clause-moved
returns-then-index-node-clause-moved c =
    let same : c.index.result.now ≡ c.args.node = search (rules, tests) in
    removed_one c.args.outs.now.items c.loop-place.outs.items c.swap_remove-node.new.self.items c.loop-place.place c.args.node c.index.result.now c.swap_remove-node.result c.loop-place.invariant.same
    (omega (arith, c.loop-place-test.true, c.len-place-end.ensures, ap length c.loop-place.invariant.same, c.args.outs.now.ok.0)) same c.index.ensures c.swap_remove-node.ensures.value c.swap_remove-node.ensures.items
