use Rattle.std.proofs.Common.{rules, ◌<◌, ◌≤◌, length, sym}
use Rattle.lop_desk.proofs.Worlds.{written_none}
use Rattle.lop_certwrite.proofs.Walked.{write_starts, write_inside, write_children, write_used, write_goes, write_cut, write_ends}
use Rattle.lop_certwrite.proofs.tree.write_tree.Goals as goal

pub loop-init : goal.loop-init
loop-init g c = record {
  making = c.requires.making;
  later = search rules;
  walk = λ whole. write_starts c.args.core.now.state.nodes c.args.core.now.book.numbers c.args.names.now.users.items (g.D.Desk.told c.args.desk.now) whole (sym (written_none (g.D.Desk.told c.args.desk.now)));
}

pub write_node-requires-clause-inside : goal.write_node-requires-clause-inside
write_node-requires-clause-inside g c =
    let more : c.loop.counter < length c.args.core.now.state.nodes = search rules in
    write_inside c.args.core.now.state.nodes c.args.core.now.book.numbers c.args.names.now.users.items _ _ c.requires.whole.tree c.loop.counter c.loop.node (c.loop.invariant.walk c.requires.whole) more

pub write_node-requires-clause-children : goal.write_node-requires-clause-children
write_node-requires-clause-children g c =
    let more : c.loop.counter < length c.args.core.now.state.nodes = search rules in
    write_children c.args.core.now.state.nodes c.args.core.now.book.numbers c.args.names.now.users.items _ _ c.requires.whole.tree c.loop.counter c.loop.node (c.loop.invariant.walk c.requires.whole) more

pub write_node-requires-clause-places : goal.write_node-requires-clause-places
write_node-requires-clause-places g c = (c.requires.naming c.requires.whole).places_are

pub write_node-requires-clause-used : goal.write_node-requires-clause-used
write_node-requires-clause-used g c =
    let more : c.loop.counter < length c.args.core.now.state.nodes = search rules in
    write_used c.args.core.now.state.nodes c.args.core.now.book.numbers c.args.names.now.users.items _ _ c.requires.whole.tree c.loop.counter c.loop.node (c.loop.invariant.walk c.requires.whole) (c.requires.naming c.requires.whole).users_are more

pub returns-in_err-write_node-clause-effect : goal.returns-in_err-write_node-clause-effect
returns-in_err-write_node-clause-effect g c = λ whole.
    let more : c.loop.counter < length c.args.core.now.state.nodes = search rules in
    write_cut c.args.core.now.state.nodes c.args.core.now.book.numbers c.args.names.now.users.items _ _ whole.tree c.loop.counter c.loop.node (c.loop.invariant.walk whole) _ _ _ more c.from_residual.ensures.1 c.in_err-write_node.ensures.effect

pub next_node-node-requires-clause-inside : goal.next_node-node-requires-clause-inside
next_node-node-requires-clause-inside g c =
    let more : c.loop.counter < length c.args.core.now.state.nodes = search rules in
    write_inside c.args.core.now.state.nodes c.args.core.now.book.numbers c.args.names.now.users.items _ _ c.requires.whole.tree c.loop.counter c.loop.node (c.loop.invariant.walk c.requires.whole) more

pub loop-preserved : goal.loop-preserved
loop-preserved g c =
    let more : c.loop.counter < length c.args.core.now.state.nodes = search rules in
    record {
      making = search rules;
      later = search rules;
      walk = λ whole. write_goes c.args.core.now.state.nodes c.args.core.now.book.numbers c.args.names.now.users.items _ _ whole.tree c.loop.counter c.loop.node (c.loop.invariant.walk whole) _ c.next_node-node.result more c.in_ok-write_node.ensures.effect c.next_node-node.ensures;
    }

pub returns-clause-effect : goal.returns-clause-effect
returns-clause-effect g c = λ whole.
    let over : length c.args.core.now.state.nodes ≤ c.loop.counter = search rules in
    write_ends c.args.core.now.state.nodes c.args.core.now.book.numbers c.args.names.now.users.items _ _ whole.tree c.loop.counter c.loop.node (c.loop.invariant.walk whole) over
