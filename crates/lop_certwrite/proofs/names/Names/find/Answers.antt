use Rattle.std.proofs.Common.{rules, ◌<◌, ◌≤◌, length, List, ℕ, sym, subst}
use Rattle.lop_certwrite.specs.Names.{ArePlaces}
use Rattle.lop_certwrite.proofs.Users.{places_start}
use Rattle.lop_certwrite.proofs.Walked.{find_starts, find_inside, find_goes, find_ends}
use Rattle.lop_certwrite.proofs.names.Names.find.Goals as goal

pub loop-init : goal.loop-init
loop-init c = record {
  length = search rules;
  places_room = search rules;
  same_room = search rules;
  places = subst (λ (us : List ℕ). ArePlaces c.args.core.now.book.numbers us c.clear.new.self.places.items) (sym c.clear.ensures.users) (places_start c.args.core.now.book.numbers c.clear.new.self.places.items c.clear.ensures.places);
  found = λ whole. find_starts c.args.core.now.state.nodes c.args.core.now.book.numbers c.clear.new.self.users.items whole c.clear.ensures.users;
}

pub meet-requires-clause-inside : goal.meet-requires-clause-inside
meet-requires-clause-inside c =
    let more : c.loop.counter < length c.args.core.now.state.nodes = search rules in
    find_inside c.args.core.now.state.nodes c.args.core.now.book.numbers c.requires.whole.tree c.loop.self.users.items c.loop.counter c.loop.node (c.loop.invariant.found c.requires.whole) more

pub next_node-node-requires-clause-inside : goal.next_node-node-requires-clause-inside
next_node-node-requires-clause-inside c =
    let more : c.loop.counter < length c.args.core.now.state.nodes = search rules in
    find_inside c.args.core.now.state.nodes c.args.core.now.book.numbers c.requires.whole.tree c.loop.self.users.items c.loop.counter c.loop.node (c.loop.invariant.found c.requires.whole) more

pub loop-preserved : goal.loop-preserved
loop-preserved c =
    let more : c.loop.counter < length c.args.core.now.state.nodes = search rules in
    record {
      length = search rules;
      places_room = search rules;
      same_room = search rules;
      places = c.meet.ensures.places;
      found = λ whole. find_goes c.args.core.now.state.nodes c.args.core.now.book.numbers whole.tree c.loop.self.users.items c.loop.counter c.loop.node (c.loop.invariant.found whole) c.meet.new.self.users.items c.next_node-node.result more c.meet.ensures.users c.next_node-node.ensures;
    }

pub returns-clause-naming : goal.returns-clause-naming
returns-clause-naming c = λ whole.
    let over : length c.args.core.now.state.nodes ≤ c.loop.counter = search rules in
    record {
      users_are = find_ends c.args.core.now.state.nodes c.args.core.now.book.numbers whole.tree c.loop.self.users.items c.loop.counter c.loop.node (c.loop.invariant.found whole) over;
      places_are = c.loop.invariant.places;
    }
