use Rattle.std.proofs.Common.{◌≡◌, ◌+◌, ◌≤◌, length}
use Rattle.std.specs.Prelude.{vec_capacity}
use Rattle.lop_certwrite.specs.CoreTree.{WholeTree}
use Rattle.lop_certwrite.specs.Names.{ArePlaces}
use Rattle.lop_certwrite.proofs.Walked.{IsFoundTo}
use Rattle.lop_certwrite.proofs.names.Names.find.Given as goal

abbrev pub invariant-loop : goal.invariant-loop
invariant-loop l = record {
  length : length l.self.places.items ≡ l.core.state.evaluated + 1;
  places_room : vec_capacity l.fn.self.places ≤ vec_capacity l.self.places;
  same_room : vec_capacity l.fn.self.users ≤ vec_capacity l.self.users;
  places : ArePlaces l.core.book.numbers l.self.users.items l.self.places.items;
  found : (whole : WholeTree l.core.state.nodes) → IsFoundTo l.core.state.nodes l.core.book.numbers whole.tree l.self.users.items l.counter l.node;
}
