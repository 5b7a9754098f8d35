use Rattle.std.proofs.Common.{◌≡◌, ◌≤◌, [], length, All, vec_capacity}
use Rattle.lop_certwrite.proofs.names.Names.clear.Given as goal

abbrev pub invariant-loop : goal.invariant-loop
invariant-loop l = record {
  counted : length l.self.places.items ≡ l.counter;
  zeros : All (λ place. place ≡ 0) l.self.places.items;
  none : l.self.users.items ≡ [];
  places_room : vec_capacity l.fn.self.places ≤ vec_capacity l.self.places;
  same_room : vec_capacity l.fn.self.users ≤ vec_capacity l.self.users;
}
