use Rattle.std.proofs.Common.{arith, ◌≡◌, ◌≤◌, ℕ, length, subst, vec_len}
use Rattle.lop_ascent.specs.Places.{HasCells}
use Rattle.lop_ascent.proofs.PlaceLemmas.{cells_for_fewer}
use Rattle.lop_ascent.proofs.room.AscentRoom.load.Goals as goal

pub load_variables-mean-requires-clause-cells : goal.load_variables-mean-requires-clause-cells
load_variables-mean-requires-clause-cells c =
    let e : vec_len c.self.inside.variables ≡ length c.deref_mut.result.now = omega (arith, c.deref_mut.ensures.len) in
    let l : c.min-n.result ≤ c.self.inside.size = omega (arith, c.min-n.ensures) in
    subst (λ (k : ℕ). HasCells c.min-n.result k) e (cells_for_fewer c.min-n.result c.self.inside.size (vec_len c.self.inside.variables) l c.self.invariant.0.enough)
