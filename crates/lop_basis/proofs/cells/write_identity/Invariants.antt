use Rattle.std.proofs.Common.{◌≡◌, ℕ, ◌*◌, ◌<◌, ◌^◌, ◌&&◌, length, pos, if◌then◌else◌}
use Rattle.std.specs.Prelude.{◌==◌, nat_lt}
use Rattle.lop_basis.specs.Table.{cell}
use Rattle.lop_basis.proofs.cells.write_identity.Given as goal

abbrev pub invariant-loop-i : goal.invariant-loop-i
invariant-loop-i l =
    (length l.cells ≡ l.n * l.n)
    × ((a b : ℕ) → a < l.n → b < l.n → cell l.cells l.n a b ≡ (if a == b && nat_lt a l.i then pos (2 ^ 32) else pos 0))
