use Rattle.std.proofs.Common.{◌≡◌}
use Rattle.std.specs.Prelude.{All, vec_len}
use Rattle.lop_pool.specs.Workers.{ParcelFits}
use Rattle.lop_pool.proofs.worker.Worker.parcels.Given as goal

abbrev pub invariant-loop : goal.invariant-loop
invariant-loop g l = record {
  len : vec_len l.parcels ≡ l.counter;
  fits : All (ParcelFits l.n) l.parcels.items;
}
