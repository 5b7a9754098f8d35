use Rattle.std.proofs.Common.{◌≡◌, ◌≢◌, ◌<◌, ℕ, get_or}
use Rattle.std.specs.Prelude.{vec_capacity}
use Rattle.lop_core.proofs.scan.remove_out.Given as goal

abbrev pub invariant-loop-place : goal.invariant-loop-place
invariant-loop-place l = record {
  same : l.outs.items ≡ l.initial.outs.items;
  room : vec_capacity l.outs ≡ vec_capacity l.initial.outs;
  none : (k d : ℕ) → k < l.place → get_or l.outs.items k d ≢ l.node;
}
