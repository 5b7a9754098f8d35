use Rattle.std.proofs.Common.{◌≡◌, ℕ, ◌<◌, ◌≤◌}
use Rattle.std.specs.Prelude.{slice_index_or}
use Rattle.lop_leaf.specs.Sound.{IsSoundTicket}
use Rattle.lop_pool.specs.declared.parcel.Parcel.{Parcel}
use Rattle.lop_pool.specs.Holding.{AreJudgedParcels, IsLike}
use Rattle.lop_pool.specs.Workers.{WorkerFits, IsPassFor}
use Rattle.lop_pool.proofs.round.judge_tickets.Given as goal

abbrev pub invariant-loop-k : goal.invariant-loop-k
invariant-loop-k g l = record {
  fits : WorkerFits g.J.Judge.objects l.fn.weights.size l.worker;
  pass : IsPassFor l.fn.turn l.fn.about.value.problem l.fn.number l.pass;
  mine : l.pass.view.mine ≡ l.fn.pass.view.mine;
  like : (k : ℕ) (d : Parcel) → k < l.count → IsLike (slice_index_or l.fn.worker.parcels.items k d).ticket (slice_index_or l.worker.parcels.items k d).ticket;
  sound : (k : ℕ) (d : Parcel) → l.k ≤ k → k < l.count → IsSoundTicket l.fn.weights (slice_index_or l.worker.parcels.items k d).ticket;
  results : AreJudgedParcels g.J.Judge.judged l.fn.weights l.worker.parcels.items l.k;
}
