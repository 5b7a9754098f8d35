use Rattle.std.proofs.Common.{ℕ, ◌<◌, ◌≢◌, slice_index}
use Rattle.lop_model.specs.OrderFault.{IsOrderBefore}
use Rattle.lop_model.proofs.order.Order.of_list.Given as goal

abbrev pub invariant-loop-p : goal.invariant-loop-p
invariant-loop-p l = IsOrderBefore l.n l.list.items l.p

abbrev pub invariant-loop-q : goal.invariant-loop-q
invariant-loop-q l = (k : ℕ) → k < l.q → slice_index l.list.items k ≢ l.object
