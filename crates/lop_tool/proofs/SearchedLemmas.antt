-- What the core of a finished search says of its weights.
use Rattle.std.proofs.Common.{◌≡◌, ℕ, [], ◌≤◌, List, ℤ, ◌≤ℤ◌, inl, inr, refl, sym, subst, arith}
use Rattle.std.proofs.lemmas.Int.{ints}
use Rattle.lop_model.proofs.MatrixLemmas.{weight_within}
use Rattle.lop_core.specs.Tree.{out_count}
use Rattle.lop_core.proofs.DoneNodes.{closed_within}
use Rattle.lop_core.proofs.NodeCount.{core_nodes_factorial}
use Rattle.lop_core.proofs.Alone.{core_outcome, spent_above, bound_closed}
use Rattle.lop_core.proofs.CoreLemmas.{core_bound}
use Rattle.lop_core.proofs.Monotone.{core_from_start, core_packed, core_packed_closed}
use Rattle.lop_report.specs.declared.decimal.TheConstants.{MAX_DECIMALS}
use Rattle.lop_report.proofs.TotalLemmas.{within_limit}
use Rattle.lop_tool.specs.Names.{Matrix, IsWeights, weight, packing_bound, Problem, state_bound, CoreFields, HasHistory}
use Rattle.lop_tool.specs.Names.{prepared, IsFinished, IsBeckerOrder, IsClimbedFrom, Solution}
use Rattle.lop_tool.specs.{Input.IsOfSize, Search.found_of, Search.IsClimbed, Search.IsSearched, Search.IsPrepared}
use Rattle.lop_tool.specs.{Search.IsSearchOf, Solve.IsPrintable}

-- a climb that leads to a value leads to a greater one
climbed_on : (C : Matrix) (v w : ℤ) → v ≤ℤ w → IsClimbed C v → IsClimbed C w
climbed_on C v w more c = record { start = c.start; is_start = c.is_start; order = c.order; climb = c.climb; least = let old = c.least in omega (arith, ints, old, more) }

-- what a climb from the Becker order reached
pub climbed_from : (C : Matrix) (start order : List ℕ) → IsBeckerOrder C start → IsClimbedFrom C start order → IsClimbed C (weight C order)
climbed_from C start order becker climb = record { start = start; is_start = becker; order = order; climb = climb; least = grind (arith, ints) }

of_core : (core : CoreFields) → IsPrepared core.problem → HasHistory core → IsFinished core.problem core.state → state_bound core.state ≤ℤ packing_bound core.problem.weights [] → IsSearched core.problem.weights core.problem.budget (found_of core)
of_core core p h f packed = record {
  weights = p.weights;
  outcome = core_outcome core h f;
  order = h.is_order;
  value_is = sym h.weighs;
  bounds = record { each = core_bound core h };
  spent = spent_above core.problem core.state f;
  closed = λ enough. sym (bound_closed core.state (closed_within core h f (omega (arith, core_nodes_factorial core h, enough))));
  from_start = λ t start. let rises = core_from_start core h in let least = p.from_start t start in omega (arith, ints);
  climbed = climbed_on core.problem.weights core.problem.start core.state.best (core_from_start core h) p.climbed;
  packed = packed;
}

-- a finished search was packed: a node was evaluated, or none was live
finished_packed : (core : CoreFields) → 1 ≤ core.problem.budget → HasHistory core → IsFinished core.problem core.state → state_bound core.state ≤ℤ packing_bound core.problem.weights []
finished_packed core positive h f = elim f.closed_or_spent [ inl closed ↦ core_packed_closed core h (bound_closed core.state closed) | inr spent ↦ core_packed core h (omega (arith, positive)) ]

of_prepared : (core : CoreFields) → IsPrepared core.problem → HasHistory core → IsFinished core.problem core.state → IsSearchOf core.problem.weights core.problem.budget (found_of core) core
of_prepared core p h f = record {
  found_is = refl;
  weights_are = refl;
  budget_is = refl;
  history = h;
  finished = f;
  searched = of_core core p h f (finished_packed core p.positive h f);
}

-- a core that was just made, with an order that weighs at least as much as the start order
pub IsPrepared-made : (C : Matrix) (s : List ℕ) (budget : ℕ) (core : CoreFields) → core ≡ prepared (record { weights = C; start = weight C s; budget = budget }) s → 1 ≤ budget → IsWeights C → ((t : List ℕ) → IsBeckerOrder C t → weight C t ≤ℤ weight C s) → IsClimbed C (weight C s)
    → IsPrepared core.problem × (out_count core.state.nodes ≡ 0) × (core.state.evaluated ≡ 0)
IsPrepared-made C s budget core is positive weights from_start climbed =
    let problem : Problem = record { weights = C; start = weight C s; budget = budget } in
    subst (λ (x : CoreFields). IsPrepared x.problem × (out_count x.state.nodes ≡ 0) × (x.state.evaluated ≡ 0)) (sym is) (record { positive = positive; weights = weights; from_start = from_start; climbed = climbed }, refl, refl)

-- a search from a prepared core to its end
pub solved_from : (old core : CoreFields) → core.problem ≡ old.problem → IsPrepared old.problem → HasHistory core → IsFinished core.problem core.state → IsSearchOf old.problem.weights old.problem.budget (found_of core) core
solved_from old core same p h f = subst (λ (q : Problem). IsSearchOf q.weights q.budget (found_of core) core) same (of_prepared core (subst IsPrepared (sym same) p) h f)

-- its answer can be printed
IsPrintable-solved : (budget : ℕ) (x : Solution) → IsSearchOf x.input.weights budget (found_of x.core) x.core → IsOfSize x.input.weights.size x.input.profile → x.input.decimals ≤ MAX_DECIMALS → IsPrintable x
IsPrintable-solved budget x s of_size decimals =
    let weighs = weight_within x.input.weights x.core.order s.searched.order in
    let most = s.searched.weights.bounded_sum in
    let best : x.core.state.best ≡ weight x.input.weights x.core.order = s.searched.value_is in record {
      same_n = s.searched.order.complete;
      value = within_limit x.core.state.best (omega (arith, ints, best, weighs.0, most)) (omega (arith, ints, best, weighs.1, most));
      of_size = of_size;
      decimals = decimals;
    }

-- the same, where the search is of the same weights
pub IsPrintable-found : (C : Matrix) (budget : ℕ) (x : Solution) → C ≡ x.input.weights → IsSearchOf C budget (found_of x.core) x.core → IsOfSize x.input.weights.size x.input.profile → x.input.decimals ≤ MAX_DECIMALS → IsPrintable x
IsPrintable-found C budget x same s of_size decimals = IsPrintable-solved budget x (subst (λ (D : Matrix). IsSearchOf D budget (found_of x.core) x.core) same s) of_size decimals
