use Rattle.std.proofs.Common.{rules, ◌<◌, ◌≤◌, ◌^◌, length, ℤ, FitsSigned, w64, sym, ◌∙◌, refl, subst}
use mir.Syntax.{w128}
use Rattle.std.specs.Prelude.{nat_abs}
use Rattle.std.proofs.lemmas.Int.{to_z-of_z}
use Rattle.lop_model.specs.Matrix.{IsWeights}
use Rattle.lop_core.specs.Machine.{state_bound}
use Rattle.lop_core.proofs.Linked.{core_linked}
use Rattle.lop_certwrite.proofs.Growth.{whole_tree}
use Rattle.lop_certwrite.proofs.TreeHolds.{best_fits, bound_fits, certificate_holds}
use Rattle.lop_certwrite.proofs.Pieces.{cut_in_order, cut_in_bound, all_written, written_holds}
use Rattle.lop_certwrite.proofs.writer.write_lines.Goals as goal

pub narrow-value-requires : goal.narrow-value-requires
narrow-value-requires g c =
    let read : FitsSigned w128 c.best.result = search rules in
    let weights : IsWeights c.args.core.now.problem.weights = subst IsWeights c.weights.ensures c.n-2.ensures.weights in
    subst (λ (z : ℤ). nat_abs z < 2 ^ 63) (sym (to_z-of_z w128 c.best.result read ∙ c.best.ensures.value)) (best_fits c.args.core.now c.best.ensures.history weights)

pub narrow-bound-requires : goal.narrow-bound-requires
narrow-bound-requires g c =
    let read : FitsSigned w128 c.bound.result = search rules in
    let weights : IsWeights c.args.core.now.problem.weights = subst IsWeights c.weights.ensures c.n-2.ensures.weights in
    subst (λ (z : ℤ). nat_abs z < 2 ^ 63) (sym (to_z-of_z w128 c.bound.result read ∙ c.bound.ensures.value)) (bound_fits c.args.core.now c.best.ensures.history weights)

pub write_order_lines-requires-clause-value : goal.write_order_lines-requires-clause-value
write_order_lines-requires-clause-value g c =
    let narrowed : FitsSigned w64 c.narrow-value.result = search rules in
    let read : FitsSigned w128 c.best.result = search rules in
    let weights : IsWeights c.args.core.now.problem.weights = subst IsWeights c.weights.ensures c.n-2.ensures.weights in
    subst (λ (z : ℤ). nat_abs z < 2 ^ 63) (sym (to_z-of_z w64 c.narrow-value.result narrowed ∙ (c.narrow-value.ensures ∙ (to_z-of_z w128 c.best.result read ∙ c.best.ensures.value)))) (best_fits c.args.core.now c.best.ensures.history weights)

pub write_bound_lines-requires-clause-bound : goal.write_bound_lines-requires-clause-bound
write_bound_lines-requires-clause-bound g c =
    let narrowed : FitsSigned w64 c.narrow-bound.result = search rules in
    let read : FitsSigned w128 c.bound.result = search rules in
    let weights : IsWeights c.args.core.now.problem.weights = subst IsWeights c.weights.ensures c.n-2.ensures.weights in
    subst (λ (z : ℤ). nat_abs z < 2 ^ 63) (sym (to_z-of_z w64 c.narrow-bound.result narrowed ∙ (c.narrow-bound.ensures ∙ (to_z-of_z w128 c.bound.result read ∙ c.bound.ensures.value)))) (bound_fits c.args.core.now c.best.ensures.history weights)

pub write_body-requires-clause-whole : goal.write_body-requires-clause-whole
write_body-requires-clause-whole g c = whole_tree c.args.core.now c.best.ensures.history

pub write_body-requires-clause-linked : goal.write_body-requires-clause-linked
write_body-requires-clause-linked g c = core_linked c.args.core.now c.best.ensures.history

pub returns-in_err-write_order_lines-clause-text : goal.returns-in_err-write_order_lines-clause-text
returns-in_err-write_order_lines-clause-text g c =
    let whole = whole_tree c.args.core.now c.best.ensures.history in
    let narrowed : FitsSigned w64 c.narrow-value.result = search rules in
    let narrowed_bound : FitsSigned w64 c.narrow-bound.result = search rules in
    let read : FitsSigned w128 c.best.result = search rules in
    let read_bound : FitsSigned w128 c.bound.result = search rules in
    let value = to_z-of_z w64 c.narrow-value.result narrowed ∙ (c.narrow-value.ensures ∙ (to_z-of_z w128 c.best.result read ∙ c.best.ensures.value)) in
    let bound = to_z-of_z w64 c.narrow-bound.result narrowed_bound ∙ (c.narrow-bound.ensures ∙ (to_z-of_z w128 c.bound.result read_bound ∙ c.bound.ensures.value)) in
    cut_in_order c.args.core.now whole _ _ (state_bound c.args.core.now.state) (length c.args.core.now.book.cuts) c.best_order-order.ensures.value value refl refl _ _ _ _ c.from_residual.ensures.1 c.in_err-write_order_lines.ensures.effect

pub returns-in_err-write_bound_lines-clause-text : goal.returns-in_err-write_bound_lines-clause-text
returns-in_err-write_bound_lines-clause-text g c =
    let whole = whole_tree c.args.core.now c.best.ensures.history in
    let narrowed : FitsSigned w64 c.narrow-value.result = search rules in
    let narrowed_bound : FitsSigned w64 c.narrow-bound.result = search rules in
    let read : FitsSigned w128 c.best.result = search rules in
    let read_bound : FitsSigned w128 c.bound.result = search rules in
    let value = to_z-of_z w64 c.narrow-value.result narrowed ∙ (c.narrow-value.ensures ∙ (to_z-of_z w128 c.best.result read ∙ c.best.ensures.value)) in
    let bound = to_z-of_z w64 c.narrow-bound.result narrowed_bound ∙ (c.narrow-bound.ensures ∙ (to_z-of_z w128 c.bound.result read_bound ∙ c.bound.ensures.value)) in
    cut_in_bound c.args.core.now whole _ _ _ _ c.best_order-order.ensures.value value bound c.cuts.ensures.value _ _ _ _ _ c.in_ok-write_order_lines.ensures.effect c.from_residual-in_err-write_bound_lines.ensures.1 c.in_err-write_bound_lines.ensures.effect

pub returns-clause-text : goal.returns-clause-text
returns-clause-text g c =
    let whole = whole_tree c.args.core.now c.best.ensures.history in
    let narrowed : FitsSigned w64 c.narrow-value.result = search rules in
    let narrowed_bound : FitsSigned w64 c.narrow-bound.result = search rules in
    let read : FitsSigned w128 c.best.result = search rules in
    let read_bound : FitsSigned w128 c.bound.result = search rules in
    let value = to_z-of_z w64 c.narrow-value.result narrowed ∙ (c.narrow-value.ensures ∙ (to_z-of_z w128 c.best.result read ∙ c.best.ensures.value)) in
    let bound = to_z-of_z w64 c.narrow-bound.result narrowed_bound ∙ (c.narrow-bound.ensures ∙ (to_z-of_z w128 c.bound.result read_bound ∙ c.bound.ensures.value)) in
    all_written c.args.core.now whole _ _ _ _ c.best_order-order.ensures.value value bound c.cuts.ensures.value _ _ _ _ _ c.in_ok-write_order_lines.ensures.effect c.in_ok-write_bound_lines.ensures.effect (c.write_body.ensures.effect whole)

pub returns-clause-holds : goal.returns-clause-holds
returns-clause-holds g c =
    let weights : IsWeights c.args.core.now.problem.weights = subst IsWeights c.weights.ensures c.n-2.ensures.weights in
    let few : length c.args.core.now.book.cuts ≤ 65536 = search rules in
    written_holds c.write_body.result (certificate_holds c.args.core.now c.best.ensures.history c.cuts.ensures.recorded c.cuts.ensures.book weights few) c.write_body.ensures.shaped
