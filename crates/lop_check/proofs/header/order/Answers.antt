use Rattle.std.proofs.Common.{◌≡◌, ◌+◌, cond, Bool, true, false, List, ℤ, sym, ◌∙◌, ap, rules, w64, FitsSigned}
use Rattle.std.proofs.lemmas.Int.{to_z-of_z}
use Rattle.lop_model.specs.Matrix.{weight}
use Rattle.lop_model.specs.Closing.{closed}
use Rattle.lop_certtext.specs.declared.reason.Reason.TheVariants as reason
use Rattle.lop_certtext.specs.CutLine.{objects_of}
use Rattle.lop_certtext.specs.Answer.{rejected, is_order, value_step}
use Rattle.lop_check.proofs.Walk.{exits, passes, fails}
use Rattle.lop_check.proofs.Steps.{order_next}
use Rattle.lop_check.proofs.header.order.Goals as goal

pub returns-in_err-expect-clause-stops : goal.returns-in_err-expect-clause-stops
returns-in_err-expect-clause-stops g c = exits _ _ _ c.from_residual.ensures.1 (λ version. (c.in_err-expect.ensures.stops (order_next c.args.weights.now version)))

pub returns-then-are_order-clause-goes : goal.returns-then-are_order-clause-goes
returns-then-are_order-clause-goes g c version =
    let C = c.args.weights.now in
    let ns = c.expect.new.self.numbers in
    let k = c.expect.new.self.number in
    let test : is_order C.size ns ≡ true = cc in
    let fits : FitsSigned w64 c.weight_of.result = search rules in
    let weighs : c.weight_of.result ≡ weight C (objects_of ns) = c.weight_of.ensures ∙ ap (λ (l : List ℤ). weight C (objects_of l)) c.numbers-then-are_order.ensures in
    passes _ _ _ _ _
    (λ lines. ap (λ (t : Bool). cond t (value_step closed C version (weight C (objects_of ns)) (k + 1) lines) (rejected k reason.OrderLine)) test
    ∙ ap (λ (found : ℤ). value_step closed C version found (k + 1) lines) (sym (to_z-of_z w64 c.weight_of.result fits ∙ weighs)))
    ((c.in_ok-expect.ensures.goes (order_next C version)))

pub returns-else-are_order-clause-stops : goal.returns-else-are_order-clause-stops
returns-else-are_order-clause-stops g c version =
    let C = c.args.weights.now in
    let ns = c.expect.new.self.numbers in
    let k = c.expect.new.self.number in
    let test : is_order C.size ns ≡ false = cc in
    fails _ _ _ _ _ k reason.OrderLine c.rejected.ensures (λ lines. ap (λ (t : Bool). cond t (value_step closed C version (weight C (objects_of ns)) (k + 1) lines) (rejected k reason.OrderLine)) test) ((c.in_ok-expect.ensures.goes (order_next C version)))
