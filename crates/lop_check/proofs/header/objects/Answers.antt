use Rattle.std.proofs.Common.{◌≡◌, ◌≢◌, ◌+◌, cond, Bool, nat_abs, sym, ◌∙◌, ap, rules, eq-eqb, w64, FitsSigned}
use Rattle.std.proofs.lemmas.Int.{to_z-of_z}
use Rattle.lop_model.specs.Closing.{closed}
use Rattle.lop_certtext.specs.declared.reason.Reason.TheVariants as reason
use Rattle.lop_certtext.specs.Answer.{rejected, only_number, order_step}
use Rattle.lop_check.proofs.Walk.{exits, passes, fails, not_eqb}
use Rattle.lop_check.proofs.Steps.{objects_next}
use Rattle.lop_check.proofs.header.objects.Goals as goal

pub returns-in_err-expect-clause-stops : goal.returns-in_err-expect-clause-stops
returns-in_err-expect-clause-stops g c = exits _ _ _ c.from_residual.ensures.1 (λ version. (c.in_err-expect.ensures.stops (objects_next c.args.weights.now version)))

pub returns-then-unsigned_abs-from-clause-goes : goal.returns-then-unsigned_abs-from-clause-goes
returns-then-unsigned_abs-from-clause-goes g c version =
    let C = c.args.weights.now in
    let ns = c.expect.new.self.numbers in
    let k = c.expect.new.self.number in
    let number_fits : FitsSigned w64 c.only_number.result = search rules in
    let read : c.unsigned_abs.result ≡ nat_abs (only_number ns) = c.unsigned_abs.ensures.value ∙ ap nat_abs (to_z-of_z w64 c.only_number.result number_fits ∙ c.only_number.ensures) in
    let test : nat_abs (only_number ns) ≡ C.size = sym read ∙ c.if-unsigned_abs-from.true ∙ c.from.ensures ∙ c.n.ensures.size in
    passes _ _ _ _ _ (λ lines. ap (λ (t : Bool). cond t (order_step closed C version (k + 1) lines) (rejected k reason.Size)) (eq-eqb _ _ test)) ((c.in_ok-expect.ensures.goes (objects_next C version)))

pub returns-else-unsigned_abs-from-clause-stops : goal.returns-else-unsigned_abs-from-clause-stops
returns-else-unsigned_abs-from-clause-stops g c version =
    let C = c.args.weights.now in
    let ns = c.expect.new.self.numbers in
    let k = c.expect.new.self.number in
    let number_fits : FitsSigned w64 c.only_number.result = search rules in
    let read : c.unsigned_abs.result ≡ nat_abs (only_number ns) = c.unsigned_abs.ensures.value ∙ ap nat_abs (to_z-of_z w64 c.only_number.result number_fits ∙ c.only_number.ensures) in
    let test : nat_abs (only_number ns) ≢ C.size = λ e. c.if-unsigned_abs-from.false (read ∙ e ∙ sym (c.from.ensures ∙ c.n.ensures.size)) in
    fails _ _ _ _ _ k reason.Size c.rejected.ensures (λ lines. ap (λ (t : Bool). cond t (order_step closed C version (k + 1) lines) (rejected k reason.Size)) (not_eqb _ _ test)) ((c.in_ok-expect.ensures.goes (objects_next C version)))
