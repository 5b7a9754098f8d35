use Rattle.std.proofs.Common.{◌≡◌, ◌∙◌, length, ap, sym, nat_abs, w64, FitsSigned}
use Rattle.std.proofs.lemmas.Bool.{false≢true}
use Rattle.std.proofs.lemmas.Int.{to_z-of_z}
use Rattle.lop_check.proofs.CutLines.{ladder_made, no_ladder}
use Rattle.lop_check.proofs.cut.ladder_of.Goals as goal

pub returns-in_err-cycles-clause-cut : goal.returns-in_err-cycles-clause-cut
returns-in_err-cycles-clause-cut c = rw c.from_residual.ensures (c.in_err-cycles.ensures (nat_abs c.args.count))

pub returns-in-Ok-clause-cut : goal.returns-in-Ok-clause-cut
returns-in-Ok-clause-cut c =
    let fits : FitsSigned w64 c.args.count = c.ranges.count in
    let k = nat_abs c.args.count in
    let size : k ≡ length c.in_ok-cycles.cycles.items = ap nat_abs (sym (to_z-of_z w64 c.args.count fits)) ∙ sym c.unsigned_abs.ensures.value ∙ c.if-unsigned_abs-len.false ∙ c.len.ensures.value in
    ladder_made c.args.n k c.args.numbers.now c.in_ok-cycles.cycles.items c.as_slice.result.now c.in-Ok.cut c.in_ok-cycles.ensures c.as_slice.ensures.value size c.in-Ok.ensures.ok c.in-Ok.ensures.cut

pub returns-in-Err-clause-cut : goal.returns-in-Err-clause-cut
returns-in-Err-clause-cut c =
    no_ladder c.args.n (nat_abs c.args.count) c.args.numbers.now c.in_ok-cycles.cycles.items c.as_slice.result.now c.in_ok-cycles.ensures c.as_slice.ensures.value (λ right fits. false≢true (c.in-Err.ensures.accepts right fits))
