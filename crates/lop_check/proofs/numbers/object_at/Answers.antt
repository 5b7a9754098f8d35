use Rattle.std.proofs.Common.{◌≡◌, ℕ, ◌-◌, arith, rules, w64, FitsSigned, pos, nat_abs, get_or, ap, ◌∙◌, sym}
use Rattle.std.proofs.lemmas.Int.{to_z-of_z}
use Rattle.lop_check.proofs.Objects.{number_between, object_read}
use Rattle.lop_check.proofs.numbers.object_at.Goals as goal

pub overflow_sub-result : goal.overflow_sub-result
overflow_sub-result c =
    let x = get_or c.args.numbers.now c.args.place (pos 0) in
    let fits : FitsSigned w64 x = search rules in
    let read : c.unsigned_abs.result ≡ nat_abs x = c.unsigned_abs.ensures.value ∙ ap nat_abs (to_z-of_z w64 x fits) in
    let between = number_between c.args.n c.args.numbers.now c.requires.order c.args.place c.requires.within in
    omega (arith, between.0, between.1, read)

pub overflow_cast-result : goal.overflow_cast-result
overflow_cast-result c =
    let x = get_or c.args.numbers.now c.args.place (pos 0) in
    let fits : FitsSigned w64 x = search rules in
    let read : c.unsigned_abs.result ≡ nat_abs x = c.unsigned_abs.ensures.value ∙ ap nat_abs (to_z-of_z w64 x fits) in
    let between = number_between c.args.n c.args.numbers.now c.requires.order c.args.place c.requires.within in
    omega (arith, between.0, between.1, read)

pub returns-clause-object : goal.returns-clause-object
returns-clause-object c =
    let x = get_or c.args.numbers.now c.args.place (pos 0) in
    let fits : FitsSigned w64 x = search rules in
    let read : c.unsigned_abs.result ≡ nat_abs x = c.unsigned_abs.ensures.value ∙ ap nat_abs (to_z-of_z w64 x fits) in
    ap (λ (k : ℕ). k - 1) read ∙ sym (object_read c.args.n c.args.numbers.now c.requires.order c.args.place c.requires.within)

pub returns-clause-below : goal.returns-clause-below
returns-clause-below c =
    let x = get_or c.args.numbers.now c.args.place (pos 0) in
    let fits : FitsSigned w64 x = search rules in
    let read : c.unsigned_abs.result ≡ nat_abs x = c.unsigned_abs.ensures.value ∙ ap nat_abs (to_z-of_z w64 x fits) in
    let between = number_between c.args.n c.args.numbers.now c.requires.order c.args.place c.requires.within in
    omega (arith, between.0, between.1, read)
