use Rattle.std.proofs.Common.{◌≡◌, ◌+◌, Ok, Err, Result, refl, sym, subst, arith}
use Rattle.std.proofs.lemmas.Result.{err_from_is_err_and}
use Rattle.std.specs.Result.{IfOk, IfErr}
use Rattle.lop_preflib.specs.Reading.{preflib_reading}
use Rattle.lop_preflib.specs.Gathered.{finished}
use Rattle.lop_preflib.specs.Profile.{ProfileFields}
use Rattle.lop_preflib.specs.declared.refusal.PrefRefusal.{PrefRefusal}
use Rattle.lop_preflib.proofs.TextLemmas.{lines_of-le}
use Rattle.lop_preflib.proofs.ReadingLemmas.{more, are_gathered-more, IsRefusal-line, reading_finished, IfErr-reading}
use Rattle.lop_preflib.proofs.preflib.read_preflib.Goals as goal

pub overflow_add-number : goal.overflow_add-number
overflow_add-number c =
    let low = more _ _ _ c.loop-line.number c.loop-line.gathered c.in-Some.line.now c.loop-line.invariant c.in-Some.ensures.steps in
    omega (arith, low, lines_of-le c.args.bytes.now)

pub loop-line-preserved : goal.loop-line-preserved
loop-line-preserved c =
    are_gathered-more _ _ _ c.loop-line.number c.loop-line.gathered c.in-Some.line.now c.loop-line.invariant c.in-Some.ensures.steps c.add.new.self (c.loop-line.number + 1) refl c.in_ok-add.ensures.gathered c.in_ok-add.ensures.size

pub returns-in_err-add-clause-refusal : goal.returns-in_err-add-clause-refusal
returns-in_err-add-clause-refusal c =
    let p = err_from_is_err_and c.from_residual.result c.from_residual.ensures.1 in
    rw (p.1, p.2) (IsRefusal-line _ _ _ c.loop-line.number c.loop-line.gathered c.in-Some.line.now c.loop-line.invariant c.in-Some.ensures.steps c.in_err-add.field-0.0 c.in_err-add.ensures.refusal)

reading : (c : goal.After-finish) → preflib_reading c.args.bytes.now ≡ finished c.loop-line.gathered.size c.loop-line.number c.loop-line.gathered.names c.loop-line.gathered.orders
reading c = reading_finished _ _ c.loop-line.number c.loop-line.gathered c.loop-line.invariant c.in-None.ensures.steps.0

pub returns-clause-profile : goal.returns-clause-profile
returns-clause-profile c =
    subst (λ (r : Result ProfileFields PrefRefusal). IfOk c.finish.result (λ profile. r ≡ Ok profile)) (sym (reading c)) c.finish.ensures.profile

pub returns-clause-refusal : goal.returns-clause-refusal
returns-clause-refusal c =
    IfErr-reading (preflib_reading c.args.bytes.now) c.finish.result (subst (λ (r : Result ProfileFields PrefRefusal). IfErr c.finish.result (λ refusal. r ≡ Err refusal)) (sym (reading c)) c.finish.ensures.refusal)
