use Rattle.std.proofs.Common.{[], ◌∷◌, Err, ap}
use Rattle.std.proofs.lemmas.Result.{err_from_is_err_and}
use Rattle.lop_cuts.proofs.FaultUniqueLemmas.{fault_unique, fault_excludes_right}
use Rattle.lop_cuts.proofs.cut.Cut.dicycle.Goals as goal

pub returns-in_err-check_objects-clause-exact : goal.returns-in_err-check_objects-clause-exact
returns-in_err-check_objects-clause-exact c =
    let p = err_from_is_err_and c.from_residual.result c.from_residual.ensures.1 in
    λ e h. rw (p.1, p.2) (ap (λ x. Err x) (fault_unique c.args.n (c.args.a ∷ c.args.b ∷ c.args.c ∷ []) _ e c.in_err-check_objects.ensures.err h))

pub returns-in_err-check_objects-clause-accepts : goal.returns-in_err-check_objects-clause-accepts
returns-in_err-check_objects-clause-accepts c = λ right fits.
    absurd (fault_excludes_right c.args.n (c.args.a ∷ c.args.b ∷ c.args.c ∷ []) _ c.in_err-check_objects.ensures.err record { in_range = fits; distinct = right.distinct })

pub returns-clause-exact : goal.returns-clause-exact
returns-clause-exact c = λ e h.
    absurd (fault_excludes_right c.args.n (c.args.a ∷ c.args.b ∷ c.args.c ∷ []) e h c.in_ok-check_objects.ensures.ok)
