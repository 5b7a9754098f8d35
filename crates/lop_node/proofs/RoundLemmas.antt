-- What the rounds hand on.
use Rattle.std.proofs.Common.{◌≡◌, ℕ, List, [], ◌∷◌, ◌++◌, length, get_or, subst, arith}
use Rattle.std.specs.Prelude.{All}
use Rattle.std.specs.List.{AllWithin}
use Rattle.lop_cuts.specs.declared.kind.CutKind.{CutKind}
use Rattle.lop_cuts.specs.Kind.{FitsCut}
use Rattle.std.proofs.lemmas.List.Elements.{All-append, All-cons, All-nil}
use Rattle.lop_cuts.specs.CutList.{BoundedCuts}
use Rattle.lop_cuts.specs.Point.{PointValues}
use Rattle.lop_leaf.specs.Record.{ScaledTerms, FitTerms, no_terms}
use Rattle.lop_cuts.specs.Separation.{IsViolatedCut}

pub fit_none : (n : ℕ) (r : ScaledTerms) → r ≡ no_terms → FitTerms n r.terms
fit_none n r e = rw e (λ k d l. absurd (omega arith))

-- what was appended to an empty list is of cuts of the point's objects
pub fit_found : (n : ℕ) (p : PointValues) (cuts : List CutKind) (before : ℕ) → AllWithin (IsViolatedCut p) cuts before (length cuts) → before ≡ 0 → p.size ≡ n → All (FitsCut n) cuts
fit_found n p cuts before h none same = λ k d l. subst (λ m. FitsCut m (get_or cuts k d)) same (h k d (omega arith) l).fits

-- the same where only the cuts' fit is known
pub fit_appended : (n : ℕ) (cuts : List CutKind) (before : ℕ) → AllWithin (FitsCut n) cuts before (length cuts) → before ≡ 0 → All (FitsCut n) cuts
fit_appended n cuts before h none = λ k d l. h k d (omega arith) l

-- one more cut that fits
pub fit_one_more : (n : ℕ) (old new : BoundedCuts) (cut copy : CutKind) (room : ℕ) → new ≡ record { cuts = old.cuts ++ copy ∷ []; room = room } → copy ≡ cut → All (FitsCut n) old.cuts → FitsCut n cut → All (FitsCut n) new.cuts
fit_one_more n old new cut copy room e same all fits = rw (e, same) (All-append (FitsCut n) old.cuts (cut ∷ []) all (All-cons (FitsCut n) cut [] fits (All-nil (FitsCut n))))
