use Rattle.std.specs.Prelude.{◌≢◌, ℕ, ◌<◌, ◌≤◌, ◌^◌, List, [], length, All, AllPairs}
use Rattle.lop_cuts.specs.Kind.{IsCut, FitsCut}
use Rattle.lop_cuts.specs.Lagrangian.{Term}
use Rattle.lop_cuts.specs.declared.limits.TheConstants.{MAX_SCALE, MAX_TERMS}

-- the multipliers of a leaf's cuts, as contracts see them: a scale, and the cuts with their multipliers
pub record ScaledTerms : Type 0 where
  pub scale : ℕ
  pub terms : List Term

-- scale 1, and no term
abbrev pub no_terms : ScaledTerms
no_terms = record { scale = 1; terms = [] }

-- a multiplier is from 1 to 2^63 - 1
pub record IsMultiplier (m : ℕ) : Type 0 where
  pub positive : 1 ≤ m
  pub within_limit : m < 2 ^ 63

-- a scale from 1 to 65,536, and at most 4,096 terms of different cuts
pub record IsScaledTerms (r : ScaledTerms) : Type 0 where
  pub positive : 1 ≤ r.scale
  pub within_limit : r.scale ≤ MAX_SCALE
  pub bounded_count : length r.terms ≤ MAX_TERMS
  pub different : AllPairs (λ t u. t.cut ≢ u.cut) r.terms
  pub multipliers : All (λ t. IsMultiplier t.multiplier) r.terms
  pub cuts : All (λ t. IsCut t.cut) r.terms

-- the cuts of the terms are of objects below n
abbrev pub FitTerms : ℕ → List Term → Type 0
FitTerms n terms = All (λ t. FitsCut n t.cut) terms

-- the terms are of cuts of objects below n
pub record HasCutsBelow (n : ℕ) (terms : List Term) : Type 0 where
  pub cuts : All (λ t. IsCut t.cut) terms
  pub fit : FitTerms n terms
