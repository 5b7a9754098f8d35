-- What packing keeps of each pair: a signed margin, which way it leans and by how much.
use Rattle.std.specs.Prelude.{◌≡◌, ◌≢◌, ◌⊎◌, ℕ, ◌+◌, ◌-◌, ◌*◌, ◌<◌, ◌≤◌, ◌^◌, ◌==◌, nat_lt, List, [], ◌∷◌, length, slice_index_or, All, Option, Some, None, ℤ, pos, neg_ℤ, if◌then◌else◌}
use Rattle.lop_model.specs.declared.pair.Pair.{Pair}
use Rattle.lop_model.specs.Matrix.{Matrix, entry}
use Rattle.lop_model.specs.Fixings.{has_pair}
use Rattle.lop_cuts.specs.declared.kind.CutKind.{CutKind}
use Rattle.lop_cuts.specs.declared.kind.CutKind.TheVariants.{Dicycle}
use Rattle.lop_cuts.specs.Lagrangian.{Term, reduced_entry}
use Rattle.lop_cuts.specs.declared.limits.TheConstants.{MAX_TERMS}
use Rattle.lop_leaf.specs.Record.{ScaledTerms, FitTerms}
use Rattle.lop_leaf.specs.Packing.{positive_part, residual, AreThree}

-- what an order gains at a pair by one way, as rows of bounds have it: the entry, and -2^63 for the way that the pair's fixing leaves out
abbrev pub way : Matrix → List Pair → ℕ → ℕ → ℤ
way C G a b = if has_pair G b a then neg_ℤ (pos (2 ^ 63)) else entry C a b

-- the margin of the arc from a to b in a table of n rows of n margins, of which those above the diagonal count: what stands there, or for an arc below the diagonal that of its reverse turned round
abbrev pub signed : List ℤ → ℕ → ℕ → ℕ → ℤ
signed t n a b = if nat_lt a b then slice_index_or t (a * n + b) (pos 0) else neg_ℤ (slice_index_or t (b * n + a) (pos 0))

-- what the arc from a to b can lose by the table
abbrev pub slack : List ℤ → ℕ → ℕ → ℕ → ℕ
slack t n a b = positive_part (signed t n a b)

-- a residual as a margin shows it: 2^63 - 1 stands for one without limit
abbrev pub IsResidualWord : Option ℕ → ℕ → Type 0
IsResidualWord None x = x ≡ 2 ^ 63 - 1
IsResidualWord (Some m) x = (x ≡ m) × (m < 2 ^ 62)

-- the margin shows the residuals of both ways of a pair before the first step
pub record IsMargin (C : Matrix) (G : List Pair) (i j : ℕ) (v : ℤ) : Type 0 where
  pub forth : IsResidualWord (residual G (reduced_entry C 1 []) i j) (positive_part v)
  pub back : IsResidualWord (residual G (reduced_entry C 1 []) j i) (positive_part (neg_ℤ v))

-- the table has the residuals of all arcs, by the reduced entries at scale 1
pub record HasResiduals (C : Matrix) (G : List Pair) (terms : List Term) (t : List ℤ) : Type 0 where
  pub square : length t ≡ C.size * C.size
  pub each : (a b : ℕ) → a < C.size → b < C.size → a ≢ b → IsResidualWord (residual G (reduced_entry C 1 terms) a b) (slack t C.size a b)

-- a margin of either way is below 2^63
pub record AreBounded (n : ℕ) (t : List ℤ) : Type 0 where
  pub each : (a b : ℕ) → a < n → b < n → a ≢ b → slack t n a b < 2 ^ 63

-- a residual word less m, where it has a limit
abbrev pub lowered : ℕ → ℕ → ℕ
lowered x m = if x == 2 ^ 63 - 1 then x else x - m

-- an arc of the cycle a, b, c has no residual left
abbrev pub IsSpentCycle : ℕ → List ℤ → ℕ → ℕ → ℕ → Type 0
IsSpentCycle n t a b c = (slack t n a b ≡ 0) ⊎ (slack t n b c ≡ 0) ⊎ (slack t n c a ≡ 0)

-- the cut is a dicycle of which an arc has no residual left
pub record IsSpent (n : ℕ) (t : List ℤ) (cut : CutKind) : Type 0 where
  pub a : ℕ
  pub b : ℕ
  pub c : ℕ
  pub is : cut ≡ Dicycle (a ∷ b ∷ c ∷ [])
  pub three : AreThree n a b c
  pub none_left : IsSpentCycle n t a b c

-- what stands between two steps of packing: the residuals, and terms at scale 1 whose cycles have no residual left
pub record IsPacking (C : Matrix) (G : List Pair) (r : ScaledTerms) (t : List ℤ) : Type 0 where
  pub scale : r.scale ≡ 1
  pub fit : FitTerms C.size r.terms
  pub residuals : HasResiduals C G r.terms t
  pub spent : All (λ u. IsSpent C.size t u.cut) r.terms

-- the cycle a, b, c has had its turn: the record is full, or an arc of the cycle has no residual left
abbrev pub IsPassed : ℕ → ScaledTerms → List ℤ → ℕ → ℕ → ℕ → Type 0
IsPassed n r t a b c = (MAX_TERMS ≤ length r.terms) ⊎ IsSpentCycle n t a b c

-- both cycles of three objects have had their turn
abbrev pub ArePassed : ℕ → ScaledTerms → List ℤ → ℕ → ℕ → ℕ → Type 0
ArePassed n r t i j k = IsPassed n r t i j k × IsPassed n r t i k j

-- no cycle over i and j can take anything: the record is full, or neither arc between them has a residual left
abbrev pub IsPassedPair : ℕ → ScaledTerms → List ℤ → ℕ → ℕ → Type 0
IsPassedPair n r t i j = (MAX_TERMS ≤ length r.terms) ⊎ ((slack t n i j ≡ 0) × (slack t n j i ≡ 0))

-- the record s and the table u come after r and t: there are no fewer terms, and a residual that was 0 is 0 still
pub record IsLater (n : ℕ) (r : ScaledTerms) (t : List ℤ) (s : ScaledTerms) (u : List ℤ) : Type 0 where
  pub terms : length r.terms ≤ length s.terms
  pub none_left : (x y : ℕ) → x < n → y < n → slack t n x y ≡ 0 → slack u n x y ≡ 0
