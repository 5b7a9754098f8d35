-- The packing bound: 3-dicycles with multipliers, taken greedily in lexicographic order. It is a list of steps, and a yardstick.
use Rattle.std.specs.Prelude.{◌≡◌, ◌≢◌, ◌⊎◌, ℕ, zero, suc, ◌+◌, ◌-◌, List, [], ◌∷◌, ◌++◌, length, sum_by, ◌<◌, nat_lt, ◌&&◌, Option, Some, None, ℤ, pos, negsuc, ◌-ℤ◌, if◌then◌else◌, min}
use Rattle.lop_model.specs.declared.pair.Pair.{Pair}
use Rattle.lop_model.specs.Matrix.{Matrix}
use Rattle.lop_model.specs.Fixings.{has_pair}
use Rattle.lop_model.specs.Bound.{pair_bound}
use Rattle.lop_cuts.specs.declared.kind.CutKind.{CutKind}
use Rattle.lop_cuts.specs.declared.kind.CutKind.TheVariants.{Dicycle}
use Rattle.lop_cuts.specs.Lagrangian.{Term, reduced_entry}
use Rattle.lop_cuts.specs.declared.limits.TheConstants.{MAX_TERMS}
use Rattle.lop_leaf.specs.Record.{ScaledTerms}

-- a number, or 0 in place of a negative one
abbrev pub positive_part : ℤ → ℕ
positive_part (pos m) = m
positive_part (negsuc m) = 0

-- what the arc from a to b can lose before its pair gives less than that: nothing where the pair is fixed the other way,
-- anything (None) where it is fixed this way, else what the arc has more than its reverse
abbrev pub residual : List Pair → (ℕ → ℕ → ℤ) → ℕ → ℕ → Option ℕ
residual G r a b = if has_pair G b a then Some 0 else (if has_pair G a b then None else Some (positive_part (r a b -ℤ r b a)))

-- the lesser of two residuals
abbrev pub lesser : Option ℕ → Option ℕ → Option ℕ
lesser None y = y
lesser (Some m) None = Some m
lesser (Some m) (Some k) = Some (min m k)

-- a residual as a number. That of a whole cycle is never None where the pairs are closed and have no cycle
abbrev pub residual_number : Option ℕ → ℕ
residual_number None = 0
residual_number (Some m) = m

-- the least residual of the cycle a, b, c
abbrev pub cycle_residual : List Pair → (ℕ → ℕ → ℤ) → ℕ → ℕ → ℕ → ℕ
cycle_residual G r a b c = residual_number (lesser (residual G r a b) (lesser (residual G r b c) (residual G r c a)))

-- the cycle a, b, c with a multiplier
abbrev pub dicycle : ℕ → ℕ → ℕ → ℕ → Term
dicycle a b c m = record { cut = Dicycle (a ∷ b ∷ c ∷ []); multiplier = m }

-- three different objects below n
pub record AreThree (n a b c : ℕ) : Type 0 where
  pub first : a < n
  pub second : b < n
  pub third : c < n
  pub first_second : a ≢ b
  pub second_third : b ≢ c
  pub first_third : a ≢ c

-- the cut is a dicycle that has taken all that it can: its least residual is 0
pub record IsExhausted (G : List Pair) (r : ℕ → ℕ → ℤ) (cut : CutKind) : Type 0 where
  pub a : ℕ
  pub b : ℕ
  pub c : ℕ
  pub is : cut ≡ Dicycle (a ∷ b ∷ c ∷ [])
  pub none_left : cycle_residual G r a b c ≡ 0

-- no dicycle keeps three positive residuals in what the terms leave, unless they are all the 4,096 that there may be
abbrev pub AreExhausted : Matrix → List Pair → List Term → Type 0
AreExhausted C G terms = (length terms ≡ MAX_TERMS) ⊎ ((a b c : ℕ) → AreThree C.size a b c → cycle_residual G (reduced_entry C 1 terms) a b c ≡ 0)

-- the terms after the cycle a, b, c: where its least residual in the reduced entries is positive, it is the cycle's multiplier. There are at most 4,096 terms
abbrev pub pack_cycle : Matrix → List Pair → ℕ → ℕ → ℕ → List Term → List Term
pack_cycle C G a b c terms =
    let m = cycle_residual G (reduced_entry C 1 terms) a b c in
    if nat_lt 0 m && nat_lt (length terms) MAX_TERMS then terms ++ dicycle a b c m ∷ [] else terms

-- the terms after both cycles of three objects
abbrev pub pack_triple : Matrix → List Pair → ℕ → ℕ → ℕ → List Term → List Term
pack_triple C G i j k terms = pack_cycle C G i k j (pack_cycle C G i j k terms)

-- the steps a, a + 1, .., a + count - 1 in turn
abbrev pub in_turn : {X : Type 0} → ℕ → ℕ → (ℕ → X → X) → X → X
in_turn a zero step x = x
in_turn a (suc count) step x = step (a + count) (in_turn a count step x)

-- the terms after the triples i < j < k of an i and a j
abbrev pub pack_pair : Matrix → List Pair → ℕ → ℕ → List Term → List Term
pack_pair C G i j = in_turn (j + 1) (C.size - (j + 1)) (pack_triple C G i j)

-- the terms after the triples i < j < k of an i
abbrev pub pack_object : Matrix → List Pair → ℕ → List Term → List Term
pack_object C G i = in_turn (i + 1) (C.size - (i + 1)) (pack_pair C G i)

-- the terms after all triples i < j < k in lexicographic order
abbrev pub packed_terms : Matrix → List Pair → List Term
packed_terms C G = in_turn 0 C.size (pack_object C G) []

-- what packing leaves: these terms at scale 1
abbrev pub packed : Matrix → List Pair → ScaledTerms
packed C G = record { scale = 1; terms = packed_terms C G }

-- the packing bound under closed pairs: the pair bound less each multiplier once
abbrev pub packing_bound : Matrix → List Pair → ℤ
packing_bound C G = pair_bound C G -ℤ pos (sum_by (λ t. t.multiplier) (packed_terms C G))
