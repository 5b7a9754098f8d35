-- Functions that give each list of pairs its closure. A definition that needs the closure of many lists takes such a function
-- and says what holds for each of them.
use Rattle.std.specs.Prelude.{ℕ, ◌+◌, Bool, false, List, [], ◌∷◌, fold, ◌==◌, ◌&&◌, ◌||◌}
use Rattle.lop_model.specs.declared.pair.Pair.{Pair}
use Rattle.lop_model.specs.Fixings.{IsClosure}
use Rattle.lop_model.specs.Related.{pairs_of}

-- K gives each list of pairs its closure
pub record AreClosures (K : List Pair → List Pair) : Type 0 where
  pub each : (F : List Pair) → IsClosure F (K F)

-- ---- one such function, which shows that there is one

-- x and y are related once the pair p joins what is related: x stands at or before its first object, and y at or after its second
abbrev pub linked : (ℕ → ℕ → Bool) → Pair → ℕ → ℕ → Bool
linked related p x y = related x y || ((x == p.before || related x p.before) && (y == p.after || related p.after y))

-- what the pairs of a list relate, one joined after another
abbrev pub leads : List Pair → ℕ → ℕ → Bool
leads F = fold linked (λ x y. false) F

-- a number above each object of a list of pairs
abbrev pub above_all : List Pair → ℕ
above_all [] = 0
above_all (p ∷ F) = above_all F + p.before + p.after + 1

abbrev pub closed : List Pair → List Pair
closed F = pairs_of (above_all F) (leads F)
