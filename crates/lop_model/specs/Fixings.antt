use Rattle.std.specs.Prelude.{◌≡◌, ◌≢◌, ℕ, ◌<◌, Bool, List, length, take, slice_index_or, IsTrue, ◌==◌, ◌&&◌, ◌↔◌, ◌⊎◌}
use Rattle.std.specs.List.{list_any, AllPairs}
use Rattle.lop_model.specs.declared.pair.Pair.{Pair}
use Rattle.lop_model.specs.Order.{StandsBefore}

-- whether the pair (a, b) is in the list
abbrev pub has_pair : List Pair → ℕ → ℕ → Bool
has_pair F a b = list_any (λ p. p.before == a && p.after == b) F

-- a chain of one or more pairs of F leads from a to b
pub data LeadsTo (F : List Pair) : ℕ → ℕ → Type 0 where
  one_pair : {a b : ℕ} → IsTrue (has_pair F a b) → LeadsTo F a b
  pair_then : {a b c : ℕ} → IsTrue (has_pair F a b) → LeadsTo F b c → LeadsTo F a c

-- p comes before q by its first object, or at the same first object by its second
abbrev pub ComesBefore : Pair → Pair → Type 0
ComesBefore p q = (p.before < q.before) ⊎ ((p.before ≡ q.before) × (p.after < q.after))

-- G has the pairs between which a chain of F leads, in rising order
pub record IsClosure (F G : List Pair) : Type 0 where
  pub each : (a b : ℕ) → IsTrue (has_pair G a b) ↔ LeadsTo F a b
  pub rising : AllPairs ComesBefore G

-- for each pair (a, b) of F, a stands before b in s
pub record IsLinearExtension (s : List ℕ) (F : List Pair) : Type 0 where
  pub each : (a b : ℕ) → IsTrue (has_pair F a b) → StandsBefore s a b

-- a and b are two objects below n, and no chain of F leads from one to the other
pub record IsUndecided (n : ℕ) (F : List Pair) (a b : ℕ) : Type 0 where
  pub first : a < n
  pub second : b < n
  pub differ : a ≢ b
  pub not_before : ¬ (LeadsTo F a b)
  pub not_after : ¬ (LeadsTo F b a)

-- each of the first k pairs of the path is undecided under the pairs before it
pub record IsBranchingPrefix (n : ℕ) (path : List Pair) (k : ℕ) : Type 0 where
  pub each : (i : ℕ) (p : Pair) → i < k → IsUndecided n (take i path) (slice_index_or path i p).before (slice_index_or path i p).after

-- each pair of the path is undecided under the pairs before it
abbrev pub IsBranchingPath : ℕ → List Pair → Type 0
IsBranchingPath n path = IsBranchingPrefix n path (length path)

-- a chain of F leads from one of the two to the other
abbrev pub IsDecided : List Pair → ℕ → ℕ → Type 0
IsDecided F a b = LeadsTo F a b ⊎ LeadsTo F b a

-- each two objects below n are decided
pub record AreAllDecided (n : ℕ) (F : List Pair) : Type 0 where
  pub each : (a b : ℕ) → a < b → b < n → IsDecided F a b

-- the same orders extend F and G
pub record HaveSameExtensions (F G : List Pair) : Type 0 where
  pub each : (s : List ℕ) → IsLinearExtension s F ↔ IsLinearExtension s G
