-- Local search by insertions.
use Rattle.std.specs.Prelude.{◌≡◌, ℕ, suc, ◌<◌, ◌≤◌, ◌*◌, List, length, ℤ, ◌-ℤ◌, ◌<ℤ◌, ◌≤ℤ◌}
use Rattle.lop_model.specs.Order.{after_insertion}
use Rattle.lop_model.specs.Matrix.{Matrix, weight}

-- no insertion of one object at another place gives a greater weight
pub record IsInsertionOptimum (C : Matrix) (s : List ℕ) : Type 0 where
  pub each : (f t : ℕ) → f < C.size → t < C.size → weight C (after_insertion s f t) ≤ℤ weight C s

-- the object at place f of s gains by its insertion at place t, and nowhere more
pub record IsBestMove (C : Matrix) (s : List ℕ) (f t : ℕ) : Type 0 where
  pub from : f < length s
  pub to : t < length s
  pub gains : weight C s <ℤ weight C (after_insertion s f t)
  pub best : (k : ℕ) → k < length s → weight C (after_insertion s f k) ≤ℤ weight C (after_insertion s f t)

-- a number of such insertions leads from s to another order
pub data IsClimb (C : Matrix) (s : List ℕ) : ℕ → List ℕ → Type 0 where
  no_move : IsClimb C s 0 s
  one_more : {m : ℕ} {u : List ℕ} (f t : ℕ) → IsClimb C s m u → IsBestMove C u f t → IsClimb C s (suc m) (after_insertion u f t)

-- a climb from s leads to t: insertions that each gain, at most 10 n² of them; after fewer no insertion betters t
pub record IsClimbedFrom (C : Matrix) (s t : List ℕ) : Type 0 where
  pub moves : ℕ
  pub climb : IsClimb C s moves t
  pub limit : moves ≤ 10 * C.size * C.size
  pub optimal : moves < 10 * C.size * C.size → IsInsertionOptimum C t

-- what the weight gains where the object at place f is put in at place t
abbrev pub gain_of : Matrix → List ℕ → ℕ → ℕ → ℤ
gain_of C s f t = weight C (after_insertion s f t) -ℤ weight C s

-- of the places from low on and below high, the object at f gains most at t, and gains g there
pub record IsBestInsertion (C : Matrix) (s : List ℕ) (f low high t : ℕ) (g : ℤ) : Type 0 where
  pub from : low ≤ t
  pub below : t < high
  pub gains : g ≡ gain_of C s f t
  pub best : (k : ℕ) → low ≤ k → k < high → gain_of C s f k ≤ℤ g
