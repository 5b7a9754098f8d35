-- Beginnings of a history, the entries of one worker in it, and what stands at a number in a list of pairs.
use Rattle.std.specs.Prelude.{◌≡◌, ℕ, ◌==◌, nat_lt, cond, Option, Some, None, List, [], ◌∷◌, ◌++◌, length, filter}

module _ {E : Type 0} where
  -- the whole list begins with the start
  abbrev pub StartsWith : List E → List E → Type 0
  StartsWith whole start = (rest : List E) × (whole ≡ start ++ rest)

  -- the entries that one worker made, in their order
  abbrev pub entries_by : (E → ℕ) → ℕ → List E → List E
  entries_by worker number entries = filter (λ e. worker e == number) entries

  -- the longer of two lists, and the first where they are as long
  abbrev pub longer : List E → List E → List E
  longer a b = cond (nat_lt (length a) (length b)) b a

  -- the list that stands at a number: the first one, if there are several
  abbrev pub list_at : List (ℕ × List E) → ℕ → Option (List E)
  list_at [] number = None
  list_at (x ∷ xs) number = cond (x.0 == number) (Some x.1) (list_at xs number)
