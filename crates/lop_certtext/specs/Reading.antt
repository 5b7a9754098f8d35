-- What the steps of reading a line speak of.
use Rattle.std.specs.Prelude.{ℕ, Bool, false, List, ◌∷◌, ◌++◌, ◌==◌, ℤ, Option, None, Some}
use Rattle.std.specs.Fmt.{signed_decimal}
use Rattle.std.specs.List.{list_all, slice_split}
use Rattle.lop_certtext.specs.Line.{is_signed}

-- the pieces between single blanks
abbrev pub pieces : List ℕ → List (List ℕ)
pieces bytes = slice_split (λ b. b == 32) bytes

-- a number is there, of at most 2^63 - 1 in absolute value
abbrev pub is_in_range : Option ℤ → Bool
is_in_range None = false
is_in_range (Some n) = is_signed n

-- numbers are there, each of at most 2^63 - 1 in absolute value
abbrev pub are_in_range : Option (List ℤ) → Bool
are_in_range None = false
are_in_range (Some ns) = list_all is_signed ns

-- what the numbers after others are, with these in front
abbrev pub behind : List ℤ → Option (List ℤ) → Option (List ℤ)
behind before None = None
behind before (Some ns) = Some (before ++ ns)

-- the bytes of a number in a line, with the blank before it
abbrev pub number_word : ℤ → List ℕ
number_word n = 32 ∷ signed_decimal n
