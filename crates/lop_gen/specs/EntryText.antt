-- The text of an entry, with what stands before it in its row.
use Rattle.std.specs.Prelude.{ℕ, ◌==◌, List, ◌∷◌, ℤ, if◌then◌else◌}
use Rattle.std.specs.Fmt.{signed_decimal}

-- a number, and before it a blank (32) but in the first column
abbrev pub entry_text : ℕ → ℤ → List ℕ
entry_text column entry = if column == 0 then signed_decimal entry else 32 ∷ signed_decimal entry
