-- The LOLIB text of weights.
use Rattle.std.specs.Prelude.{ℕ, ◌<◌, ◌≤◌, List, [], ◌++◌, map, codes, decimal, ℤ, nat_abs}
use Rattle.std.specs.Fmt.{signed_decimal}
use Rattle.std.specs.List.{flat_map, join_with_byte}
use Rattle.lop_model.specs.Matrix.{Matrix, entry}
use Rattle.lop_lolib.specs.declared.lolib.LolibFile.{LolibFile}
use Rattle.lop_lolib.specs.declared.number.TheConstants.{MAX_NUMBER}

-- the numbers of a row, with a blank (32) between each two, and an LF
abbrev pub row_line : List ℤ → List ℕ
row_line row = join_with_byte 32 (map signed_decimal row) ++ codes "\n"

-- n on the first line, and then each row on a line
abbrev pub lolib_text : Matrix → List ℕ
lolib_text C = decimal C.size ++ codes "\n" ++ flat_map row_line C.rows

-- each entry on the diagonal is at most 10^18 in absolute value, as a LOLIB text asks
pub record HasNarrowDiagonal (C : Matrix) : Type 0 where
  pub each : (i : ℕ) → i < C.size → nat_abs (entry C i i) ≤ MAX_NUMBER

-- a file of these weights in units of 1, without a title and tail words
abbrev pub plain_file : Matrix → LolibFile
plain_file C = record { weights = C; title = []; tail_words = 0; decimals = 0 }
