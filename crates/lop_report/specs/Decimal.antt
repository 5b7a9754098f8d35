-- Numbers of units of 10^-k, as text.
use Rattle.std.specs.Prelude.{ℕ, zero, suc, ◌+◌, ◌/◌, ◌%◌, ◌^◌, List, [], ◌∷◌, ◌++◌, codes, decimal, ℤ, pos, negsuc, unsigned_abs}

abbrev pub digit_code : ℕ → ℕ
digit_code d = 48 + d

-- the last k digits of a number, with leading zeros
abbrev pub last_digits : ℕ → ℕ → List ℕ
last_digits zero m = []
last_digits (suc k) m = digit_code (m / 10 ^ k % 10) ∷ last_digits k m

-- m units of 10^-k: the whole ones, and where there are decimals a point and k digits of the rest
abbrev pub fraction_text : ℕ → ℕ → List ℕ
fraction_text m zero = decimal m
fraction_text m (suc k) = decimal (m / 10 ^ suc k) ++ (codes "." ++ last_digits (suc k) (m % 10 ^ suc k))

abbrev pub sign : ℤ → List ℕ
sign (pos m) = []
sign (negsuc m) = codes "-"

-- a number of units of 10^-k with its k decimals
abbrev pub decimal_text : ℤ → ℕ → List ℕ
decimal_text value k = sign value ++ fraction_text (unsigned_abs value) k
