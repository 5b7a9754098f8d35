-- Numbers in units of 2^-32.
use Rattle.std.specs.Prelude.{◌^◌, ℤ, pos, ◌*ℤ◌, int_div}

-- the product of two numbers, cut toward zero
abbrev pub product : ℤ → ℤ → ℤ
product x y = int_div (x *ℤ y) (pos (2 ^ 32))

-- the quotient of two numbers, cut toward zero
abbrev pub quotient : ℤ → ℤ → ℤ
quotient x y = int_div (x *ℤ pos (2 ^ 32)) y
