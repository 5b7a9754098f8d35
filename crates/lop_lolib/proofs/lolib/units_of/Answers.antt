use Rattle.std.proofs.Common.{◌≡◌, ◌-◌, ◌^◌, ◌≤◌, pos, unsigned_abs, FitsSigned, to_z, of_z, ap, arith}
use Rattle.std.specs.Int.{w128}
use Rattle.std.proofs.lemmas.Int.{ints, to_z-of_z, fits_signed_mul, fits_signed_from_abs}
use Rattle.lop_lolib.proofs.UnitsLemmas.{power-within}
use Rattle.lop_lolib.proofs.lolib.units_of.Goals as goal

pub overflow_mul-units : goal.overflow_mul-units
overflow_mul-units c =
    let first : to_z w128 (of_z w128 c.from.result) ≡ c.args.digits = omega (arith, ints) in
    let exponent : c.from-2.result ≡ c.args.k - c.args.decimals = omega arith in
    let power : c.pow.result ≡ pos (10 ^ c.from-2.result) = c.pow.ensures in
    let low : 10 ^ c.from-2.result ≤ 1000000 = power-within c.from-2.result (omega arith) in
    let small : unsigned_abs c.pow.result ≤ 1000000 = omega (arith, low, ap unsigned_abs power) in
    let fits : FitsSigned w128 c.pow.result = fits_signed_from_abs w128 c.pow.result (omega arith) in
    let digits : unsigned_abs c.args.digits ≤ 2 ^ 63 = omega (arith, ints) in
    rw (first, to_z-of_z w128 c.pow.result fits) (fits_signed_mul w128 c.args.digits c.pow.result (2 ^ 63) 1000000 digits small (omega arith))
