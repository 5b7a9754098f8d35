use Rattle.std.proofs.Common.{◌≡◌, length, take, get_or, ap, pos, ℤ, FitsSigned, w64, to_z, of_z, arith, rules}
use Rattle.std.specs.List.{flat_map}
use Rattle.std.proofs.lemmas.Int.{to_z-of_z}
use Rattle.std.proofs.lemmas.List.{length-append}
use Rattle.std.proofs.lemmas.List.Folds.{length-flat_map-take}
use Rattle.lop_certtext.specs.Reading.{number_word}
use Rattle.lop_certtext.proofs.write.put_numbers.Goals as goal

pub put_number-requires : goal.put_number-requires
put_number-requires c =
    let numbers = c.args.numbers.now in
    let i = c.loop-number.number-index in
    let number : ℤ = get_or numbers i (pos 0) in
    let fits : FitsSigned w64 number = search rules in
    let same : to_z w64 (of_z w64 number) ≡ number = to_z-of_z w64 number fits in
    omega (
      arith,
      ap (λ (n : ℤ). length (number_word n)) same,
      length-flat_map-take number_word numbers i (pos 0) c.loop-number-test.true,
      ap length c.loop-number.invariant,
      length-append c.args.room.now (flat_map number_word (take i numbers)),
      c.requires,
    )
