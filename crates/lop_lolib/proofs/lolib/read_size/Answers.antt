use Rattle.std.proofs.Common.{w64, FitsSigned, arith, rules}
use Rattle.std.proofs.lemmas.Int.{ints, to_z-of_z}
use Rattle.lop_lolib.proofs.EntriesLemmas.{words_reading-size}
use Rattle.lop_lolib.proofs.lolib.read_size.Goals as goal

pub returns-in-Some-number_of-clause-size : goal.returns-in-Some-number_of-clause-size
returns-in-Some-number_of-clause-size c =
    let n = c.in-Some-number_of.n in
    let number = c.in-Some-number_of.ensures in
    let fits : FitsSigned w64 n = search rules in
    rw (to_z-of_z w64 n fits) ((omega (arith, ints), omega (arith, ints), words_reading-size c.args.position _ _ c.in-Some.word.now n c.in-Some.ensures.steps number.0 number.1 (omega (arith, ints)) (omega (arith, ints))))
