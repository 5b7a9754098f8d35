use Rattle.std.proofs.Common.{◌≡◌, ◌<◌, length, true, arith, rules}
use Rattle.lop_certtext.specs.Line.{is_row}
use Rattle.lop_certtext.proofs.Lines.{length-line_text}
use Rattle.lop_trial_search.proofs.certtext.round_trip.Goals as goal

pub put_line-requires-clause-fits : goal.put_line-requires-clause-fits
put_line-requires-clause-fits g c =
    let row : is_row c.args.word c.args.numbers.now ≡ true = search rules in
    let few : length c.args.numbers.now < 10 = search rules in
    omega (arith, length-line_text record { word = c.args.word; numbers = c.args.numbers.now } row)
