use Rattle.lop_tool.proofs.Agreement.{agree}
use Rattle.std.proofs.Common.{map}
use Rattle.std.specs.String.{string_bytes}
use Rattle.lop_tool.proofs.round_trip.solve_then_check.Goals as goal

pub returns-clause-agree : goal.returns-clause-agree
returns-clause-agree g c = agree (map (λ s. string_bytes s) c.args.solve_words.now) (map (λ s. string_bytes s) c.args.check_words.now) _ _ _ _ _ _ (record {
  between = g.D.Desk.told c.run-solved.new.desk;
  faults_between = g.D.Desk.faults c.run-solved.new.desk;
  first_later = c.run-solved.ensures.later;
  second_later = c.run-checked.ensures.later;
  first_ended = c.run-solved.ensures.ended;
  second_ended = c.run-checked.ensures.ended;
})
