use Rattle.std.proofs.Common.{refl}
use Rattle.lop_words.specs.declared.command.Command.TheVariants.{Check}
use Rattle.lop_tool.proofs.Ends.{at_rest-opened}
use Rattle.lop_tool.proofs.Stops.{input_refused, first_file}
use Rattle.lop_tool.proofs.CheckLemmas.{check_right, check_stops}
use Rattle.lop_tool.proofs.checking.check_file.Goals as goal

pub returns-in-Ok-Ok-clause-right : goal.returns-in-Ok-Ok-clause-right
returns-in-Ok-Ok-clause-right g c = check_right _ _ _ _ _ (g.D.Desk.told c.read_input.new.desk) _ (at_rest-opened _ _ c.read_input.ensures.world) (rw c.in-Ok-Ok.field-0-is at c.in-Ok-Ok.ensures.input) c.check_named.ensures.bounded c.check_named.ensures.answer

pub returns-in-Ok-Ok-clause-stop : goal.returns-in-Ok-Ok-clause-stop
returns-in-Ok-Ok-clause-stop g c = check_stops _ _ _ _ _ (g.D.Desk.told c.read_input.new.desk) _ (g.D.Desk.faults c.read_input.new.desk) _ _ (at_rest-opened _ _ c.read_input.ensures.world) c.read_input.ensures.later (rw c.in-Ok-Ok.field-0-is at c.in-Ok-Ok.ensures.input) c.check_named.ensures.stop

pub returns-in-Ok-Err-clause-stop : goal.returns-in-Ok-Err-clause-stop
returns-in-Ok-Err-clause-stop g c = input_refused _ _ _ _ _ (rw c.in-Ok-Err.field-0-is at c.in-Ok-Err.ensures.input)

pub returns-in-Err-clause-stop : goal.returns-in-Err-clause-stop
returns-in-Err-clause-stop g c = first_file (Check c.args.format c.args.file.now c.args.cert.now) _ _ _ _ _ c.in-Err.stop refl c.in-Err.ensures.stop
