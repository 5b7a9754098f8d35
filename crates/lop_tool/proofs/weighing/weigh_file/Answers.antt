use Rattle.std.proofs.Common.{refl}
use Rattle.lop_words.specs.declared.command.Command.TheVariants.{Value}
use Rattle.lop_tool.proofs.Ends.{at_rest-opened}
use Rattle.lop_tool.proofs.Stops.{input_refused, first_file}
use Rattle.lop_tool.proofs.ValueLemmas.{value_right, value_stops}
use Rattle.lop_tool.proofs.weighing.weigh_file.Goals as goal

pub returns-in-Ok-Ok-clause-right : goal.returns-in-Ok-Ok-clause-right
returns-in-Ok-Ok-clause-right g c = value_right _ _ _ _ _ (g.D.Desk.told c.read_input.new.desk) _ (at_rest-opened _ _ c.read_input.ensures.world) (rw c.in-Ok-Ok.field-0-is at c.in-Ok-Ok.ensures.input) c.weigh_order.ensures.weighs

pub returns-in-Ok-Ok-clause-stop : goal.returns-in-Ok-Ok-clause-stop
returns-in-Ok-Ok-clause-stop g c = value_stops _ _ _ _ _ (g.D.Desk.told c.read_input.new.desk) _ (g.D.Desk.faults c.read_input.new.desk) _ _ (at_rest-opened _ _ c.read_input.ensures.world) c.read_input.ensures.later (rw c.in-Ok-Ok.field-0-is at c.in-Ok-Ok.ensures.input) c.weigh_order.ensures.stop

pub returns-in-Ok-Err-clause-stop : goal.returns-in-Ok-Err-clause-stop
returns-in-Ok-Err-clause-stop g c = input_refused _ _ _ _ _ (rw c.in-Ok-Err.field-0-is at c.in-Ok-Err.ensures.input)

pub returns-in-Err-clause-stop : goal.returns-in-Err-clause-stop
returns-in-Err-clause-stop g c = first_file (Value c.args.format c.args.file.now c.args.order_file.now) _ _ _ _ _ c.in-Err.stop refl c.in-Err.ensures.stop
