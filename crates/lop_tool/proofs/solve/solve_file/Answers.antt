use Rattle.std.proofs.Common.{refl}
use Rattle.lop_words.specs.declared.command.Command.TheVariants.{Solve}
use Rattle.lop_tool.proofs.Stops.{not_begun, input_refused, first_file}
use Rattle.lop_tool.proofs.SolveLemmas.{solve_right}
use Rattle.lop_tool.proofs.solve.solve_file.Goals as goal

pub returns-in-Ok-Ok-clause-right : goal.returns-in-Ok-Ok-clause-right
returns-in-Ok-Ok-clause-right g c = solve_right _ _ _ _ _ _ _ _ (rw c.in-Ok-Ok.field-0-is at c.in-Ok-Ok.ensures.input) c.solve_instance.ensures.solves

pub returns-in-Ok-Ok-clause-stop : goal.returns-in-Ok-Ok-clause-stop
returns-in-Ok-Ok-clause-stop g c = not_begun (Solve c.args.format c.args.file.now c.args.workers c.args.nodes c.args.cert) (g.D.Desk.told c.args.desk.now) (g.D.Desk.faults c.args.desk.now) (g.D.Desk.faults c.read_input.new.desk) (g.D.Desk.faults c.solve_instance.new.desk) c.solve_instance.result c.read_input.ensures.later c.solve_instance.ensures.stop

pub returns-in-Ok-Err-clause-stop : goal.returns-in-Ok-Err-clause-stop
returns-in-Ok-Err-clause-stop g c = input_refused _ _ _ _ _ (rw c.in-Ok-Err.field-0-is at c.in-Ok-Err.ensures.input)

pub returns-in-Err-clause-stop : goal.returns-in-Err-clause-stop
returns-in-Err-clause-stop g c = first_file (Solve c.args.format c.args.file.now c.args.workers c.args.nodes c.args.cert) _ _ _ _ _ c.in-Err.stop refl c.in-Err.ensures.stop
