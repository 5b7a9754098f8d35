use Rattle.std.proofs.Common.{◌≡◌, length, map, pos, to_z, w64, arith}
use Rattle.std.proofs.lemmas.Int.{to_z_pos}
use Rattle.lop_certwrite.specs.Walk.{user_line, count_line}
use Rattle.lop_certwrite.proofs.Written.{line_front, line_then}
use Rattle.lop_certwrite.proofs.body.write_users.Goals as goal

pub returns-in_err-write_short_line-clause-effect : goal.returns-in_err-write_short_line-clause-effect
returns-in_err-write_short_line-clause-effect g c =
    let cast : to_z w64 (length c.args.users.now) ≡ pos (length c.args.users.now) = to_z_pos w64 (length c.args.users.now) (omega (arith, c.requires.few)) in
    line_front _ _ (count_line (length c.args.users.now)) (map (user_line c.args.core.now.book.records) c.args.users.now) _ _ c.from_residual.ensures.1 (rw cast at c.in_err-write_short_line.ensures.effect)

pub returns-clause-effect : goal.returns-clause-effect
returns-clause-effect g c =
    let cast : to_z w64 (length c.args.users.now) ≡ pos (length c.args.users.now) = to_z_pos w64 (length c.args.users.now) (omega (arith, c.requires.few)) in
    line_then _ _ _ (count_line (length c.args.users.now)) (map (user_line c.args.core.now.book.records) c.args.users.now) _ (rw cast at c.in_ok-write_short_line.ensures.effect) c.write_records.ensures.effect
