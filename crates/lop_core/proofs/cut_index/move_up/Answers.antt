use Rattle.std.proofs.Common.{◌+◌, set, refl}
use Rattle.lop_core.proofs.MergeLemmas.{moved_up}
use Rattle.lop_core.proofs.cut_index.move_up.Goals as goal

pub returns : goal.returns
returns c =
    let r = moved_up c.args.index.now c.copy_within.new.self (set c.copy_within.new.self (c.args.place + c.args.left) c.args.number) c.args.place c.args.low c.args.left c.args.number c.requires.at_most c.requires.inside c.copy_within.ensures.len c.copy_within.ensures.by_index.0 c.copy_within.ensures.by_index.1 c.copy_within.ensures.by_index.2 refl in
    record { len = r.len; number = r.first; below = r.below; moved = r.moved; above = r.above }
