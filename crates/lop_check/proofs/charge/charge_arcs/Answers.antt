use Rattle.std.proofs.Common.{◌≡◌, ◌*◌, length, ◌∙◌}
use Rattle.std.proofs.lemmas.List.{length-set}
use Rattle.lop_model.specs.declared.pair.Pair.{Pair}
use Rattle.lop_cuts.proofs.ChargeLemmas.{charge_step}
use Rattle.lop_check.proofs.charge.charge_arcs.Goals as goal

pub loop-arc-preserved : goal.loop-arc-preserved
loop-arc-preserved c =
    let n = c.args.n in
    let t = c.loop-arc.charges in
    let i = c.loop-arc.arc-index in
    let arcs = c.args.arcs.now in
    let zero : Pair = record { before = 0; after = 0 } in
    let whole : length t ≡ n * n = c.loop-arc.invariant.same_length ∙ c.requires.table.square in
    let below = c.requires.below i zero c.loop-arc-test.true in
    record {
      same_length = length-set t _ _ ∙ c.loop-arc.invariant.same_length;
      each = λ a b l m. rw c.from.ensures (charge_step t c.args.charges.now n c.args.multiplier arcs i a b zero whole c.loop-arc-test.true below.0 below.1 m (c.loop-arc.invariant.each a b l m));
    }
