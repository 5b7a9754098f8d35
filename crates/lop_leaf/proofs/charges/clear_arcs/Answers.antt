use Rattle.std.proofs.Common.{◌≡◌, ◌*◌, length, ◌∙◌}
use Rattle.std.proofs.lemmas.List.{length-set}
use Rattle.lop_model.specs.Related.{pair}
use Rattle.lop_model.specs.Cells.{cell}
use Rattle.lop_leaf.proofs.ClearLemmas.{clear_more}
use Rattle.lop_leaf.proofs.charges.clear_arcs.Goals as goal

pub loop-arc-preserved : goal.loop-arc-preserved
loop-arc-preserved c =
    let n = c.args.n in
    let t = c.loop-arc.table in
    let i = c.loop-arc.arc-index in
    let arcs = c.args.arcs.now in
    let whole : length t ≡ n * n = c.loop-arc.invariant.same_length ∙ c.requires.square in
    let below = c.requires.below i (pair 0 0) c.loop-arc-test.true in
    record {
      same_length = length-set t _ _ ∙ c.loop-arc.invariant.same_length;
      each = λ a b l m. clear_more t n arcs i a b (cell c.args.table.now n a b) (pair 0 0) whole c.loop-arc-test.true below.0 below.1 m (c.loop-arc.invariant.each a b l m);
    }
