use Rattle.std.proofs.Common.{◌≡◌, ◌+◌, true, false, eqb, List, ℕ, sym, subst, ◌∙◌}
use Rattle.lop_model.specs.Cells.{cell}
use Rattle.lop_check.proofs.DepthLemmas.{TakenTo, taken-write, taken-skip}
use Rattle.lop_check.proofs.depths.take_row.Goals.{then-is_depth, else-is_depth}
use Rattle.lop_check.proofs.depths.take_row.Goals as goal

pub loop-y-preserved : goal.loop-y-preserved
loop-y-preserved c =
    let old = c.args.depths.now in
    let cur = c.loop-y.depths in
    let n = c.args.n in
    let x = c.args.x in
    let depth = c.args.depth in
    let y = c.loop-y.y in
    let r = c.requires in
    let so_far = c.loop-y.invariant in
    let next : List ℕ → Type 0 = λ t. TakenTo old t n x depth (y + 1) in
    record {
      same_length = c.if-is_depth.auto.depths ∙ so_far.same_length;
      each = elim c.if-is_depth.branch [
        | then-is_depth w ↦
            let met : eqb (cell cur n x y) depth ≡ true = sym c.is_depth.ensures ∙ w.if-is_depth.true in
            subst next (sym w.depths-is) (taken-write old cur n x depth y r.row c.loop-y-test.true so_far.each (so_far.same_length ∙ r.whole) met)
        | else-is_depth w ↦
            let missed : eqb (cell cur n x y) depth ≡ false = sym c.is_depth.ensures ∙ w.if-is_depth.false in
            subst next (sym w.depths-is) (taken-skip old cur n x depth y r.row c.loop-y-test.true so_far.each missed)
      ];
    }
