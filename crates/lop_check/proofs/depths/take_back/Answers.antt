use Rattle.std.proofs.Common.{◌≡◌, ◌+◌, true, false, List, ℕ, sym, subst, ◌∙◌}
use Rattle.lop_check.specs.Trail.{is_from}
use Rattle.lop_check.proofs.DepthLemmas.{AllTakenTo, all_taken-row, all_taken-skip}
use Rattle.lop_check.proofs.depths.take_back.Goals.{then-is_from, else-is_from}
use Rattle.lop_check.proofs.depths.take_back.Goals as goal

pub loop-x-preserved : goal.loop-x-preserved
loop-x-preserved c =
    let old = c.args.depths.now in
    let cur = c.loop-x.depths in
    let n = c.args.n in
    let a = c.args.a in
    let depth = c.args.depth in
    let x = c.loop-x.x in
    let r = c.requires in
    let so_far = c.loop-x.invariant in
    let next : List ℕ → Type 0 = λ t. AllTakenTo old t n a depth (x + 1) in
    record {
      same_length = c.if-is_from.auto.depths ∙ so_far.same_length;
      each = elim c.if-is_from.branch [
        | then-is_from w ↦
            let met : is_from cur n a x ≡ true = sym c.is_from.ensures ∙ w.if-is_from.true in
            subst next (sym w.depths-is) (all_taken-row old cur n a depth x r.first c.loop-x-test.true so_far.each w.take_row.new.depths met w.take_row.ensures)
        | else-is_from w ↦
            let missed : is_from cur n a x ≡ false = sym c.is_from.ensures ∙ w.if-is_from.false in
            subst next (sym w.depths-is) (all_taken-skip old cur n a depth x r.first c.loop-x-test.true so_far.each missed)
      ];
    }
