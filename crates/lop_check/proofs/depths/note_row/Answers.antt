use Rattle.std.proofs.Common.{◌≡◌, ◌+◌, true, false, List, ℕ, sym, subst, ◌∙◌}
use Rattle.lop_check.specs.Trail.{is_new}
use Rattle.lop_check.proofs.DepthLemmas.{NotedTo, noted-write, noted-skip}
use Rattle.lop_check.proofs.depths.note_row.Goals.{then-is_new, else-is_new}
use Rattle.lop_check.proofs.depths.note_row.Goals as goal

pub loop-y-preserved : goal.loop-y-preserved
loop-y-preserved c =
    let old = c.args.depths.now in
    let cur = c.loop-y.depths in
    let n = c.args.n in
    let x = c.args.x in
    let b = c.args.b in
    let depth = c.args.depth in
    let y = c.loop-y.y in
    let r = c.requires in
    let so_far = c.loop-y.invariant in
    let next : List ℕ → Type 0 = λ t. NotedTo old t n x b depth (y + 1) in
    record {
      same_length = c.if-is_new.auto.depths ∙ so_far.same_length;
      each = elim c.if-is_new.branch [
        | then-is_new w ↦
            let met : is_new cur n b x y ≡ true = sym c.is_new.ensures ∙ w.if-is_new.true in
            subst next (sym w.depths-is) (noted-write old cur n x b depth y r.row r.second c.loop-y-test.true r.differ so_far.each (so_far.same_length ∙ r.whole) met)
        | else-is_new w ↦
            let missed : is_new cur n b x y ≡ false = sym c.is_new.ensures ∙ w.if-is_new.false in
            subst next (sym w.depths-is) (noted-skip old cur n x b depth y r.row r.second c.loop-y-test.true r.differ so_far.each missed)
      ];
    }
