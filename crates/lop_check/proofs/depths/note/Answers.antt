use Rattle.std.proofs.Common.{◌≡◌, ◌+◌, refl, true, false, List, ℕ, sym, subst, ◌∙◌}
use Rattle.lop_check.specs.Trail.{is_from}
use Rattle.lop_check.proofs.DepthLemmas.{AllNotedTo, all_noted-none, all_noted-row, all_noted-skip, not_b}
use Rattle.lop_check.proofs.depths.note.Goals.{then-is_from, else-is_from}
use Rattle.lop_check.proofs.depths.note.Goals as goal

pub loop-x-init : goal.loop-x-init
loop-x-init c = record { same_length = refl; each = all_noted-none c.args.depths.now c.args.n c.args.a c.args.b c.args.depth }

pub loop-x-preserved : goal.loop-x-preserved
loop-x-preserved c =
    let old = c.args.depths.now in
    let cur = c.loop-x.depths in
    let n = c.args.n in
    let a = c.args.a in
    let b = c.args.b in
    let depth = c.args.depth in
    let x = c.loop-x.x in
    let r = c.requires in
    let so_far = c.loop-x.invariant in
    let next : List ℕ → Type 0 = λ t. AllNotedTo old t n a b depth (x + 1) in
    record {
      same_length = c.if-is_from.auto.depths ∙ so_far.same_length;
      each = elim c.if-is_from.branch [
        | then-is_from w ↦
            let met : is_from cur n a x ≡ true = sym c.is_from.ensures ∙ w.if-is_from.true in
            subst next (sym w.depths-is) (all_noted-row old cur n a b depth x r.first r.second c.loop-x-test.true r.differ r.fresh so_far.each w.note_row.new.depths met w.note_row.ensures)
        | else-is_from w ↦
            let missed : is_from cur n a x ≡ false = sym c.is_from.ensures ∙ w.if-is_from.false in
            subst next (sym w.depths-is) (all_noted-skip old cur n a b depth x r.first r.second c.loop-x-test.true r.differ r.fresh so_far.each missed)
      ];
    }

pub note_row-requires-clause-differ : goal.note_row-requires-clause-differ
note_row-requires-clause-differ c =
    let r = c.requires in
    not_b c.args.depths.now c.loop-x.depths c.args.n c.args.a c.args.b c.args.depth c.loop-x.x r.first r.second c.loop-x-test.true r.differ r.fresh c.loop-x.invariant.each (sym c.is_from.ensures ∙ c.if-is_from.true)
