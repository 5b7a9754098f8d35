use Rattle.std.proofs.Common.{ℕ, refl, subst, sym, arith}
use Rattle.lop_profile.specs.Cells.{IsRanking}
use Rattle.lop_profile.proofs.CellLemmas.{is_added-more}
use Rattle.lop_profile.proofs.cells.add_row.Goals as goal

pub loop-place-preserved : goal.loop-place-preserved
loop-place-preserved c =
    let row = c.loop-place.row in
    let places = c.args.places.now in
    let ranking = subst (λ (n : ℕ). IsRanking n places) (sym c.loop-place.auto.row) c.requires.places in
    is_added-more c.args.row.now row c.args.count places c.loop-place.place-index ranking (omega arith) c.loop-place.invariant _ refl
