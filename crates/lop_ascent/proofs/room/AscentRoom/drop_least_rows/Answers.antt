use Rattle.std.proofs.Common.{List, ap, subst}
use Rattle.lop_cuts.specs.declared.kind.CutKind.{CutKind}
use Rattle.lop_ascent.specs.Fewer.{AreAmongCuts}
use Rattle.lop_ascent.specs.Rows.{AscentRows}
use Rattle.lop_ascent.proofs.room.AscentRoom.drop_least_rows.Goals as goal

pub returns-clause-among : goal.returns-clause-among
returns-clause-among c =
    subst (λ (xs : List CutKind). AreAmongCuts c.drop_below.new.self.cuts xs) (ap (λ (r : AscentRows). r.cuts) c.self.view_is) c.drop_below.ensures.among
