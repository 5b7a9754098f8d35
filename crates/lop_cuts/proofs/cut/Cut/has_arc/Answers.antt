use Rattle.std.proofs.Common.{sym, ◌∙◌, ap, map}
use Rattle.lop_model.specs.Fixings.{has_pair}
use Rattle.lop_cuts.specs.Arcs.{arc}
use Rattle.lop_cuts.specs.Kind.{arcs_of, objects_of}
use Rattle.lop_cuts.proofs.ArcListLemmas.{has_arc-ladder_arcs}
use Rattle.lop_cuts.proofs.cut.Cut.has_arc.Goals as goal

pub returns-in-Ladder : goal.returns-in-Ladder
returns-in-Ladder c =
    let a = c.args.a in
    let b = c.args.b in
    let same = sym c.self.view_is ∙ c.in-Ladder.is in
    rw (c.count_with.ensures, c.deref-in-Ladder.ensures.0)
    (has_arc-ladder_arcs (arc a b) (map objects_of c.in-Ladder.cycles.items) ∙ ap (λ k. has_pair (arcs_of k) a b) (sym same))
