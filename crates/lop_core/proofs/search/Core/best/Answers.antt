use Rattle.std.proofs.Common.{rules, FitsSigned, subst, sym}
use Rattle.std.proofs.lemmas.Int.{to_z-of_z}
use mir.Syntax.{w128}
use Rattle.lop_core.specs.contracts.search.Core.{the_view}
use Rattle.lop_core.specs.Workers.{IsInRange}
use Rattle.lop_core.proofs.Workers.{best_in_range}
use Rattle.lop_core.proofs.Monotone.{core_from_start}
use Rattle.lop_core.proofs.search.Core.best.Goals as goal

pub returns-clause-from_start : goal.returns-clause-from_start
returns-clause-from_start c =
    let f : FitsSigned w128 c.self.inside.best = search rules in
    rw (← c.self.view_is, to_z-of_z w128 c.self.inside.best f) (core_from_start (the_view c.self.inside) c.self.invariant.0)

pub returns-clause-range : goal.returns-clause-range
returns-clause-range c =
    let f : FitsSigned w128 c.self.inside.best = search rules in
    subst IsInRange (sym (to_z-of_z w128 c.self.inside.best f)) (best_in_range (the_view c.self.inside) c.self.invariant.0 c.n-n.ensures.weights)
