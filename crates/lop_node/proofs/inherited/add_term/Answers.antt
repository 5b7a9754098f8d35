use Rattle.std.proofs.Common.{◌≡◌, get_or, sym, ◌∙◌, ap, subst}
use Rattle.lop_cuts.specs.Kind.{FitsCut}
use Rattle.lop_cuts.specs.declared.kind.CutKind.{CutKind}
use Rattle.lop_cuts.specs.Lagrangian.{Term}
use Rattle.lop_node.proofs.inherited.add_term.Goals as goal

pub add_row-requires-clause-fits : goal.add_row-requires-clause-fits
add_row-requires-clause-fits c =
    let terms = c.args.start.now.terms in
    let t : Term = c.term-term.result.now in
    let is : c.term.inside.cut ≡ (get_or terms c.args.index t).cut = ap (λ (u : Term). u.cut) (c.term.view_is ∙ c.term-term.ensures.value) in
    subst (λ (k : CutKind). FitsCut c.args.ascent.now.size k) (sym is) (c.requires.fit c.args.index t c.requires.index)
