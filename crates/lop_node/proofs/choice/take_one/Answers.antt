use Rattle.std.proofs.Common.{sym, subst}
use Rattle.lop_cuts.specs.declared.kind.CutKind.{CutKind}
use Rattle.lop_cuts.specs.Kind.{FitsCut}
use Rattle.lop_node.proofs.choice.take_one.Goals as goal

pub add_row-reply-requires-clause-fits : goal.add_row-reply-requires-clause-fits
add_row-reply-requires-clause-fits c =
    let x : CutKind = c.get-cut.result.now in
    subst (λ (k : CutKind). FitsCut c.args.ascent.now.size k) (sym c.get-cut.ensures.value) (c.requires.fit c.args.k x c.requires.index)
