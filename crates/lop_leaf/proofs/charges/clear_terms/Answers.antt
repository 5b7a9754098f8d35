use Rattle.std.proofs.Common.{◌≡◌, get_or, cond, sym, ◌∙◌, ap, subst, inr, refl, arith}
use Rattle.lop_model.specs.Fixings.{has_pair}
use Rattle.lop_model.specs.Cells.{cell}
use Rattle.lop_cuts.specs.declared.kind.CutKind.{CutKind}
use Rattle.lop_cuts.specs.Kind.{arcs_of, FitsCut}
use Rattle.lop_cuts.specs.Lagrangian.{Term}
use Rattle.lop_leaf.proofs.ClearLemmas.{clear_step, cleared}
use Rattle.lop_leaf.proofs.charges.clear_terms.Goals as goal

pub clear_cut-requires-clause-fits : goal.clear_cut-requires-clause-fits
clear_cut-requires-clause-fits c =
    let terms = c.args.rec.now.terms in
    let t : Term = c.term-term.result.now in
    let is : c.term.inside.cut ≡ (get_or terms c.loop-index.index t).cut = ap (λ (u : Term). u.cut) (c.term.view_is ∙ c.term-term.ensures.value) in
    subst (λ k. FitsCut c.args.n k) (sym is) (c.requires.fit c.loop-index.index t (omega (arith, c.len-index-end.ensures.value)))

pub loop-index-init : goal.loop-index-init
loop-index-init c = record { same_length = refl; each = λ a b l m. inr (c.requires.charged.each a b l m, refl) }

pub loop-index-preserved : goal.loop-index-preserved
loop-index-preserved c =
    let terms = c.args.rec.now.terms in
    let n = c.args.n in
    let t : Term = c.term-term.result.now in
    let i = c.loop-index.index in
    let is : c.term.inside.cut ≡ (get_or terms i t).cut = ap (λ (u : Term). u.cut) (c.term.view_is ∙ c.term-term.ensures.value) in
    record {
      same_length = c.clear_cut.ensures.same_length ∙ c.loop-index.invariant.same_length;
      each = λ a b l m.
          clear_step terms i a b (cell c.loop-index.table n a b) (cell c.clear_cut.new.table n a b) t (omega (arith, c.len-index-end.ensures.value))
          (c.clear_cut.ensures.each a b l m ∙ ap (λ (k : CutKind). cond (has_pair (arcs_of k) a b) 0 (cell c.loop-index.table n a b)) is)
          (c.loop-index.invariant.each a b l m);
    }

pub returns : goal.returns
returns c = record {
  none = record {
    square = c.loop-index.invariant.same_length ∙ c.requires.charged.square;
    each = λ a b l m. cleared c.args.rec.now.terms c.loop-index.index a b (cell c.loop-index.table c.args.n a b) (omega (arith, c.loop-index-test.false, c.len-index-end.ensures.value)) (c.loop-index.invariant.each a b l m);
  };
}
