use Rattle.std.proofs.Common.{◌≡◌, ◌+◌, ◌*◌, ◌^◌, ◌<◌, ◌≤◌, length, get_or, take, sym, ◌∙◌, ap, subst, arith}
use Rattle.lop_cuts.specs.Arcs.{arc}
use Rattle.lop_cuts.specs.Kind.{IsCut, arcs_of, right_side_of, FitsCut}
use Rattle.lop_cuts.specs.Lagrangian.{Term, charge, right_sides}
use Rattle.lop_cuts.proofs.ArcLemmas.{times}
use Rattle.lop_cuts.proofs.LagrangianLemmas.{charge_more}
use Rattle.lop_leaf.specs.Record.{IsMultiplier}
use Rattle.lop_leaf.proofs.ChargeLemmas.{charge_take-le, side-le}
use Rattle.lop_cuts.proofs.ChargeLemmas.{right_side_more}
use Rattle.lop_leaf.proofs.charges.charge_terms.Goals as goal

pub charge_cut-requires-clause-fits : goal.charge_cut-requires-clause-fits
charge_cut-requires-clause-fits c =
    let terms = c.args.rec.now.terms in
    let i = c.loop-index.index in
    let t : Term = c.term-term.result.now in
    let is : c.term.inside.cut ≡ (get_or terms i t).cut = ap (λ (u : Term). u.cut) (c.term.view_is ∙ c.term-term.ensures.value) in
    let within : i < length terms = omega (arith, c.len-index-end.ensures.value) in
    subst (λ k. FitsCut c.args.n k) (sym is) (c.requires.fit i t within)

pub charge_cut-requires-clause-bounded : goal.charge_cut-requires-clause-bounded
charge_cut-requires-clause-bounded c a b l m =
    let is = c.loop-index.invariant.charged.each a b l m in
    let most = charge_take-le c.args.rec.now c.loop-index.index a b c.len-index-end.ensures.terms (omega (arith, c.len-index-end.ensures.value)) in
    omega (arith, is, most)

pub loop-index-preserved : goal.loop-index-preserved
loop-index-preserved c =
    let terms = c.args.rec.now.terms in
    let i = c.loop-index.index in
    let t : Term = c.term-term.result.now in
    let is : c.term.inside.cut ≡ (get_or terms i t).cut = ap (λ (u : Term). u.cut) (c.term.view_is ∙ c.term-term.ensures.value) in
    let by : c.term.inside.multiplier ≡ (get_or terms i t).multiplier = ap (λ (u : Term). u.multiplier) (c.term.view_is ∙ c.term-term.ensures.value) in
    let within : i < length terms = omega (arith, c.len-index-end.ensures.value) in
    let cut : IsCut (get_or terms i t).cut = c.len-index-end.ensures.terms.cuts i t within in
    let m : IsMultiplier (get_or terms i t).multiplier = c.len-index-end.ensures.terms.multipliers i t within in
    let arcs : arcs_of c.term.inside.cut ≡ arcs_of (get_or terms i t).cut = ap arcs_of is in
    let factor : c.from.result ≡ (get_or terms i t).multiplier = c.from.ensures ∙ by in
    let side : c.from-in-loop-index.result ≡ right_side_of (get_or terms i t).cut = c.from-in-loop-index.ensures ∙ c.right_side.ensures.value ∙ ap right_side_of is in
    let product : c.from.result * c.from-in-loop-index.result ≡ (get_or terms i t).multiplier * right_side_of (get_or terms i t).cut = ap (λ k. k * c.from-in-loop-index.result) factor ∙ ap (λ k. (get_or terms i t).multiplier * k) side in
    let small : c.from.result * c.from-in-loop-index.result ≤ 2 ^ 69 = side-le c.from.result c.from-in-loop-index.result (omega (arith, factor, m.within_limit)) (omega (arith, c.from-in-loop-index.ensures, c.right_side.ensures.at_most)) in
    record {
      charged = record {
        square = c.charge_cut.ensures.same_length ∙ c.loop-index.invariant.charged.square;
        each = λ a b l n.
            c.charge_cut.ensures.each a b l n
            ∙ ap (λ k. k + c.term.inside.multiplier * times (arc a b) (arcs_of c.term.inside.cut)) (c.loop-index.invariant.charged.each a b l n)
            ∙ ap (λ k. charge (take i terms) a b + k * times (arc a b) (arcs_of c.term.inside.cut)) by
            ∙ ap (λ k. charge (take i terms) a b + (get_or terms i t).multiplier * times (arc a b) k) arcs
            ∙ sym (charge_more terms i t a b within cut);
      };
      sides = ap (λ k. k + c.from.result * c.from-in-loop-index.result) c.loop-index.invariant.sides ∙ ap (λ k. right_sides (take i terms) + k) product ∙ sym (right_side_more terms i t within);
      few = omega (arith, small, c.loop-index.invariant.few);
    }
