use Rattle.std.proofs.Common.{◌≡◌, ◌≤◌, ◌<◌, ◌*◌, ◌/◌, ◌+◌, ◌∙◌, ap, List, ℕ, ℤ, refl, sym, subst, arith, rules, length, get_or, pos, nat_abs, FitsSigned, w64}
use Rattle.std.proofs.lemmas.Int.{to_z-of_z}
use Rattle.std.proofs.lemmas.List.{take_all, length-map, get_or_default}
use Rattle.lop_cuts.specs.declared.kind.CutKind.{CutKind}
use Rattle.std.proofs.lemmas.List.Elements.{All-get_or}
use Rattle.lop_cuts.specs.Kind.{FitsCut}
use Rattle.lop_cuts.specs.Lagrangian.{Term, right_sides}
use Rattle.lop_certtext.specs.RecordLine.{CutTerm, cut_at, terms_of, terms_in}
use Rattle.lop_cuts.specs.Charges.{HasCharges}
use Rattle.lop_check.proofs.Charging.{charged_more, sides_more, length-terms_of}
use Rattle.lop_check.proofs.charge.charge_terms.Goals as goal

pub loop-term-init : goal.loop-term-init
loop-term-init c = record {
  charged = c.requires.none;
  sides = refl;
  small = λ a b l m. omega (arith, c.requires.none.each a b l m);
  few = omega arith;
}

-- one of the terms
less : (len term told : ℕ) → term < len / 2 → len ≡ 2 * told → term < told
less len term told l e = omega arith

pub charge_term-sides-requires-clause-table : goal.charge_term-sides-requires-clause-table
charge_term-sides-requires-clause-table c =
    let i = less _ _ c.requires.terms.told c.loop-term-test.true c.requires.terms.even in
    record {
      within_limit = c.requires.within_limit;
      square = c.loop-term.invariant.charged.square;
      bounded = λ a b l m. omega (arith, c.loop-term.invariant.small a b l m, c.requires.terms.few, i);
    }

pub charge_term-sides-requires-clause-fits : goal.charge_term-sides-requires-clause-fits
charge_term-sides-requires-clause-fits c = subst (FitsCut c.args.n) (sym c.index-cuts-place.is) (All-get_or (FitsCut c.args.n) c.args.cuts.now c.cut_place-place.result _ c.cut_place-place.ensures.below c.requires.cuts.fit)

pub loop-term-preserved : goal.loop-term-preserved
loop-term-preserved c =
    let ns = c.args.numbers.now in
    let cuts = c.args.cuts.now in
    let told = c.requires.terms.told in
    let i = c.loop-term.term in
    let within = less _ _ told c.loop-term-test.true c.requires.terms.even in
    let x : ℤ = get_or ns (2 * i + 1) (pos 0) in
    let fits : FitsSigned w64 x = search rules in
    let m = c.unsigned_abs-multiplier.result in
    let m_is = c.unsigned_abs-multiplier.ensures.value ∙ ap nat_abs (to_z-of_z w64 x fits) in
    let place = c.cut_place-place.result in
    let cut : CutKind = c.index-cuts-place.result in
    let cut_is : (d : CutKind) → cut ≡ get_or cuts place d = λ d. c.index-cuts-place.is ∙ get_or_default cuts place cut d c.cut_place-place.ensures.below in
    let side = c.charge_term-sides.ensures.side in
    record {
      charged = charged_more cuts ns told i c.requires.terms.even within c.requires.terms.rising c.requires.cuts.right cut m place c.cut_place-place.ensures.place cut_is m_is c.args.n c.loop-term.charges c.charge_term-sides.new.charges c.charge_term-sides.ensures.adds.same_length c.loop-term.invariant.charged c.charge_term-sides.ensures.adds.each;
      sides = sides_more cuts ns told i c.requires.terms.even within c.requires.terms.rising c.requires.cuts.right cut m place c.cut_place-place.ensures.place cut_is m_is c.loop-term.sides c.charge_term-sides.result c.loop-term.invariant.sides side;
      small = λ a b l k. omega (arith, c.charge_term-sides.ensures.small a b l k, c.loop-term.invariant.small a b l k);
      few = omega (arith, c.charge_term-sides.ensures.few, c.loop-term.invariant.few);
    }

pub returns-clause-small : goal.returns-clause-small
returns-clause-small c = record {
  square = c.loop-term.invariant.charged.square;
  each = λ a b l m. omega (arith, c.loop-term.invariant.small a b l m, c.requires.terms.few, c.requires.terms.even, c.loop-term.auto.term-end);
}

pub returns-clause-sides : goal.returns-clause-sides
returns-clause-sides c =
    let f : CutTerm → Term = λ t. record { cut = cut_at c.args.cuts.now t.cut; multiplier = t.multiplier } in
    let terms = terms_in c.args.cuts.now (terms_of c.args.numbers.now) in
    let all : length terms ≤ c.loop-term.term = omega (arith, length-map (terms_of c.args.numbers.now) f, length-terms_of c.args.numbers.now c.requires.terms.told c.requires.terms.even, c.requires.terms.even) in
    c.loop-term.invariant.sides ∙ ap right_sides (take_all c.loop-term.term terms all)

pub returns-clause-charged : goal.returns-clause-charged
returns-clause-charged c =
    let f : CutTerm → Term = λ t. record { cut = cut_at c.args.cuts.now t.cut; multiplier = t.multiplier } in
    let terms = terms_in c.args.cuts.now (terms_of c.args.numbers.now) in
    let all : length terms ≤ c.loop-term.term = omega (arith, length-map (terms_of c.args.numbers.now) f, length-terms_of c.args.numbers.now c.requires.terms.told c.requires.terms.even, c.requires.terms.even) in
    subst (λ (l : List Term). HasCharges c.args.n l c.loop-term.charges) (take_all c.loop-term.term terms all) c.loop-term.invariant.charged
