use Rattle.std.proofs.Common.{◌≡◌, get_or, pos, ◌-ℤ◌, sym, ◌∙◌, ap, rules, arith, to_z, of_z, FitsSigned}
use Rattle.std.specs.List.{sum_by}
use Rattle.std.specs.Int.{w128}
use Rattle.std.proofs.lemmas.Int.{to_z-of_z, to_z_pos}
use Rattle.lop_model.specs.Bound.{pair_bound}
use Rattle.lop_leaf.specs.Record.{ScaledTerms}
use Rattle.lop_leaf.specs.Bound.{record_value}
use Rattle.lop_leaf.specs.Packing.{packing_bound}
use Rattle.lop_leaf.proofs.PackingLemmas.{exhausted}
use Rattle.lop_leaf.proofs.SpentLemmas.{all_exhausted}
use Rattle.lop_leaf.proofs.PackingValue.{packing_bound-shown, packing_bound-le, record_bounds}
use Rattle.lop_leaf.proofs.pack.packing.Goals as goal

-- what is answered is the packing bound, and what the record shows
record Whole (c : goal.After-multipliers) : Type 0 where
  value : to_z w128 (of_z w128 (to_z w128 (of_z w128 c.load_margins-bound.result) -ℤ to_z w128 c.multipliers.result)) ≡ packing_bound c.args.weights.now c.args.fixings.now.pairs
  shown : to_z w128 (of_z w128 (to_z w128 (of_z w128 c.load_margins-bound.result) -ℤ to_z w128 c.multipliers.result)) ≡ record_value c.args.weights.now c.args.fixings.now.pairs c.pack_all.new.rec

whole : (c : goal.After-multipliers) → Whole c
whole c =
    let C = c.args.weights.now in
    let G = c.args.fixings.now.pairs in
    let bound = c.load_margins-bound.result in
    let fits_bound : FitsSigned w128 bound = search rules in
    let read : to_z w128 (of_z w128 bound) ≡ pair_bound C G = to_z-of_z w128 bound fits_bound ∙ c.load_margins-bound.ensures.value in
    let taken : to_z w128 c.multipliers.result ≡ pos c.multipliers.result = to_z_pos w128 c.multipliers.result (let few = c.multipliers.ensures.few in omega (arith, few)) in
    let sum = c.multipliers.ensures.sum ∙ ap (λ (r : ScaledTerms). sum_by (λ t. t.multiplier) r.terms) c.pack_all.ensures.packed in
    let fits : FitsSigned w128 (to_z w128 (of_z w128 bound) -ℤ to_z w128 c.multipliers.result) = search rules in
    let value = to_z-of_z w128 _ fits ∙ ap (λ x. x -ℤ to_z w128 c.multipliers.result) read ∙ ap (λ x. pair_bound C G -ℤ x) (taken ∙ ap pos sum) in
    record { value = value; shown = value ∙ sym (packing_bound-shown C G) ∙ sym (ap (λ (r : ScaledTerms). record_value C G r) c.pack_all.ensures.packed) }

pub returns-clause-value : goal.returns-clause-value
returns-clause-value c = (whole c).value

pub returns-clause-shown : goal.returns-clause-shown
returns-clause-shown c = (whole c).shown

pub returns-clause-cuts : goal.returns-clause-cuts
returns-clause-cuts c = record { cuts = c.multipliers.ensures.terms.cuts; fit = c.pack_all.ensures.packing.fit }

pub returns-clause-bounds : goal.returns-clause-bounds
returns-clause-bounds c s o x = record_bounds c.args.weights.now c.args.fixings.now.pairs c.pack_all.new.rec _ s c.pack_all.ensures.packing.scale o x c.multipliers.ensures.terms.cuts (whole c).shown

pub returns-clause-at_most : goal.returns-clause-at_most
returns-clause-at_most c = rw (whole c).value (packing_bound-le c.args.weights.now c.args.fixings.now.pairs)

pub returns-clause-exhausted : goal.returns-clause-exhausted
returns-clause-exhausted c =
    all_exhausted c.args.weights.now c.args.fixings.now.pairs c.pack_all.new.rec c.pack_all.new.table c.multipliers.ensures.terms.bounded_count c.pack_all.ensures.packing.residuals c.pack_all.ensures.passed

pub returns-clause-packed_exhausted : goal.returns-clause-packed_exhausted
returns-clause-packed_exhausted c k d l =
    let terms = c.pack_all.new.rec.terms in
    exhausted c.args.weights.now c.args.fixings.now.pairs terms c.pack_all.new.table (get_or terms k d).cut c.pack_all.ensures.packing.residuals (c.pack_all.ensures.packing.spent k d l)
