use Rattle.std.proofs.Common.{◌≡◌, ◌∙◌, ap, rules, to_z, of_z, FitsSigned}
use Rattle.std.specs.Int.{w128}
use Rattle.std.proofs.lemmas.Int.{to_z-of_z}
use Rattle.lop_leaf.specs.Record.{ScaledTerms}
use Rattle.lop_leaf.specs.Bound.{record_value}
use Rattle.lop_node.proofs.SoundLemmas.{quotient_of}
use Rattle.lop_node.proofs.pack_judge.inherited_bound.Goals as goal

pub returns : goal.returns
returns c =
    let C = c.args.weights.now in
    let G = c.args.fixings.now.pairs in
    let t = c.args.ticket.now in
    let fits_upper : FitsSigned w128 c.upper-upper.result = search rules in
    let fits_bound : FitsSigned w128 c.bound_of.result = search rules in
    let value : to_z w128 (of_z w128 c.upper-upper.result) ≡ record_value C G t.inherited = to_z-of_z w128 c.upper-upper.result fits_upper ∙ c.upper-upper.ensures.value ∙ ap (λ (r : ScaledTerms). record_value C G r) c.inherited-inherited.ensures in
    let scale : c.scale.result ≡ t.inherited.scale = c.scale.ensures.value ∙ ap (λ (r : ScaledTerms). r.scale) c.inherited-inherited.ensures in
    let both = quotient_of (to_z w128 (of_z w128 c.upper-upper.result)) (record_value C G t.inherited) c.scale.result t.inherited.scale c.bound_of.result (to_z w128 (of_z w128 c.bound_of.result)) t.bound
    value scale (to_z-of_z w128 c.bound_of.result fits_bound) c.bound_of.ensures.greatest c.bound_of.ensures.certified (c.requires.ticket.certified.each G c.requires.closure) in
    record { quotient = both.0; no_more = both.1; room = c.upper-upper.ensures.room }
