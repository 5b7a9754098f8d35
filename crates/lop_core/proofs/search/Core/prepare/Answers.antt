use Rattle.std.proofs.Common.{rules, ◌≡◌, ◌<ℤ◌, ◌≤ℤ◌, vec_capacity, ℤ, List, IsPermutation, [], ◌∷◌, ◌++◌, length, arith, sym, ◌∙◌, ap, subst, FitsSigned, to_z, of_z}
use Rattle.std.proofs.lemmas.Int.{to_z-of_z}
use Rattle.std.proofs.lemmas.List.FromFn.{length-range_with_len}
use mir.Syntax.{w128}
use Rattle.lop_model.specs.Order.{IsOrder}
use Rattle.lop_core.specs.declared.node.SearchNode.{SearchNode}
use Rattle.lop_model.specs.Bound.{pair_bound}
use Rattle.lop_core.specs.Tree.{no_pair, child}
use Rattle.lop_core.specs.declared.candidates.Candidate.{Candidate}
use Rattle.lop_core.specs.Candidates.{AreCandidates, candidate, candidates_of}
use Rattle.lop_core.proofs.CandidateLemmas.{root_candidates}
use Rattle.lop_core.proofs.CoreLemmas.{made}
use Rattle.lop_core.proofs.OutLemmas.{no_outs}
use Rattle.lop_core.proofs.search.Core.prepare.Goals as goal

pub copy_from-requires : goal.copy_from-requires
copy_from-requires c = ap length (c.in_ok-kept.ensures) ∙ (length-range_with_len 0 c.n-n.result ∙ c.n-n.ensures.size)

pub invariant_of-result-2 : goal.invariant_of-result-2
invariant_of-result-2 c =
    let same : c.in_ok-copy.field-0 ≡ c.args.weights.now = c.in_ok-copy.ensures in
    let fits : FitsSigned w128 c.value-best.result = search rules in
    let fits_bound : FitsSigned w128 c.in_ok-bound.bound = search rules in
    let start = to_z-of_z w128 c.value-best.result fits ∙ c.value-best.ensures.value in
    let order : IsOrder c.args.weights.now.size c.args.order.now = subst (λ n. IsOrder n c.args.order.now) (c.n-n.ensures.size ∙ c.requires.same_n) c.n-n.ensures.order in
    let bound : to_z w128 (of_z w128 c.in_ok-bound.bound) ≡ pair_bound c.args.weights.now [] = to_z-of_z w128 c.in_ok-bound.bound fits_bound ∙ c.in_ok-bound.ensures in
    let nodes : c.put_last.new.list.items ≡ child 0 no_pair (pair_bound c.args.weights.now []) ∷ [] =
    c.put_last.ensures.items ∙ (ap (λ xs. xs ++ c.child.result ∷ []) c.in_ok-nodes.ensures.items
    ∙ ap (λ (x : SearchNode). x ∷ []) (c.child.ensures ∙ (ap (λ k. child 0 (record { before = k; after = c.default.result.after }) (to_z w128 (of_z w128 c.in_ok-bound.bound))) c.default.ensures.0
    ∙ (ap (λ k. child 0 (record { before = 0; after = k }) (to_z w128 (of_z w128 c.in_ok-bound.bound))) c.default.ensures.1 ∙ ap (child 0 no_pair) bound)))) in
    let journal : c.in_ok-with_capacity-2.field-0.items ≡ [] = search rules in
    let live = subst (λ (b : ℤ). to_z w128 (of_z w128 c.value-best.result) <ℤ b → IsPermutation (candidate b 0 ∷ []) (candidates_of c.put_live.new.self)) bound
    (subst (λ (cs : List Candidate). to_z w128 (of_z w128 c.value-best.result) <ℤ to_z w128 (of_z w128 c.in_ok-bound.bound) → IsPermutation (candidate (to_z w128 (of_z w128 c.in_ok-bound.bound)) 0 ∷ cs) (candidates_of c.put_live.new.self)) c.in_ok-candidates.ensures.empty c.put_live.ensures.live) in
    let dead = subst (λ (b : ℤ). b ≤ℤ to_z w128 (of_z w128 c.value-best.result) → candidates_of c.put_live.new.self ≡ []) bound (λ low. c.put_live.ensures.dead low ∙ c.in_ok-candidates.ensures.empty) in
    let kept = made c.in_ok-copy.field-0 c.args.weights.now c.args.budget _ c.put_last.new.list.items c.in_ok-with_capacity-2.field-0.items _ c.args.order.now _ same start order nodes journal (c.kept.view_is ∙ c.copy_from.ensures) c.in_ok-prepare.ensures.book in (
      kept.0,
      kept.1,
      record {
        positive = c.requires.positive;
        within_limit = c.requires.within_limit;
        for_nodes = omega (arith, c.put_last.ensures.room, c.in_ok-nodes.ensures.capacity);
        for_entries = omega (arith, c.in_ok-with_capacity-2.ensures.capacity);
        for_numbers = c.in_ok-prepare.ensures.for_nodes;
        for_records = c.in_ok-prepare.ensures.for_records;
      },
      no_outs c.put_last.new.list.items (pair_bound c.args.weights.now []) c.args.budget _ _ nodes c.in_ok-with_capacity.ensures.items (omega (arith, c.in_ok-with_capacity.ensures.capacity)),
      c.in_ok-prepare.ensures.kept,
      c.in_ok-prepare.ensures.term_room,
      record {
        kept = subst (λ (ns : List SearchNode). AreCandidates ns (to_z w128 (of_z w128 c.value-best.result)) (candidates_of c.put_live.new.self)) (sym nodes)
            (root_candidates (pair_bound c.args.weights.now []) _ (candidates_of c.put_live.new.self) live dead (c.put_live.ensures.ordered c.in_ok-candidates.ensures.ordered));
        few = omega (arith, c.put_live.ensures.count, c.in_ok-candidates.ensures.count, ap length c.in_ok-with_capacity.ensures.items);
        room = omega (arith, c.put_live.ensures.room, c.in_ok-candidates.ensures.room);
        spare = omega (arith, ap vec_capacity c.put_live.ensures.spare, c.in_ok-candidates.ensures.spare);
      },
    )
