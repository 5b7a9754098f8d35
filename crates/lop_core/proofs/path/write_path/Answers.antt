use Rattle.std.proofs.Common.{ℕ, ◌<◌, ◌∙◌, ◌++◌, ◌∷◌, [], List, length, reverse, ap, subst, sym, refl, arith}
use Rattle.lop_model.specs.declared.pair.Pair.{Pair}
use Rattle.lop_leaf.specs.Ticket.{TicketFields, pair_count}
use Rattle.lop_core.specs.Tree.{node_at}
use Rattle.lop_core.proofs.Linked.{climbed, climbed_up}
use Rattle.lop_core.proofs.path.write_path.Goals as goal

pub push-requires : goal.push-requires
push-requires c =
    let up : 0 < c.loop-at.at = omega (arith, c.loop-at-test.true) in
    let s = climbed c.args.nodes.now c.args.node c.loop-at.at c.loop-at.into.path c.requires.linked c.loop-at.invariant.inside up c.loop-at.invariant.so_far in
    subst (λ (k : ℕ). length c.loop-at.into.path < pair_count k) (sym (ap (λ (t : TicketFields). t.size) c.loop-at.invariant.rest)) (omega (arith, s.2, c.requires.room))

pub loop-at-smaller : goal.loop-at-smaller
loop-at-smaller c =
    let up : 0 < c.loop-at.at = omega (arith, c.loop-at-test.true) in
    (climbed c.args.nodes.now c.args.node c.loop-at.at c.loop-at.into.path c.requires.linked c.loop-at.invariant.inside up c.loop-at.invariant.so_far).0

pub loop-at-preserved : goal.loop-at-preserved
loop-at-preserved c =
    let up : 0 < c.loop-at.at = omega (arith, c.loop-at-test.true) in
    let s = climbed c.args.nodes.now c.args.node c.loop-at.at c.loop-at.into.path c.requires.linked c.loop-at.invariant.inside up c.loop-at.invariant.so_far in
    record {
      inside = omega (arith, s.0, c.loop-at.invariant.inside);
      so_far = rw c.push.ensures s.1;
      rest = rw c.push.ensures (ap (λ (t : TicketFields). record t { path = c.loop-at.into.path ++ (node_at c.args.nodes.now c.loop-at.at).pair ∷ [] }) c.loop-at.invariant.rest);
    }

pub returns : goal.returns
returns c =
    let whole = climbed_up c.args.nodes.now c.args.node c.loop-at.into.path (reverse c.loop-at.into.path) c.loop-at.at c.loop-at-test.false c.loop-at.invariant.so_far refl in
    c.reverse_path.ensures ∙ ap (λ (t : TicketFields). record t { path = reverse c.loop-at.into.path }) c.loop-at.invariant.rest ∙ ap (λ (p : List Pair). record c.args.into.now { path = p }) whole
