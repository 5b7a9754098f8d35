use Rattle.std.proofs.Common.{◌<◌, ◌∙◌, length, arith, refl, sym, subst, length-set}
use Rattle.std.proofs.lemmas.Int.{ints}
use Rattle.std.proofs.lemmas.List.Elements.{All-set}
use Rattle.lop_leaf.specs.Sound.{IsSoundTicket}
use Rattle.lop_core.specs.Machine.{Problem, SearchState}
use Rattle.lop_pool.specs.declared.parcel.Parcel.{Parcel}
use Rattle.lop_pool.specs.Holding.{HasTickets}
use Rattle.lop_pool.specs.Marks.{GrowsWhole}
use Rattle.lop_pool.specs.Workers.{ParcelFits}
use Rattle.lop_pool.proofs.EventLemmas.{grown_same, grown_trans}
use Rattle.lop_pool.proofs.MarkLemmas.{whole_same, whole_trans}
use Rattle.lop_pool.proofs.BatchLemmas.{no_tickets, after_hand, below_more, tickets_before}
use Rattle.lop_pool.proofs.steps.take_nodes.Goals as goal

pub loop-k-init : goal.loop-k-init
loop-k-init g c = record {
  len = refl;
  fits = c.requires.fits;
  same_problem = refl;
  grown = grown_same c.args.number c.args.core.now.journal;
  whole = λ mark. whole_same c.args.core.now.problem mark c.args.number c.args.core.now.journal;
  best = omega (arith, ints);
  history = c.requires.history;
  tickets = no_tickets c.args.number c.args.parcels.now c.args.core.now.state c.requires.none;
  sound = λ k d lt. absurd (omega (arith, lt));
}

pub loop-k-preserved : goal.loop-k-preserved
loop-k-preserved g c =
    let lt : c.loop-k.k < length c.loop-k.parcels = omega (arith, c.loop-k-test.true, c.requires.within, c.loop-k.invariant.len) in
    let same = c.loop-k.invariant.same_problem in
    record {
      len = length-set c.loop-k.parcels c.loop-k.k c.take_node.new.parcel ∙ c.loop-k.invariant.len;
      fits = All-set (ParcelFits c.args.core.now.problem.weights.size) c.loop-k.parcels c.loop-k.k c.take_node.new.parcel
          (subst (λ (q : Problem). ParcelFits q.weights.size c.take_node.new.parcel) same c.take_node.ensures.fits) c.loop-k.invariant.fits;
      same_problem = c.take_node.ensures.same_problem ∙ same;
      grown = grown_trans c.args.number c.args.core.now.journal c.loop-k.core.journal c.take_node.new.core.journal c.loop-k.invariant.grown c.take_node.ensures.grown;
      whole = λ mark. whole_trans c.args.core.now.problem mark c.args.number c.args.core.now.journal c.loop-k.core.journal c.take_node.new.core.journal (c.loop-k.invariant.whole mark)
          (subst (λ (q : Problem). GrowsWhole q mark c.args.number c.loop-k.core.journal c.take_node.new.core.journal) same (c.take_node.ensures.whole mark));
      best = omega (arith, ints, c.loop-k.invariant.best, c.take_node.ensures.best);
      history = c.take_node.ensures.history;
      tickets = after_hand c.args.number c.loop-k.parcels c.loop-k.k c.take_node.new.parcel c.loop-k.core.state c.take_node.new.core.state lt (c.take_node.ensures.handed c.if-not-take_node.false) c.loop-k.invariant.tickets;
      sound = below_more c.loop-k.parcels c.loop-k.k c.take_node.new.parcel lt (λ (q : Parcel). IsSoundTicket c.args.core.now.problem.weights q.ticket)
          (subst (λ (q : Problem). IsSoundTicket q.weights c.take_node.new.parcel.ticket) (c.take_node.ensures.same_problem ∙ same) (c.take_node.ensures.sound c.if-not-take_node.false)) c.loop-k.invariant.sound;
    }

pub returns-then-not-take_node-clause-whole : goal.returns-then-not-take_node-clause-whole
returns-then-not-take_node-clause-whole g c = λ mark.
    whole_trans c.args.core.now.problem mark c.args.number c.args.core.now.journal c.loop-k.core.journal c.take_node.new.core.journal (c.loop-k.invariant.whole mark)
    (subst (λ (q : Problem). GrowsWhole q mark c.args.number c.loop-k.core.journal c.take_node.new.core.journal) c.loop-k.invariant.same_problem (c.take_node.ensures.whole mark))

pub returns-then-not-take_node-clause-tickets : goal.returns-then-not-take_node-clause-tickets
returns-then-not-take_node-clause-tickets g c =
    tickets_before c.args.number c.loop-k.parcels c.loop-k.k c.take_node.new.parcel c.take_node.new.core.state
    (subst (λ (s : SearchState). HasTickets c.args.number c.loop-k.parcels 0 c.loop-k.k s) (sym (c.take_node.ensures.none c.if-not-take_node.true)) c.loop-k.invariant.tickets)
