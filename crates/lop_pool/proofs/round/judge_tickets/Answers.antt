use Rattle.std.proofs.Common.{◌<◌, ◌∙◌, length, get_or, arith, refl, ap, sym, subst}
use Rattle.std.proofs.lemmas.List.Elements.{All-set}
use Rattle.lop_leaf.specs.Sound.{IsSoundTicket}
use Rattle.lop_core.specs.Journal.{replay}
use Rattle.lop_turn.specs.declared.view.View.{View}
use Rattle.lop_pool.specs.declared.event.Event.{Event}
use Rattle.lop_pool.specs.declared.parcel.Parcel.{Parcel}
use Rattle.lop_pool.specs.Holding.{IsJudgedParcel}
use Rattle.lop_pool.specs.Workers.{ParcelFits}
use Rattle.lop_pool.proofs.RoundLemmas.{marked_pass}
use Rattle.lop_pool.proofs.BatchLemmas.{below_more, after_more, like_itself, like_set, like_tickets}
use Rattle.lop_pool.proofs.round.judge_tickets.Goals as goal

pub judge_ticket-requires-clause-sound : goal.judge_ticket-requires-clause-sound
judge_ticket-requires-clause-sound g c κs within =
    subst (λ (q : Parcel). IsSoundTicket c.args.weights.now q.ticket) (sym c.index_mut.ensures.value) (c.loop-k.invariant.sound c.loop-k.k c.index_mut.result.now (omega arith) c.loop-k-test.true)

pub loop-k-init : goal.loop-k-init
loop-k-init g c = record {
  fits = c.requires.fits;
  pass = c.requires.pass;
  mine = refl;
  like = λ j d lt. like_itself (get_or c.args.worker.now.parcels.items j d).ticket;
  sound = λ j d lo hi. c.requires.sound j d hi;
  results = λ j d lt. absurd (omega (arith, lt));
}

pub loop-k-preserved : goal.loop-k-preserved
loop-k-preserved g c =
    let lt : c.loop-k.k < length c.loop-k.worker.parcels.items = omega (arith, c.loop-k-test.true, c.requires.within, c.loop-k.invariant.fits.eight, c.loop-k.worker.parcels.ok.0) in
    record {
      fits = record {
        judge = c.judge_ticket.ensures.judge;
        eight = c.loop-k.invariant.fits.eight;
        parcels = All-set (ParcelFits c.args.weights.now.size) c.loop-k.worker.parcels.items c.loop-k.k c.judge_ticket.new.parcel c.judge_ticket.ensures.fits c.loop-k.invariant.fits.parcels;
        within = c.loop-k.invariant.fits.within;
      };
      pass = marked_pass c.args.turn.now c.args.about.now.value.problem c.args.number c.loop-k.pass c.judge_ticket.new.pass c.judge_ticket.ensures.turn c.judge_ticket.ensures.view c.loop-k.invariant.pass;
      mine = ap (λ (v : View Event). v.mine) c.judge_ticket.ensures.view ∙ c.loop-k.invariant.mine;
      like = like_set c.args.worker.now.parcels.items c.loop-k.worker.parcels.items c.loop-k.k c.args.count c.index_mut.result.now c.judge_ticket.new.parcel lt c.loop-k-test.true c.index_mut.ensures.value c.judge_ticket.ensures.like c.loop-k.invariant.like;
      sound = after_more c.loop-k.worker.parcels.items c.loop-k.k c.judge_ticket.new.parcel lt (λ (q : Parcel). IsSoundTicket c.args.weights.now q.ticket) c.args.count c.loop-k.invariant.sound;
      results = below_more c.loop-k.worker.parcels.items c.loop-k.k c.judge_ticket.new.parcel lt (IsJudgedParcel g.J.Judge.judged c.args.weights.now) c.judge_ticket.ensures.judged c.loop-k.invariant.results;
    }

pub returns-clause-holds : goal.returns-clause-holds
returns-clause-holds g c = λ j lj e. record {
  tickets = like_tickets c.args.number c.args.worker.now.parcels.items c.loop-k.worker.parcels.items c.args.count (replay c.args.about.now.value.problem j) c.loop-k.invariant.like (c.requires.tickets j lj (e ∙ c.loop-k.invariant.mine));
  results = λ i d lt. c.loop-k.invariant.results i d (omega (arith, lt, c.loop-k-test.false));
}
