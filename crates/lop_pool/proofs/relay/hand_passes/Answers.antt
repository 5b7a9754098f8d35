use Rattle.std.proofs.Common.{◌≡◌, ◌+◌, ◌<◌, ◌≤◌, ◌∙◌, length, arith, ap, length-set}
use Rattle.std.proofs.lemmas.List.Elements.{All-set}
use Rattle.lop_turn.specs.declared.view.View.{View}
use Rattle.lop_pool.specs.declared.event.Event.{Event}
use Rattle.lop_pool.specs.Workers.{WorkerFits, IsAtWork}
use Rattle.lop_pool.proofs.PlaceLemmas.{below_set}
use Rattle.lop_pool.proofs.RelayLemmas.{first_split, split_more, handed}
use Rattle.lop_pool.proofs.relay.hand_passes.Goals as goal
use Rattle.lop_pool.specs.declared.pool.TheConstants.{MAX_WORKERS}

pub loop-k-preserved : goal.loop-k-preserved
loop-k-preserved g c =
    let lt : c.loop-k.k < length c.loop-k.workers = omega (arith, c.loop-k-test.true, c.loop-k.invariant.len, c.loop-k.auto.workers) in
    let fits = c.hand_pass.ensures.fits c.args.weights.now.size (c.loop-k.invariant.fits c.loop-k.k c.index-workers-k.result lt) in
    let idle : c.hand_pass.new.worker.held ≡ 0 = c.hand_pass.ensures.held ∙ c.loop-k.invariant.idle c.loop-k.k c.index-workers-k.result lt in
    let small : c.loop-k.k + 1 ≤ MAX_WORKERS = omega (arith, lt, c.loop-k.invariant.len, c.requires.at_most) in
    record {
      len = length-set c.loop-k.workers c.loop-k.k c.hand_pass.new.worker ∙ c.loop-k.invariant.len;
      turn = c.hand_pass.ensures.turn ∙ c.loop-k.invariant.turn;
      first = first_split c.args.about.now.value c.loop-k.first.view c.hand_pass.new.first.view (c.loop-k.k + 1) c.hand_pass.ensures.first c.loop-k.invariant.first;
      seen = ap (λ (v : View Event). v.seen) c.hand_pass.ensures.first ∙ c.loop-k.invariant.seen;
      split = split_more c.loop-k.first.view c.hand_pass.new.first.view c.loop-k.k c.hand_pass.ensures.first c.loop-k.invariant.split;
      fits = All-set (WorkerFits g.J.Judge.objects c.args.weights.now.size) c.loop-k.workers c.loop-k.k c.hand_pass.new.worker fits c.loop-k.invariant.fits;
      idle = All-set (λ w. w.held ≡ 0) c.loop-k.workers c.loop-k.k c.hand_pass.new.worker idle c.loop-k.invariant.idle;
      done = below_set (λ k w. IsAtWork g.J.Judge.objects g.J.Judge.judged c.args.about.now.value.problem c.args.weights.now c.args.turn.now (k + 1) w) c.loop-k.workers c.loop-k.k c.hand_pass.new.worker lt
          (handed g.J.Judge.objects g.J.Judge.judged c.args.about.now.value c.args.weights.now c.args.turn.now c.loop-k.first.view (c.loop-k.k + 1) c.hand_pass.new.worker small c.requires.weights c.requires.history c.requires.none_out
          c.loop-k.invariant.first c.loop-k.invariant.seen fits idle c.hand_pass.ensures.pass)
          c.loop-k.invariant.done;
    }
