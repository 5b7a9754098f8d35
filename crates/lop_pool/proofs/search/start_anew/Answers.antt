use Rattle.std.proofs.Common.{◌≡◌, ◌<◌, ◌∙◌, length, arith, length-set}
use Rattle.std.proofs.lemmas.List.Elements.{All-set, AllWithin-more_set}
use Rattle.lop_pool.specs.Workers.{WorkerFits}
use Rattle.lop_pool.proofs.search.start_anew.Goals as goal

pub loop-k-preserved : goal.loop-k-preserved
loop-k-preserved g c =
    let lt : c.loop-k.k < length c.loop-k.workers = omega (arith, c.loop-k-test.true, c.loop-k.invariant.len, c.loop-k.auto.workers) in
    record {
      len = length-set c.loop-k.workers c.loop-k.k c.clear.new.worker ∙ c.loop-k.invariant.len;
      fits = λ n all.
          let whole = c.loop-k.invariant.fits n all in
          All-set (WorkerFits g.J.Judge.objects n) c.loop-k.workers c.loop-k.k c.clear.new.worker
          (c.clear.ensures.fits n (whole c.loop-k.k c.index-workers-k.result lt)) whole;
      idle = AllWithin-more_set c.loop-k.workers c.loop-k.k c.clear.new.worker lt (λ w. w.held ≡ 0) c.loop-k.invariant.idle c.clear.ensures.idle;
    }

pub returns-clause-idle : goal.returns-clause-idle
returns-clause-idle g c = λ k d lt. c.loop-k.invariant.idle k d (omega arith) (omega (arith, lt, c.loop-k-test.false, c.loop-k.invariant.len, c.loop-k.auto.workers))
