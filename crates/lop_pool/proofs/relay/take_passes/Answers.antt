use Rattle.std.proofs.Common.{◌+◌, ◌<◌, ◌∙◌, length, get_or, arith, refl, length-set}
use Rattle.lop_pool.specs.Workers.{IsAtWork, IsBack}
use Rattle.lop_pool.proofs.PlaceLemmas.{below_set, from_set}
use Rattle.lop_pool.proofs.RelayLemmas.{back_here, back_later}
use Rattle.lop_pool.proofs.relay.take_passes.Goals as goal

pub loop-k-init : goal.loop-k-init
loop-k-init g c = record { len = refl; turn = refl; first = c.requires.first; split = refl; rest = λ k d le ll. c.requires.left k d ll; done = λ k d lk ll. absurd (omega (arith, lk)) }

pub loop-k-preserved : goal.loop-k-preserved
loop-k-preserved g c =
    let lt : c.loop-k.k < length c.loop-k.workers = omega (arith, c.loop-k-test.true, c.loop-k.invariant.len, c.loop-k.auto.workers) in
    let ended = c.take_pass.ensures.ended in
    record {
      len = length-set c.loop-k.workers c.loop-k.k c.take_pass.new.worker ∙ c.loop-k.invariant.len;
      turn = c.take_pass.ensures.turn ∙ c.loop-k.invariant.turn;
      first = c.take_pass.ensures.first;
      split = c.take_pass.ensures.split ∙ c.loop-k.invariant.split;
      rest = from_set (λ k w. IsAtWork g.J.Judge.objects g.J.Judge.judged c.args.about.now.value.problem c.args.weights.now c.args.turn.now (k + 1) w) c.loop-k.workers c.loop-k.k c.take_pass.new.worker
          (λ j d le ll. c.loop-k.invariant.rest j d (omega (arith, le)) ll);
      done = below_set (λ k w. IsBack g.J.Judge.objects g.J.Judge.judged c.args.about.now.value.problem c.args.weights.now c.take_pass.new.first.view (k + 1) w) c.loop-k.workers c.loop-k.k c.take_pass.new.worker lt
          (back_here g.J.Judge.objects g.J.Judge.judged c.args.about.now.value.problem c.args.weights.now c.loop-k.first.view c.take_pass.new.first.view (c.loop-k.k + 1) ended.0 c.take_pass.new.worker ended.1 ended.2)
          (λ j d lj ll. back_later g.J.Judge.objects g.J.Judge.judged c.args.about.now.value.problem c.args.weights.now c.loop-k.first.view c.take_pass.new.first.view (c.loop-k.k + 1) (j + 1) ended.0 (get_or c.loop-k.workers j d) ended.1
          (omega (arith, lj)) (c.loop-k.invariant.done j d lj ll));
    }
