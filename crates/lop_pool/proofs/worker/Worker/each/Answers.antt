use Rattle.std.proofs.Common.{◌≡◌, arith, sym, subst}
use Rattle.std.specs.Prelude.{All}
use Rattle.std.proofs.lemmas.List.Elements.{All-pop, All-push}
use Rattle.lop_pool.specs.Workers.{WorkerFits}
use Rattle.lop_pool.proofs.worker.Worker.each.Goals as goal

pub loop-judge-preserved : goal.loop-judge-preserved
loop-judge-preserved g c = record {
  len = omega (arith, c.loop-judge.invariant.len, c.in_ok-push.ensures.len, c.in-Some.ensures.len);
  judges = (All-pop (λ j. g.J.Judge.objects j ≡ c.args.n) c.loop-judge.judges.items c.pop.new.self.items c.pop.result c.pop.ensures.items c.loop-judge.invariant.judges).0;
  fits = subst (All (WorkerFits g.J.Judge.objects c.args.n)) (sym c.in_ok-push.ensures.items)
      (All-push (WorkerFits g.J.Judge.objects c.args.n) c.loop-judge.workers.items c.in_ok-new.field-0 c.loop-judge.invariant.fits c.in_ok-new.ensures);
}
