use Rattle.std.proofs.Common.{arith, sym, subst}
use Rattle.std.specs.Prelude.{All}
use Rattle.std.proofs.lemmas.List.Elements.{All-push}
use Rattle.lop_pool.specs.Workers.{ParcelFits}
use Rattle.lop_pool.proofs.worker.Worker.parcels.Goals as goal

pub loop-preserved : goal.loop-preserved
loop-preserved g c = record {
  len = omega (arith, c.loop.invariant.len, c.in_ok-push.ensures.len);
  fits = subst (All (ParcelFits c.args.n)) (sym c.in_ok-push.ensures.items) (All-push (ParcelFits c.args.n) c.loop.parcels.items c.in_ok-new.field-0 c.loop.invariant.fits c.in_ok-new.ensures);
}
