use Rattle.std.proofs.Common.{◌≡◌, ℕ, arith, sym, subst}
use Rattle.std.specs.Prelude.{All}
use Rattle.std.proofs.lemmas.List.Elements.{All-push}
use Rattle.lop_tool.proofs.search.judges_for.Goals as goal

pub loop-preserved : goal.loop-preserved
loop-preserved c = record {
  count = omega (arith, c.loop.invariant.count, c.in_ok-push.ensures.len);
  same_n = subst (All (λ (j : ℕ). j ≡ c.args.n)) (sym c.in_ok-push.ensures.items)
      (All-push (λ (j : ℕ). j ≡ c.args.n) c.loop.judges.items c.in_ok-new.field-0 c.loop.invariant.same_n c.in_ok-new.ensures);
}
