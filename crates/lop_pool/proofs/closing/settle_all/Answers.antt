use Rattle.std.proofs.Common.{◌≡◌, ◌≢◌, ℕ, ◌+◌, ◌<◌, ◌≤◌, ◌⊎◌, inl, inr, ◌∙◌, length, get_or, arith, refl, sym, subst, length-set}
use Rattle.std.proofs.lemmas.Bool.{cases_eq, cases_lt}
use Rattle.std.proofs.lemmas.List.Elements.{AllWithin-more_set}
use Rattle.lop_pool.specs.Events.{events_by}
use Rattle.lop_pool.specs.Holding.{HasNone}
use Rattle.lop_pool.specs.Workers.{WorkerFits, HasLeft}
use Rattle.lop_pool.proofs.HoldingLemmas.{none_counted}
use Rattle.lop_pool.proofs.PlaceLemmas.{from_set}
use Rattle.lop_pool.proofs.RelayLemmas.{left_in, still_none}
use Rattle.lop_pool.proofs.closing.settle_all.Goals as goal

done_before : (w k count : ℕ) → w ≢ k + 1 → (w ≤ k + 1) ⊎ (count < w) → (w ≤ k) ⊎ (count < w)
done_before w k count ne h = elim h [ inl le ↦ inl (omega (arith, le, ne)) | inr gt ↦ inr gt ]

at_first : (w count : ℕ) → (w ≤ 0) ⊎ (count < w) → (w ≡ 0) ⊎ (count < w)
at_first w count h = elim h [ inl le ↦ inl (omega (arith, le)) | inr gt ↦ inr gt ]

at_last : (w k count : ℕ) → count ≤ k → (w ≤ k) ⊎ (count < w)
at_last w k count le = elim (cases_lt k w) [ inl lt ↦ inr (omega (arith, lt, le)) | inr other ↦ inl (omega (arith, other)) ]

pub loop-k-init : goal.loop-k-init
loop-k-init g c = record {
  len = refl;
  same_problem = refl;
  history = c.requires.history;
  rises = omega arith;
  fits = λ k d lo hi. absurd (omega (arith, hi));
  idle = λ k d lo hi. absurd (omega (arith, hi));
  rest = λ j d le ll. c.requires.left j d ll;
  none = λ w h. c.requires.none w (at_first w (length c.args.workers.now) h);
}

pub loop-k-preserved : goal.loop-k-preserved
loop-k-preserved g c =
    let lt : c.loop-k.k < length c.loop-k.workers = omega (arith, c.loop-k-test.true, c.loop-k.invariant.len, c.loop-k.auto.workers) in
    record {
      len = length-set c.loop-k.workers c.loop-k.k c.settle.new.worker ∙ c.loop-k.invariant.len;
      same_problem = c.settle.ensures.same_problem ∙ c.loop-k.invariant.same_problem;
      history = c.settle.ensures.after;
      rises = omega (arith, c.settle.ensures.rises, c.loop-k.invariant.rises);
      fits = AllWithin-more_set c.loop-k.workers c.loop-k.k c.settle.new.worker lt (WorkerFits g.J.Judge.objects c.args.weights.now.size) c.loop-k.invariant.fits c.settle.ensures.fits;
      idle = AllWithin-more_set c.loop-k.workers c.loop-k.k c.settle.new.worker lt (λ w. w.held ≡ 0) c.loop-k.invariant.idle c.settle.ensures.idle;
      rest = from_set (λ k w. HasLeft g.J.Judge.objects g.J.Judge.judged c.settle.new.core.problem c.args.weights.now (k + 1) (events_by (k + 1) c.settle.new.core.journal) w) c.loop-k.workers c.loop-k.k c.settle.new.worker
          (λ j d le ll. left_in g.J.Judge.objects g.J.Judge.judged c.loop-k.core.problem c.args.weights.now c.settle.new.core.problem (j + 1) (events_by (j + 1) c.loop-k.core.journal) (events_by (j + 1) c.settle.new.core.journal)
          (get_or c.loop-k.workers j d) c.settle.ensures.same_problem (c.settle.ensures.others (j + 1) (omega (arith, le))) (c.loop-k.invariant.rest j d (omega (arith, le)) ll));
      none = λ w h. elim (cases_eq w (c.loop-k.k + 1)) [
        | inl same ↦ subst (λ (n : ℕ). HasNone n c.settle.new.core.state) (sym same) c.settle.ensures.none
        | inr other ↦ still_none c.loop-k.core.problem c.loop-k.core c.settle.new.core w c.loop-k.invariant.history c.settle.ensures.after refl c.settle.ensures.same_problem (c.settle.ensures.others w other)
            (c.loop-k.invariant.none w (done_before w c.loop-k.k (length c.args.workers.now) other h))
      ];
    }

pub returns-clause-none_out : goal.returns-clause-none_out
returns-clause-none_out g c =
    none_counted c.loop-k.core.state (λ w. c.loop-k.invariant.none w (at_last w c.loop-k.k (length c.args.workers.now) (omega (arith, c.loop-k-test.false, c.loop-k.invariant.len, c.loop-k.auto.workers))))
