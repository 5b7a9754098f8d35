use Rattle.std.proofs.Common.{ℕ, ◌∙◌, ap, sym, subst}
use Rattle.std.specs.Prelude.{All}
use Rattle.lop_core.specs.Core.{CoreFields}
use Rattle.lop_core.specs.Tree.{out_count}
use Rattle.lop_core.proofs.Alone.{core_outcome}
use Rattle.lop_pool.specs.Ends.{PoolFields, IsEnd}
use Rattle.lop_pool.specs.Workers.{WorkerFits}
use Rattle.lop_pool.proofs.EndLemmas.{no_journal, best_kept, bound_kept, closed_iff, closed_by, spent_iff, finished, all_back}
use Rattle.lop_pool.proofs.pool.Pool.search.Goals as goal

pub search_with-judged-requires-clause-fits : goal.search_with-judged-requires-clause-fits
search_with-judged-requires-clause-fits g c κs within =
    subst (All (WorkerFits g.J.Judge.objects c.args.weights.now.size)) (sym c.deref_mut.ensures.value)
    (subst (λ (n : ℕ). All (WorkerFits g.J.Judge.objects n) c.self.inside.workers.items) (ap (λ (p : PoolFields). p.size) c.self.view_is ∙ c.requires.same_n) c.self.invariant.0)

pub invariant_of-self : goal.invariant_of-self
invariant_of-self g c = (
  all_back (WorkerFits g.J.Judge.objects c.self.inside.size) c.self.inside.workers.len c.search_with-judged.new.workers c.self.inside.workers.items (c.search_with-judged.ensures.len ∙ c.deref_mut.ensures.len)
      (subst (λ (n : ℕ). All (WorkerFits g.J.Judge.objects n) c.search_with-judged.new.workers) (sym (ap (λ (p : PoolFields). p.size) c.self.view_is ∙ c.requires.same_n)) c.search_with-judged.ensures.fits),
  c.self.invariant.1,
  c.self.invariant.2,
)

pub returns-clause-best : goal.returns-clause-best
returns-clause-best g c =
    best_kept c.args.core c.into_core-core.result c.journal-before.ensures.history (no_journal c.args.core.problem c.args.core.state c.args.core.journal c.journal-before.ensures.counts c.requires.none_out c.requires.none_evaluated)
    c.journal-after.ensures.history (ap (λ (x : CoreFields). x.problem) c.into_core-core.ensures.value ∙ (c.search_with-judged.ensures.same_problem ∙ ap (λ (x : CoreFields). x.problem) c.of-judged.ensures))

pub returns-clause-bound : goal.returns-clause-bound
returns-clause-bound g c =
    bound_kept c.args.core c.into_core-core.result c.journal-before.ensures.history (no_journal c.args.core.problem c.args.core.state c.args.core.journal c.journal-before.ensures.counts c.requires.none_out c.requires.none_evaluated)
    c.journal-after.ensures.history (ap (λ (x : CoreFields). x.problem) c.into_core-core.ensures.value ∙ (c.search_with-judged.ensures.same_problem ∙ ap (λ (x : CoreFields). x.problem) c.of-judged.ensures))

pub returns-clause-closed : goal.returns-clause-closed
returns-clause-closed g c =
    closed_iff c.into_core-core.result c.search_with-judged.result.1 (subst (λ (x : CoreFields). IsEnd x c.search_with-judged.result.1) (sym c.into_core-core.ensures.value) c.search_with-judged.ensures.end)

pub returns-clause-enough : goal.returns-clause-enough
returns-clause-enough g c =
    closed_by c.into_core-core.result c.search_with-judged.result.1 c.journal-after.ensures.history
    (subst (λ (x : CoreFields). IsEnd x c.search_with-judged.result.1) (sym c.into_core-core.ensures.value) c.search_with-judged.ensures.end)

pub returns-clause-spent : goal.returns-clause-spent
returns-clause-spent g c =
    spent_iff c.into_core-core.result c.search_with-judged.result.1 (subst (λ (x : CoreFields). IsEnd x c.search_with-judged.result.1) (sym c.into_core-core.ensures.value) c.search_with-judged.ensures.end)

pub returns-clause-finished : goal.returns-clause-finished
returns-clause-finished g c =
    finished c.into_core-core.result c.search_with-judged.result.1 (subst (λ (x : CoreFields). IsEnd x c.search_with-judged.result.1) (sym c.into_core-core.ensures.value) c.search_with-judged.ensures.end)
    (ap (λ (x : CoreFields). out_count x.state.nodes) c.into_core-core.ensures.value ∙ c.search_with-judged.ensures.none_out)

pub returns-clause-outcome : goal.returns-clause-outcome
returns-clause-outcome g c =
    core_outcome c.into_core-core.result c.journal-after.ensures.history
    (finished c.into_core-core.result c.search_with-judged.result.1 (subst (λ (x : CoreFields). IsEnd x c.search_with-judged.result.1) (sym c.into_core-core.ensures.value) c.search_with-judged.ensures.end)
    (ap (λ (x : CoreFields). out_count x.state.nodes) c.into_core-core.ensures.value ∙ c.search_with-judged.ensures.none_out))
