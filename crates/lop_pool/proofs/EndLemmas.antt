-- How a search begins and ends.
use Rattle.std.proofs.Common.{◌≡◌, ℕ, ◌+◌, ◌*◌, ◌≤◌, inl, inr, List, [], ◌∷◌, ◌++◌, length, take, drop, arith, sym, ◌∙◌, refl, ap, subst}
use Rattle.std.specs.Prelude.{ℤ, ◌≤ℤ◌, ◌↔◌, All}
use Rattle.std.specs.Int.{int_max}
use Rattle.std.proofs.lemmas.Int.{ints, clamps}
use Rattle.std.proofs.lemmas.List.{take-append-le}
use Rattle.std.proofs.lemmas.List.Elements.{All-take}
use Rattle.lop_model.specs.Bound.{pair_bound}
use Rattle.lop_core.specs.declared.journal.Entry.{Entry}
use Rattle.lop_core.specs.Tree.{out_count}
use Rattle.lop_core.specs.Machine.{Problem, SearchState, root_state, state_bound}
use Rattle.lop_core.specs.Journal.{replay, AreCounted}
use Rattle.lop_core.specs.Core.{CoreFields, HasHistory}
use Rattle.lop_core.specs.Outcome.{IsFinished}
use Rattle.lop_core.specs.AllOrders.{factorial}
use Rattle.lop_core.proofs.DoneNodes.{evaluated_live}
use Rattle.lop_core.proofs.NodeCount.{core_nodes_factorial}
use Rattle.lop_core.proofs.Monotone.{core_from_root, core_from_start}
use Rattle.lop_pool.specs.declared.end.SearchEnd.{SearchEnd}
use Rattle.lop_pool.specs.declared.end.SearchEnd.TheVariants.{Closed, Spent}
use Rattle.lop_pool.specs.Ends.{NoneLive, IsSpent, IsEnd}

no_entries : (journal : List Entry) → length journal ≡ 0 → journal ≡ []
no_entries [] e = refl
no_entries (x ∷ xs) e = absurd (omega arith)

-- where no node is out and none was evaluated there is no entry
pub no_journal : (problem : Problem) (s : SearchState) (journal : List Entry) → AreCounted problem s journal → out_count s.nodes ≡ 0 → s.evaluated ≡ 0 → journal ≡ []
no_journal problem s journal counts none zero = no_entries journal (omega (arith, counts.entries, none, zero))

at_root : (a : CoreFields) → HasHistory a → a.journal ≡ [] → a.state ≡ root_state a.problem
at_root a h e = h.replayed ∙ ap (replay a.problem) e

pub best_kept : (a b : CoreFields) → HasHistory a → a.journal ≡ [] → HasHistory b → b.problem ≡ a.problem → a.state.best ≤ℤ b.state.best
best_kept a b ha e hb same =
    let first : a.state.best ≡ b.problem.start = ap (λ (s : SearchState). s.best) (at_root a ha e) ∙ ap (λ (p : Problem). p.start) (sym same) in
    subst (λ (z : ℤ). z ≤ℤ b.state.best) (sym first) (core_from_start b hb)

root_above : (p : Problem) → pair_bound p.weights [] ≤ℤ state_bound (root_state p)
root_above p =
    let top : ℤ = int_max p.start (pair_bound p.weights []) in
    let above : pair_bound p.weights [] ≤ℤ int_max p.start (pair_bound p.weights []) = omega (arith, ints, clamps) in
    above

pub bound_kept : (a b : CoreFields) → HasHistory a → a.journal ≡ [] → HasHistory b → b.problem ≡ a.problem → state_bound b.state ≤ℤ state_bound a.state
bound_kept a b ha e hb same =
    let low : state_bound b.state ≤ℤ pair_bound b.problem.weights [] = core_from_root b hb in
    let high : pair_bound b.problem.weights [] ≤ℤ state_bound (root_state b.problem) = root_above b.problem in
    let first : state_bound (root_state b.problem) ≡ state_bound a.state = ap (λ (p : Problem). state_bound (root_state p)) same ∙ ap state_bound (sym (at_root a ha e)) in
    omega (arith, ints, low, high, first)

pub closed_iff : (core : CoreFields) (e : SearchEnd) → IsEnd core e → (e ≡ Closed) ↔ NoneLive core
closed_iff core Closed h = (λ _. h, λ _. refl)
closed_iff core Spent h = (λ (same : Spent ≡ Closed). absurd cc, λ none. absurd (none h.0.0 h.0.1))

pub spent_iff : (core : CoreFields) (e : SearchEnd) → IsEnd core e → (e ≡ Spent) ↔ IsSpent core
spent_iff core Closed h = (λ (same : Closed ≡ Spent). absurd cc, λ spent. absurd (h spent.0.0 spent.0.1))
spent_iff core Spent h = (λ _. h, λ _. refl)

-- a budget for all nodes that there can be closes the search
pub closed_by : (core : CoreFields) (e : SearchEnd) → HasHistory core → IsEnd core e → 2 * factorial core.problem.weights.size ≤ core.problem.budget + 1 → e ≡ Closed
closed_by core Closed h end enough = refl
closed_by core Spent h end enough = let more = evaluated_live core end.0.0 h end.0.1 in absurd (omega (arith, end.1, enough, core_nodes_factorial core h, more))

pub finished : (core : CoreFields) (e : SearchEnd) → IsEnd core e → out_count core.state.nodes ≡ 0 → IsFinished core.problem core.state
finished core Closed h none = record { none_out = none; closed_or_spent = inl h }
finished core Spent h none = record { none_out = none; closed_or_spent = inr h.1 }

-- what was lent as a whole comes back as a whole
pub all_back : {X : Type 0} (P : X → Type 0) (n : ℕ) (new items : List X) → length new ≡ n → All P new → All P (take n (new ++ drop (length new) items))
all_back P n new items e all = subst (All P) (sym (take-append-le n new (drop (length new) items) (omega (arith, e)))) (All-take P n new all)
