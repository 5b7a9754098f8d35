-- What the numbers of a finished run stand for.
use Rattle.std.specs.Prelude.{◌≡◌, ℕ, ℤ, List, ◌⊎◌}
use Rattle.lop_model.specs.Order.{IsOrder}
use Rattle.lop_model.specs.Matrix.{Matrix, weight}
use Rattle.lop_core.specs.declared.journal.Entry.{Entry}
use Rattle.lop_core.specs.Tree.{out_count}
use Rattle.lop_core.specs.Machine.{Problem, SearchState, IsLive, state_bound}
use Rattle.lop_core.specs.Journal.{replay, IsLawfulJournal}

-- no node is out, and no node is live or the budget was spent
pub record IsFinished (problem : Problem) (s : SearchState) : Type 0 where
  pub none_out : out_count s.nodes ≡ 0
  pub closed_or_spent : ((node : ℕ) → ¬ (IsLive s.nodes s.best node)) ⊎ (s.evaluated ≡ problem.budget)

-- s is an order of value v, and some lawful journal leads to best v, bound b and that many nodes evaluated, and is finished
pub record IsOutcome (C : Matrix) (budget : ℕ) (s : List ℕ) (v b : ℤ) (evaluated : ℕ) : Type 0 where
  pub is_order : IsOrder C.size s
  pub weighs : weight C s ≡ v
  pub start : ℤ
  pub journal : List Entry
  pub lawful : IsLawfulJournal (record { weights = C; start = start; budget = budget }) journal
  pub best : (replay (record { weights = C; start = start; budget = budget }) journal).best ≡ v
  pub bound : state_bound (replay (record { weights = C; start = start; budget = budget }) journal) ≡ b
  pub evaluated_is : (replay (record { weights = C; start = start; budget = budget }) journal).evaluated ≡ evaluated
  pub finished : IsFinished (record { weights = C; start = start; budget = budget }) (replay (record { weights = C; start = start; budget = budget }) journal)
