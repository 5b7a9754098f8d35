use Rattle.std.proofs.Common.{ℕ, ◌<◌}
use Rattle.lop_model.specs.Fixings.{IsDecided}
use Rattle.lop_fix.proofs.fixings.Fixings.first_undecided.Given as goal

abbrev pub invariant-loop-a : goal.invariant-loop-a
invariant-loop-a l = (c d : ℕ) → c < l.a → c < d → d < l.self.size → IsDecided l.self.pairs c d

abbrev pub invariant-loop-b : goal.invariant-loop-b
invariant-loop-b l = (d : ℕ) → l.a < d → d < l.b → IsDecided l.self.pairs l.a d
