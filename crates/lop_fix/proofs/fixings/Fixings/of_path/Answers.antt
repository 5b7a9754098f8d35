use Rattle.std.proofs.Common.{◌≡◌, ◌∙◌, ℕ, ◌+◌, List, length, take, get_or, ◌∷◌, [], subst, arith}
use Rattle.lop_model.specs.Fixings.{IsBranchingPrefix, IsClosure}
use Rattle.lop_model.specs.declared.pair.Pair.{Pair}
use Rattle.lop_model.proofs.ClosureLemmas.{IsClosure-through, IsUndecided-closure, IsBranchingPrefix-more, HaveSameExtensions-closure}
use Rattle.std.proofs.lemmas.List.{take_all, take_more, get_or_default}
use Rattle.lop_model.specs.Related.{pair}
use Rattle.lop_fix.proofs.fixings.Fixings.of_path.Goals as goal

pub loop-k-preserved : goal.loop-k-preserved
loop-k-preserved c =
    let n = c.loop-k.self.size in
    let path = c.args.path.now in
    let k = c.loop-k.k in
    let so_far = c.loop-k.invariant in
    let branching : IsBranchingPrefix n path (k + 1) = IsBranchingPrefix-more n path k so_far.branching (λ p.
    rw (get_or_default path k p (pair 0 0) c.loop-k-test.true) (IsUndecided-closure n (take k path) c.loop-k.self.pairs (get_or path k (pair 0 0)).before (get_or path k (pair 0 0)).after so_far.closure c.in-Undecided.ensures.decision)) in
    record {
      size = c.add.ensures.size ∙ so_far.size;
      branching = rw c.add.ensures.size branching;
      closure = rw (take_more path k (pair 0 0) c.loop-k-test.true) (IsClosure-through (take k path) c.loop-k.self.pairs (get_or path k (pair 0 0) ∷ []) c.add.new.self.pairs so_far.closure c.add.ensures.closure);
      partial_order = c.add.ensures.partial_order;
    }

pub returns-clause-ok : goal.returns-clause-ok
returns-clause-ok c =
    let n = c.args.self.now.size in
    let path = c.args.path.now in
    let k = c.loop-k.k in
    let so_far = c.loop-k.invariant in
    let all : k ≡ length path = omega arith in
    let closure : IsClosure path c.loop-k.self.pairs = subst (λ (F : List Pair). IsClosure F c.loop-k.self.pairs) (take_all k path (omega arith)) so_far.closure in
    (subst (λ (m : ℕ). IsBranchingPrefix m path (length path)) so_far.size (subst (λ (m : ℕ). IsBranchingPrefix c.loop-k.self.size path m) all so_far.branching), closure, HaveSameExtensions-closure path c.loop-k.self.pairs closure)
