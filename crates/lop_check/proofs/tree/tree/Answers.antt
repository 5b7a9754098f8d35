use Rattle.std.proofs.Common.{◌+◌, List, length, ap, sym}
use Rattle.lop_model.specs.declared.pair.Pair.{Pair}
use Rattle.lop_model.specs.Closing.{closed}
use Rattle.lop_certtext.specs.RecordLine.{leaf_of}
use Rattle.lop_certtext.specs.Answer.{tree_step}
use Rattle.lop_check.specs.declared.path.Step.{Step}
use Rattle.lop_check.specs.TreePlace.{pending, place, place_after}
use Rattle.lop_check.proofs.Walk.{left_off, passes, stays, then_on, then_ends}
use Rattle.lop_check.proofs.TreeWalk.{left_if, left_none}
use Rattle.lop_check.proofs.tree.tree.Goals as goal

pub lines-init : goal.lines-init
lines-init g c =
    record {
      kept = c.requires.kept;
      so_far = passes _ _ _ _ _ (λ lines. ap (λ (l : List Step). tree_step closed c.args.weights.now c.args.proof.now.cuts.items (leaf_of c.args.claim.version (length c.args.proof.now.cuts.items) c.args.proof.now.records) c.args.claim.value c.args.claim.bound (pending (place_after l)) (c.args.reading.now.number + 1) lines) (sym c.requires.root)) (stays _ _ c.requires.reading);
    }

pub returns-in_err-tree_line-clause-reads : goal.returns-in_err-tree_line-clause-reads
returns-in_err-tree_line-clause-reads g c = left_off _ _ _ _ _ _ c.from_residual.ensures.1 (then_ends _ _ _ _ _ _ c.lines.invariant.so_far c.in_err-tree_line.ensures.reads)

pub returns-then-not-branch-clause-reads : goal.returns-then-not-branch-clause-reads
returns-then-not-branch-clause-reads g c =
    let none = left_none c.in_ok-tree_line.field-0 (place c.tree_line.new.proof.walk) c.if-not-branch.true in
    then_on _ _ _ _ _ _ c.lines.invariant.so_far
    (passes _ _ _ _ _ (λ lines. ap (λ (l : List (List Pair)). tree_step closed c.args.weights.now c.tree_line.new.proof.cuts.items (leaf_of c.args.claim.version (length c.tree_line.new.proof.cuts.items) c.tree_line.new.proof.records) c.args.claim.value c.args.claim.bound l (c.tree_line.new.reading.number + 1) lines) none) c.in_ok-tree_line.ensures.reads)

pub lines-preserved : goal.lines-preserved
lines-preserved g c =
    let more = left_if c.in_ok-tree_line.field-0 (place c.tree_line.new.proof.walk) c.if-not-branch.false in
    record {
      kept = c.in_ok-tree_line.ensures.kept;
      so_far = then_on _ _ _ _ _ _ c.lines.invariant.so_far
          (passes _ _ _ _ _ (λ lines. ap (λ (l : List (List Pair)). tree_step closed c.args.weights.now c.tree_line.new.proof.cuts.items (leaf_of c.args.claim.version (length c.tree_line.new.proof.cuts.items) c.tree_line.new.proof.records) c.args.claim.value c.args.claim.bound l (c.tree_line.new.reading.number + 1) lines) more) c.in_ok-tree_line.ensures.reads);
    }
