use Rattle.lop_check.proofs.Walk.{left_off, then_on, then_ends}
use Rattle.lop_check.proofs.checker.walk.Goals as goal

pub returns-in_err-claim-clause-reads : goal.returns-in_err-claim-clause-reads
returns-in_err-claim-clause-reads g c =
    left_off _ _ _ _ _ _ c.from_residual.ensures.1
    (c.in_err-claim.ensures)

pub cut_lines-requires-clause-reading : goal.cut_lines-requires-clause-reading
cut_lines-requires-clause-reading g c = c.in_ok-claim.ensures.reading

pub returns-in_err-cut_lines-clause-reads : goal.returns-in_err-cut_lines-clause-reads
returns-in_err-cut_lines-clause-reads g c =
    left_off _ _ _ _ _ _ c.from_residual-in_err-cut_lines.ensures.1
    (then_ends _ _ _ _ _ _ c.in_ok-claim.ensures c.in_err-cut_lines.ensures.reads)

pub record_lines-requires-clause-reading : goal.record_lines-requires-clause-reading
record_lines-requires-clause-reading g c = c.in_ok-cut_lines.ensures.reads.reading

pub returns-in_err-record_lines-clause-reads : goal.returns-in_err-record_lines-clause-reads
returns-in_err-record_lines-clause-reads g c =
    left_off _ _ _ _ _ _ c.from_residual-in_err-record_lines.ensures.1
    (then_ends _ _ _ _ _ _ (then_on _ _ _ _ _ _ c.in_ok-claim.ensures c.in_ok-cut_lines.ensures.reads) (rw c.as_slice.ensures.value at (c.in_err-record_lines.ensures.stops c.args.weights.now)))

pub tree-requires-clause-reading : goal.tree-requires-clause-reading
tree-requires-clause-reading g c = (c.in_ok-record_lines.ensures.goes c.args.weights.now).reading

pub returns-in_err-tree-clause-reads : goal.returns-in_err-tree-clause-reads
returns-in_err-tree-clause-reads g c =
    left_off _ _ _ _ _ _ c.from_residual-in_err-tree.ensures.1
    (then_ends _ _ _ _ _ _ (then_on _ _ _ _ _ _ (then_on _ _ _ _ _ _ c.in_ok-claim.ensures c.in_ok-cut_lines.ensures.reads) (rw c.as_slice.ensures.value at (c.in_ok-record_lines.ensures.goes c.args.weights.now))) c.in_err-tree.ensures.reads)

pub end-requires : goal.end-requires
end-requires g c = c.in_ok-tree.ensures.reads.reading

pub returns-in_err-end-clause-reads : goal.returns-in_err-end-clause-reads
returns-in_err-end-clause-reads g c =
    left_off _ _ _ _ _ _ c.from_residual-in_err-end.ensures.1
    (then_ends _ _ _ _ _ _ (then_on _ _ _ _ _ _ (then_on _ _ _ _ _ _ (then_on _ _ _ _ _ _ c.in_ok-claim.ensures c.in_ok-cut_lines.ensures.reads) (rw c.as_slice.ensures.value at (c.in_ok-record_lines.ensures.goes c.args.weights.now))) c.in_ok-tree.ensures.reads) c.in_err-end.ensures)

pub returns-clause-reads : goal.returns-clause-reads
returns-clause-reads g c = then_on _ _ _ _ _ _ (then_on _ _ _ _ _ _ (then_on _ _ _ _ _ _ (then_on _ _ _ _ _ _ c.in_ok-claim.ensures c.in_ok-cut_lines.ensures.reads) (rw c.as_slice.ensures.value at (c.in_ok-record_lines.ensures.goes c.args.weights.now))) c.in_ok-tree.ensures.reads) c.in_ok-end.ensures
