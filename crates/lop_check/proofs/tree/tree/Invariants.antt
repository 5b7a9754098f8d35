use Rattle.std.proofs.Common.{◌+◌, ◌-◌, ◌^◌, [], ◌∷◌, length}
use Rattle.lop_model.specs.Closing.{closed}
use Rattle.lop_certtext.specs.RecordLine.{leaf_of}
use Rattle.lop_certtext.specs.Answer.{tree_step}
use Rattle.lop_check.specs.Walk.{ReadsOn, spot}
use Rattle.lop_check.specs.TreePlace.{pending, place}
use Rattle.lop_check.specs.Nodes.{IsProof}
use Rattle.lop_check.proofs.tree.tree.Given as goal

abbrev pub invariant-lines : goal.invariant-lines
invariant-lines g l = record {
  kept : IsProof l.weights.size l.proof;
  so_far : ReadsOn (spot (g.D.Desk.told l.fn.desk) (g.D.Desk.faults l.fn.desk) l.fn.reading) (spot (g.D.Desk.told l.desk) (g.D.Desk.faults l.desk) l.reading) (tree_step closed l.weights l.fn.proof.cuts.items (leaf_of l.claim.version (length l.fn.proof.cuts.items) l.fn.proof.records) l.claim.value l.claim.bound ([] ∷ []) (l.fn.reading.number + 1)) (tree_step closed l.weights l.proof.cuts.items (leaf_of l.claim.version (length l.proof.cuts.items) l.proof.records) l.claim.value l.claim.bound (pending (place l.proof.walk)) (l.reading.number + 1));
}

abbrev pub decreases-lines : goal.decreases-lines
decreases-lines g l = 2 ^ 41 - l.reading.number
