use Rattle.std.proofs.Common.{ap, ◌∙◌, length, refl}
use Rattle.lop_certtext.specs.RecordLine.{leaf_of}
use Rattle.lop_check.specs.TreePlace.{place, pending_if}
use Rattle.lop_check.proofs.PathLemmas.{walk_closed}
use Rattle.lop_check.proofs.Walk.{left_off}
use Rattle.lop_check.proofs.TreeWalk.{node_then, node_stops, node_passed, node_failed}
use Rattle.lop_check.proofs.tree.tree_line.Goals as goal

pub returns-in_err-word-clause-reads : goal.returns-in_err-word-clause-reads
returns-in_err-word-clause-reads g c =
    let cuts = c.args.proof.now.cuts.items in
    let L = (leaf_of c.args.claim.version (length c.args.proof.now.cuts.items) c.args.proof.now.records) in
    let at = place c.args.proof.now.walk in
    left_off _ _ _ _ _ _ c.from_residual.ensures.1
    (node_stops c.args.weights.now cuts L c.args.claim.value c.args.claim.bound at _ _ _ _
    ((c.in_err-word.ensures.stops (node_then c.args.weights.now cuts L c.args.claim.value c.args.claim.bound at.path at.others))))

pub returns-in-Ok-clause-reads : goal.returns-in-Ok-clause-reads
returns-in-Ok-clause-reads g c =
    let C = c.args.weights.now in
    let old = c.args.proof.now in
    let L = leaf_of c.args.claim.version (length old.cuts.items) old.records in
    let at = place old.walk in
    node_passed C old.cuts.items c.node_step.new.proof.cuts.items L (leaf_of c.args.claim.version (length c.node_step.new.proof.cuts.items) c.node_step.new.proof.records) c.args.claim.value c.args.claim.bound _ old.walk.trail.fixed at (pending_if c.in-Ok.more (place c.node_step.new.proof.walk)) _ c.line.new.self.number _ _ _ c.line.new.self.numbers _ (ap (λ v. v.items) c.in-Ok.ensures.cuts) (ap (λ v. leaf_of c.args.claim.version (length v.items) c.node_step.new.proof.records) c.in-Ok.ensures.cuts ∙ ap (leaf_of c.args.claim.version (length old.cuts.items)) c.in-Ok.ensures.records) refl
    (walk_closed old.walk c.requires.kept.walk) c.numbers.ensures
    ((c.in_ok-word.ensures.goes (node_then C old.cuts.items L c.args.claim.value c.args.claim.bound at.path at.others))) c.in-Ok.ensures.answer

pub returns-in-Err-clause-reads : goal.returns-in-Err-clause-reads
returns-in-Err-clause-reads g c =
    let C = c.args.weights.now in
    let old = c.args.proof.now in
    let L = leaf_of c.args.claim.version (length old.cuts.items) old.records in
    let at = place old.walk in
    node_failed C old.cuts.items L c.args.claim.value c.args.claim.bound _ old.walk.trail.fixed at _ c.line.new.self.number _ _ _ c.line.new.self.numbers _ _ c.in-Err.reason refl
    (walk_closed old.walk c.requires.kept.walk) c.numbers.ensures c.rejected.ensures
    ((c.in_ok-word.ensures.goes (node_then C old.cuts.items L c.args.claim.value c.args.claim.bound at.path at.others))) c.in-Err.ensures.answer
