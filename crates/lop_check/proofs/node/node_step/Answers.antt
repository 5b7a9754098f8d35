use Rattle.std.proofs.Common.{ℕ, sym, subst}
use Rattle.lop_certtext.specs.declared.word.CertWord.{CertWord}
use Rattle.lop_check.specs.Nodes.{node_test, split_test, TakesLine}
use Rattle.lop_check.proofs.node.node_step.Goals as goal

pub returns-in-SplitLine : goal.returns-in-SplitLine
returns-in-SplitLine c =
    let C = c.args.weights.now in
    let old = c.args.proof.now in
    subst (λ (w : CertWord). TakesLine C.size old c.split_step.new.proof (node_test C old c.args.claim.version c.args.claim.bound w c.args.numbers.now) c.split_step.result) (sym c.in-SplitLine.is)
    (subst (λ (n : ℕ). TakesLine n old c.split_step.new.proof (split_test n old c.args.numbers.now) c.split_step.result) c.n.ensures.size c.split_step.ensures)

pub returns-in-Leaf : goal.returns-in-Leaf
returns-in-Leaf c =
    let C = c.args.weights.now in
    let old = c.args.proof.now in
    subst (λ (w : CertWord). TakesLine C.size old c.leaf_step.new.proof (node_test C old c.args.claim.version c.args.claim.bound w c.args.numbers.now) c.leaf_step.result) (sym c.in-Leaf.is) c.leaf_step.ensures
