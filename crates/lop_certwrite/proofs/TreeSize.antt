-- The tree of a core's certificate has all nodes of the core, so at least as many as were evaluated.
use Rattle.std.proofs.Common.{◌≡◌, ◌≤◌, ℕ, List, length, ◌∙◌, ap, refl, arith}
use Rattle.lop_core.specs.Core.{CoreFields, HasHistory}
use Rattle.lop_core.proofs.DoneNodes.{evaluated_nodes}
use Rattle.lop_certtext.specs.Tree.{tree_size}
use Rattle.lop_certtext.specs.Certificate.{Certificate}
use Rattle.lop_certwrite.specs.CoreTree.{NodeTree, one_node, two_below, node_count, certificate_tree, users_in, IsCertificateOf}

-- the records play no part in it
pub tree_size-certificate_tree : (numbers users : List ℕ) (t : NodeTree) → tree_size (certificate_tree numbers users t) ≡ node_count t
tree_size-certificate_tree numbers users (one_node number) = refl
tree_size-certificate_tree numbers users (two_below pair first second) =
    omega (arith, tree_size-certificate_tree numbers users first, tree_size-certificate_tree numbers users second)

-- each node of the core stands in the tree of its certificate
pub tree_size-IsCertificateOf : (core : CoreFields) (c : Certificate) → IsCertificateOf core c → tree_size c.tree ≡ length core.state.nodes
tree_size-IsCertificateOf core c of = ap tree_size of.tree_is ∙ (tree_size-certificate_tree core.book.numbers (users_in core.book.numbers of.whole.tree) of.whole.tree ∙ of.whole.complete)

-- and no more nodes were evaluated
pub evaluated_in_tree : (core : CoreFields) (c : Certificate) → HasHistory core → IsCertificateOf core c → core.state.evaluated ≤ tree_size c.tree
evaluated_in_tree core c history of = omega (arith, evaluated_nodes core history, tree_size-IsCertificateOf core c of)
