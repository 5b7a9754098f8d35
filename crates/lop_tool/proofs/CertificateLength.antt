-- How long the certificate of a search is.
use Rattle.std.proofs.Common.{◌≡◌, ℕ, ◌+◌, ◌*◌, ◌^◌, ◌≤◌, List, [], ◌∷◌, ◌++◌, length, map, ◌∙◌, ap, refl, sym, subst, arith, length-append}
use Rattle.std.proofs.lemmas.List.{length-map}
use Rattle.lop_core.specs.Journal.{replay}
use Rattle.lop_core.proofs.Counts.{counted}
use Rattle.lop_certtext.specs.CutLine.{cut_line}
use Rattle.lop_certtext.specs.Certificate.{record_lines}
use Rattle.lop_certtext.specs.declared.word.CertWord.TheVariants.{End}
use Rattle.lop_certtext.specs.Line.{CertLine}
use Rattle.lop_certtext.specs.RecordLine.{leaf_line, record_line}
use Rattle.lop_certtext.proofs.AcceptedText.{short_text, lines_written}
use Rattle.lop_tool.specs.Names.{CoreFields, SearchState, Tree, tree_lines, Certificate, certificate_lines}
use Rattle.lop_tool.specs.Names.{certificate_text, HasText, Two, IsTreeCertificate, NodeTree, one_node, two_below, node_count}
use Rattle.lop_tool.specs.Names.{certificate_tree, IsCertificateOf, Matrix, IsWeights}
use Rattle.lop_tool.specs.Search.{Found, IsSearchOf}
use Rattle.lop_core.specs.declared.search.TheConstants.{MAX_BUDGET}

-- a tree has a line for each node
length-tree_lines : (line : ℕ → CertLine) (numbers users : List ℕ) (t : NodeTree) → length (tree_lines line (certificate_tree numbers users t)) ≡ node_count t
length-tree_lines line numbers users (one_node number) = refl
length-tree_lines line numbers users (two_below pair first second) =
    let a = tree_lines line (certificate_tree numbers users first) in
    let b = tree_lines line (certificate_tree numbers users second) in
    omega (arith, length-append a b, length-tree_lines line numbers users first, length-tree_lines line numbers users second)

-- and the whole has eight lines more than cuts, records and nodes
length-lines : (c : Certificate) (numbers users : List ℕ) (t : NodeTree) → c.tree ≡ certificate_tree numbers users t → length (certificate_lines Two c) ≡ 8 + length c.cuts + length c.records + node_count t
length-lines c numbers users t is =
    let line = leaf_line Two c.records in
    let last : List CertLine = record { word = End; numbers = [] } ∷ [] in
    let tree : length (tree_lines line c.tree) ≡ node_count t = ap (λ (x : Tree). length (tree_lines line x)) is ∙ length-tree_lines line numbers users t in
    omega (
      arith,
      tree,
      length-map c.cuts cut_line,
      length-map c.records record_line,
      length-append (map cut_line c.cuts) (record_lines Two c.records ++ (tree_lines line c.tree ++ last)),
      length-append (map record_line c.records) (tree_lines line c.tree ++ last),
      length-append (tree_lines line c.tree) last,
    )

-- there are at most twice as many nodes as the budget, and one
few_nodes : (C : Matrix) (budget : ℕ) (x : Found) (core : CoreFields) → IsSearchOf C budget x core → length core.state.nodes ≤ 2 * budget + 1
few_nodes C budget x core solved =
    let c = counted core.problem core.journal solved.history.lawful in
    let same : length core.state.nodes ≡ length (replay core.problem core.journal).nodes = ap (λ (s : SearchState). length s.nodes) solved.history.replayed in
    omega (arith, c.size, c.splits, c.within, same, solved.budget_is)

-- a checker reads it to its end
pub length-certificate_of : (C : Matrix) (budget : ℕ) (x : Found) (core : CoreFields) (c : Certificate) → budget ≤ MAX_BUDGET → IsSearchOf C budget x core → IsCertificateOf core c → IsTreeCertificate core.problem.weights c → HasText Two c → length (certificate_text Two c) ≤ 2 ^ 40
length-certificate_of C budget x core c few solved of holds has_text =
    let weights = subst (λ (D : Matrix). IsWeights D) (sym solved.weights_are) solved.searched.weights in
    omega (arith, short_text (certificate_lines Two c) (lines_written core.problem.weights weights c holds Two has_text), length-lines c core.book.numbers _ of.whole.tree of.tree_is, of.whole.complete, few_nodes C budget x core solved, holds.few_cuts, has_text.0, few)
