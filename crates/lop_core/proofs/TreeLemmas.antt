-- Paths and open nodes after a node was changed, and after two children came.
use Rattle.std.proofs.Common.{◌≡◌, ℕ, ◌+◌, ◌<◌, List, [], ◌∷◌, ◌++◌, get_or, length, arith, sym, ◌∙◌, refl, ap, append_assoc, suc, zero}
use Rattle.std.specs.Prelude.{fold, ℤ}
use Rattle.std.proofs.lemmas.List.{length_push, get_or_append_left, get_or_push}
use Rattle.std.proofs.lemmas.List.Sums.{fold_push}
use Rattle.lop_model.specs.declared.pair.Pair.{Pair}
use Rattle.lop_core.proofs.Lists.{fold-set}
use Rattle.lop_core.specs.declared.node.SearchNode.{SearchNode}
use Rattle.lop_core.specs.declared.node.Standing.{Standing}
use Rattle.lop_core.specs.Tree.{paths, with_path_of, path_of}
use Rattle.lop_core.specs.Machine.{changed}

length-fold : (known : List (List Pair)) (nodes : List SearchNode) → length (fold with_path_of known nodes) ≡ length known + length nodes
length-fold known [] = omega arith
length-fold known (x ∷ nodes) =
    let e = length-fold (with_path_of known x) nodes in
    let l : length (with_path_of known x) ≡ length known + 1 = length_push known _ in
    omega arith

-- each node has a path
pub length-paths : (nodes : List SearchNode) → length (paths nodes) ≡ length nodes
unfolding paths
length-paths [] = refl
length-paths (x ∷ nodes) = length-fold ([] ∷ []) nodes ∙ omega arith

-- bounds and standings play no part
pub paths-changed : (nodes : List SearchNode) (i : ℕ) (bound : ℤ) (standing : Standing) → i < length nodes → paths (changed nodes i bound standing) ≡ paths nodes
unfolding paths
paths-changed [] i bound standing h = absurd (omega arith)
paths-changed (x ∷ nodes) zero bound standing h = refl
paths-changed (x ∷ nodes) (suc i) bound standing h = fold-set with_path_of ([] ∷ []) nodes i _ _ (omega arith) (λ b. refl)

pub paths_push : (nodes : List SearchNode) (x : SearchNode) → 0 < length nodes → paths (nodes ++ x ∷ []) ≡ with_path_of (paths nodes) x
unfolding paths
paths_push [] x h = absurd (omega arith)
paths_push (r ∷ nodes) x h = fold_push with_path_of ([] ∷ []) nodes x

pub path_of_push_old : (nodes : List SearchNode) (x : SearchNode) (i : ℕ) → i < length nodes → path_of (nodes ++ x ∷ []) i ≡ path_of nodes i
path_of_push_old nodes x i h =
    let rooted : 0 < length nodes = omega arith in
    let lt : i < length (paths nodes) = rw length-paths h in
    ap (λ (ps : List (List Pair)). get_or ps i []) (paths_push nodes x rooted) ∙ get_or_append_left (paths nodes) _ [] i lt

pub path_of_push_new : (nodes : List SearchNode) (x : SearchNode) → 0 < length nodes → path_of (nodes ++ x ∷ []) (length nodes) ≡ path_of nodes x.parent ++ x.pair ∷ []
path_of_push_new nodes x rooted =
    ap (λ (ps : List (List Pair)). get_or ps (length nodes) []) (paths_push nodes x rooted) ∙ get_or_push (paths nodes) _ [] (length nodes) (length-paths nodes)

-- two nodes more
module _ (nodes : List SearchNode) (x y : SearchNode) (rooted : 0 < length nodes) where
  in_turn : nodes ++ x ∷ y ∷ [] ≡ (nodes ++ x ∷ []) ++ y ∷ []
  in_turn = sym (append_assoc nodes (x ∷ []) (y ∷ []))

  pub path_of_two_old : (i : ℕ) → i < length nodes → path_of (nodes ++ x ∷ y ∷ []) i ≡ path_of nodes i
  path_of_two_old i h =
      let lt : i < length (nodes ++ x ∷ []) = rw length_push (omega arith) in
      ap (λ (ns : List SearchNode). path_of ns i) in_turn ∙ (path_of_push_old (nodes ++ x ∷ []) y i lt ∙ path_of_push_old nodes x i h)

  pub path_of_two_first : path_of (nodes ++ x ∷ y ∷ []) (length nodes) ≡ path_of nodes x.parent ++ x.pair ∷ []
  path_of_two_first =
      let lt : length nodes < length (nodes ++ x ∷ []) = rw length_push (omega arith) in
      ap (λ (ns : List SearchNode). path_of ns (length nodes)) in_turn ∙ (path_of_push_old (nodes ++ x ∷ []) y (length nodes) lt ∙ path_of_push_new nodes x rooted)

  pub path_of_two_second : y.parent < length nodes → path_of (nodes ++ x ∷ y ∷ []) (length nodes + 1) ≡ path_of nodes y.parent ++ y.pair ∷ []
  path_of_two_second h =
      let l : length (nodes ++ x ∷ []) ≡ length nodes + 1 = length_push nodes x in
      let r : 0 < length (nodes ++ x ∷ []) = omega arith in
      ap (λ (ns : List SearchNode). path_of ns (length nodes + 1)) in_turn
      ∙ (ap (path_of ((nodes ++ x ∷ []) ++ y ∷ [])) (sym l)
      ∙ (path_of_push_new (nodes ++ x ∷ []) y r
      ∙ ap (λ (p : List Pair). p ++ y.pair ∷ []) (path_of_push_old nodes x y.parent h)))
