-- Each node's record certifies its bound: what an event leaves of that.
use Rattle.std.proofs.Common.{◌≡◌, ◌≢◌, refl, length-append, ◌+ℤ◌, ◌*ℤ◌, ◌<ℤ◌, ℕ, ◌+◌, ◌<◌, List, [], ◌∷◌, ◌++◌, get_or, length, inl, inr, arith, sym, ◌∙◌, Some, None, Option, ap, subst, suc, zero, Bool, true, false, length-set, append_assoc}
use Rattle.std.specs.Prelude.{ℤ, pos, int_lt, IfSome, if◌then◌else◌}
use Rattle.std.proofs.lemmas.Int.{ints}
use Rattle.std.proofs.lemmas.Bool.{cases_eq, cases_lt}
use Rattle.std.proofs.lemmas.List.{get_or-set_same, get_or-set_other, get_or_append_left, get_or_push, length_push}
use Rattle.lop_model.specs.declared.pair.Pair.{Pair}
use Rattle.lop_model.specs.Matrix.{Matrix, entry}
use Rattle.lop_model.proofs.SumLemmas.{pair_sum-same}
use Rattle.lop_model.specs.Fixings.{IsClosure, IsUndecided, IsBranchingPath}
use Rattle.lop_model.specs.Bound.{pair_value, pair_bound}
use Rattle.std.proofs.Math.IntN.{suc_ℤ-*ℤ, zero-*ℤ}
use Rattle.lop_model.proofs.ClosureLemmas.{IsClosure-none}
use Rattle.lop_cuts.specs.Lagrangian.{lagrangian_value}
use Rattle.lop_cuts.proofs.LagrangianLemmas.{lagrangian_value-plain}
use Rattle.lop_leaf.specs.Record.{ScaledTerms}
use Rattle.lop_leaf.specs.Bound.{CertifiesUnder}
use Rattle.lop_leaf.proofs.PathLemmas.{CertifiesUnder-more}
use Rattle.lop_cuts.proofs.ClosureUnique.{has_pair-closures}
use Rattle.lop_core.specs.declared.node.SearchNode.{SearchNode}
use Rattle.lop_core.specs.declared.node.Standing.{Standing}
use Rattle.lop_core.specs.declared.node.Standing.TheVariants.{Idle, Split}
use Rattle.lop_core.specs.Tree.{no_pair, child, node_at, path_of, paths}
use Rattle.lop_model.specs.Reversed.{reversed}
use Rattle.lop_core.specs.Machine.{changed, settled_nodes, divided, closed}
use Rattle.lop_core.specs.Core.{AreCertified, root_book}
use Rattle.lop_core.proofs.ExtensionLemmas.{reversed_undecided, IsBranchingPath-push}
use Rattle.lop_core.proofs.TreeLemmas.{paths-changed, path_of_push_old, path_of_push_new}

pair_bound-closures : (C : Matrix) (F G H : List Pair) → IsClosure F G → IsClosure F H → pair_bound C G ≡ pair_bound C H
pair_bound-closures C F G H c d =
    pair_sum-same C.size (pair_value G (entry C)) (pair_value H (entry C))
    (λ i j _ _. rw (has_pair-closures F G H i j c d, has_pair-closures F G H j i c d) refl)

once : (x : ℤ) → pos 1 *ℤ x ≡ x
once x =
    let one : pos 1 *ℤ x ≡ pos 0 *ℤ x +ℤ x = suc_ℤ-*ℤ (pos 0) x in
    omega (arith, ints, zero-*ℤ x)

below_next : (u b : ℤ) → u ≡ b → u <ℤ (pos 1 *ℤ (b +ℤ pos 1))
below_next u b e = rw (once (b +ℤ pos 1)) (omega (arith, ints))

-- the root's record certifies the pair bound
pub certified_root : (C : Matrix) → AreCertified C root_book (child 0 no_pair (pair_bound C []) ∷ [])
unfolding paths
certified_root C zero lt = record { each = λ G c. below_next (lagrangian_value C G 1 []) (pair_bound C []) (lagrangian_value-plain C G ∙ pair_bound-closures C [] G [] c IsClosure-none) }
certified_root C (suc i) lt = absurd (omega arith)

-- each node's record, as `rec` gives it, certifies its bound
abbrev pub HaveCertified : Matrix → (ℕ → ScaledTerms) → List SearchNode → Type 0
HaveCertified C rec nodes = (i : ℕ) → i < length nodes → CertifiesUnder C (path_of nodes i) (rec i) (node_at nodes i).bound

-- the same of all nodes but one
abbrev pub OthersCertified : Matrix → (ℕ → ScaledTerms) → List SearchNode → ℕ → Type 0
OthersCertified C rec nodes n = (i : ℕ) → i < length nodes → i ≢ n → CertifiesUnder C (path_of nodes i) (rec i) (node_at nodes i).bound

-- a node gets a bound that its record certifies
pub certified_changed : (C : Matrix) (rec : ℕ → ScaledTerms) (nodes : List SearchNode) (n : ℕ) (bound : ℤ) (standing : Standing) → OthersCertified C rec nodes n → n < length nodes → CertifiesUnder C (path_of nodes n) (rec n) bound
    → HaveCertified C rec (changed nodes n bound standing)
certified_changed C rec nodes n bound standing all inside own i lt =
    let within : i < length nodes = rw length-set at lt in
    let path : path_of (changed nodes n bound standing) i ≡ path_of nodes i = ap (λ (ps : List (List Pair)). get_or ps i []) (paths-changed nodes n bound standing inside) in
    subst (λ (p : List Pair). CertifiesUnder C p (rec i) (node_at (changed nodes n bound standing) i).bound) (sym path)
    (elim (cases_eq i n) [
      | inl same ↦
          let now : node_at (changed nodes n bound standing) n ≡ record (node_at nodes n) { bound = bound; standing = standing } = get_or-set_same nodes n _ (child 0 no_pair (pos 0)) inside in
          subst (λ (k : ℕ). CertifiesUnder C (path_of nodes k) (rec k) (node_at (changed nodes n bound standing) k).bound) (sym same)
          (subst (λ (x : SearchNode). CertifiesUnder C (path_of nodes n) (rec n) x.bound) (sym now) own)
      | inr other ↦
          let now : node_at (changed nodes n bound standing) i ≡ node_at nodes i = get_or-set_other nodes n i _ (child 0 no_pair (pos 0)) other in
          subst (λ (x : SearchNode). CertifiesUnder C (path_of nodes i) (rec i) x.bound) (sym now) (all i within other)
    ])

-- a node comes whose record certifies its bound
certified_push : (C : Matrix) (rec : ℕ → ScaledTerms) (nodes : List SearchNode) (x : SearchNode) → HaveCertified C rec nodes → 0 < length nodes → CertifiesUnder C (path_of nodes x.parent ++ x.pair ∷ []) (rec (length nodes)) x.bound
    → HaveCertified C rec (nodes ++ x ∷ [])
certified_push C rec nodes x all rooted own i lt = elim (cases_lt i (length nodes)) [
  | inl old ↦
      let now : node_at (nodes ++ x ∷ []) i ≡ node_at nodes i = get_or_append_left nodes (x ∷ []) (child 0 no_pair (pos 0)) i old in
      subst (λ (p : List Pair). CertifiesUnder C p (rec i) (node_at (nodes ++ x ∷ []) i).bound) (sym (path_of_push_old nodes x i old))
      (subst (λ (y : SearchNode). CertifiesUnder C (path_of nodes i) (rec i) y.bound) (sym now) (all i old))
  | inr new ↦
      let longer : length (nodes ++ x ∷ []) ≡ length nodes + 1 = length_push nodes x in
      let at : length nodes ≡ i = omega arith in
      let now : node_at (nodes ++ x ∷ []) i ≡ x = get_or_push nodes x (child 0 no_pair (pos 0)) i at in
      let path : path_of (nodes ++ x ∷ []) i ≡ path_of nodes x.parent ++ x.pair ∷ [] = ap (path_of (nodes ++ x ∷ [])) (sym at) ∙ path_of_push_new nodes x rooted in
      subst (λ (p : List Pair). CertifiesUnder C p (rec i) (node_at (nodes ++ x ∷ []) i).bound) (sym path)
      (subst (λ (y : SearchNode). CertifiesUnder C (path_of nodes x.parent ++ x.pair ∷ []) (rec i) y.bound) (sym now)
      (subst (λ (k : ℕ). CertifiesUnder C (path_of nodes x.parent ++ x.pair ∷ []) (rec k) x.bound) at own))
]

-- a node is split or closed with a bound that its record certifies; two children would have its record
module _ (C : Matrix) (rec : ℕ → ScaledTerms) (nodes : List SearchNode) (n : ℕ) (bound best : ℤ) (others : OthersCertified C rec nodes n) (inside : n < length nodes)
    (branching : IsBranchingPath C.size (path_of nodes n)) (own : CertifiesUnder C (path_of nodes n) (rec n) bound) where
  when_closed : HaveCertified C rec (changed nodes n bound Idle)
  when_closed = certified_changed C rec nodes n bound Idle others inside own

  longer_path : (p : Pair) → IsUndecided C.size (path_of nodes n) p.before p.after → CertifiesUnder C (path_of nodes n ++ p ∷ []) (rec n) bound
  longer_path p u = CertifiesUnder-more C (path_of nodes n) (p ∷ []) (rec n) bound branching (IsBranchingPath-push C.size (path_of nodes n) p branching u) own

  when_divided : (p : Pair) → IsUndecided C.size (path_of nodes n) p.before p.after → rec (length nodes) ≡ rec n → rec (length nodes + 1) ≡ rec n
      → HaveCertified C rec (changed nodes n bound (Split (length nodes)) ++ child n p bound ∷ child n (reversed p) bound ∷ [])
  when_divided p u r1 r2 =
      let mid : List SearchNode = changed nodes n bound (Split (length nodes)) in
      let same : length (changed nodes n bound (Split (length nodes))) ≡ length nodes = length-set nodes n _ in
      let path : path_of (changed nodes n bound (Split (length nodes))) n ≡ path_of nodes n = ap (λ (ps : List (List Pair)). get_or ps n []) (paths-changed nodes n bound (Split (length nodes)) inside) in
      let one : HaveCertified C rec (changed nodes n bound (Split (length nodes)) ++ child n p bound ∷ []) =
      certified_push C rec (changed nodes n bound (Split (length nodes))) (child n p bound) (certified_changed C rec nodes n bound (Split (length nodes)) others inside own) (omega arith)
      (subst (λ (q : List Pair). CertifiesUnder C (q ++ p ∷ []) (rec (length (changed nodes n bound (Split (length nodes))))) bound) (sym path)
      (subst (λ (r : ScaledTerms). CertifiesUnder C (path_of nodes n ++ p ∷ []) r bound) (sym (ap rec same ∙ r1)) (longer_path p u))) in
      let l : length (changed nodes n bound (Split (length nodes)) ++ child n p bound ∷ []) ≡ length (changed nodes n bound (Split (length nodes))) + 1 = length_push (changed nodes n bound (Split (length nodes))) (child n p bound) in
      let next : length (changed nodes n bound (Split (length nodes)) ++ child n p bound ∷ []) ≡ length nodes + 1 = l ∙ ap (λ (k : ℕ). k + 1) same in
      let path2 : path_of (changed nodes n bound (Split (length nodes)) ++ child n p bound ∷ []) n ≡ path_of nodes n = path_of_push_old (changed nodes n bound (Split (length nodes))) (child n p bound) n (omega arith) ∙ path in
      subst (λ (ns : List SearchNode). HaveCertified C rec ns) (in_turn (changed nodes n bound (Split (length nodes))) (child n p bound) (child n (reversed p) bound))
      (certified_push C rec (changed nodes n bound (Split (length nodes)) ++ child n p bound ∷ []) (child n (reversed p) bound) one (omega arith)
      (subst (λ (q : List Pair). CertifiesUnder C (q ++ reversed p ∷ []) (rec (length (changed nodes n bound (Split (length nodes)) ++ child n p bound ∷ []))) bound) (sym path2)
      (subst (λ (r : ScaledTerms). CertifiesUnder C (path_of nodes n ++ reversed p ∷ []) r bound) (sym (ap rec next ∙ r2)) (longer_path (reversed p) (reversed_undecided C.size (path_of nodes n) p u)))))
    where
      in_turn : (xs : List SearchNode) (x y : SearchNode) → (xs ++ x ∷ []) ++ y ∷ [] ≡ xs ++ x ∷ y ∷ []
      in_turn xs x y = append_assoc xs (x ∷ []) (y ∷ [])

  longer : (p : Pair) → length (changed nodes n bound (Split (length nodes)) ++ child n p bound ∷ child n (reversed p) bound ∷ []) ≡ length nodes + 2
  longer p = length-append (changed nodes n bound (Split (length nodes))) (child n p bound ∷ child n (reversed p) bound ∷ []) ∙ ap (λ (k : ℕ). k + 2) (length-set nodes n _)

  pub certified_settled : (pair : Option Pair) → IfSome pair (λ p. IsUndecided C.size (path_of nodes n) p.before p.after)
      → (length (settled_nodes nodes n bound best pair) ≡ length nodes + 2 → (rec (length nodes) ≡ rec n) × (rec (length nodes + 1) ≡ rec n)) → HaveCertified C rec (settled_nodes nodes n bound best pair)
  certified_settled None u h = when_closed
  certified_settled (Some p) u h = go (int_lt best bound) refl where
    go : (b : Bool) → b ≡ int_lt best bound → HaveCertified C rec (if b then divided (record { nodes = nodes; best = best; evaluated = 0 }) n bound best p else closed (record { nodes = nodes; best = best; evaluated = 0 }) n bound best).nodes
    go true e =
        let both = h (ap (λ (b : Bool). length (if b then divided (record { nodes = nodes; best = best; evaluated = 0 }) n bound best p else closed (record { nodes = nodes; best = best; evaluated = 0 }) n bound best).nodes) (sym e) ∙ longer p) in
        when_divided p u both.0 both.1
    go false e = when_closed
