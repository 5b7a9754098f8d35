-- The certificate of a core is true: each leaf certifies the core's bound under its path.
use Rattle.std.proofs.Common.{◌≡◌, true, take, drop, ℕ, zero, suc, ◌+◌, ◌-◌, ◌^◌, ◌<◌, ◌≤◌, List, [], ◌∷◌, ◌++◌, length, get_or, map, arith, sym, ◌∙◌, refl, ap, subst, ℤ, pos, negsuc, neg_ℤ}
use Rattle.std.specs.Prelude.{◌≤ℤ◌, ◌+ℤ◌, ◌*ℤ◌, nat_abs, All}
use Rattle.std.proofs.lemmas.Int.{ints}
use Rattle.std.proofs.lemmas.List.{length_push, take_at, get_or_push}
use Rattle.std.specs.Prelude.{◌==◌}
use Rattle.std.specs.List.{position_or_len}
use Rattle.std.proofs.lemmas.List.{take-append-drop, get_or-map, length-map}
use Rattle.std.proofs.Math.Seq.{drop-cons}
use Rattle.std.proofs.lemmas.List.Elements.{All-get_or, All-head, All-tail, All-cons, All-map}
use Rattle.std.proofs.lemmas.Option.{slice_get_within, get_or_from_slice_get}
use Rattle.lop_model.specs.declared.pair.Pair.{Pair}
use Rattle.lop_model.specs.Order.{IsOrder}
use Rattle.lop_model.specs.Matrix.{Matrix, IsWeights, weight, absolute_total}
use Rattle.lop_model.specs.Fixings.{IsUndecided, IsBranchingPath}
use Rattle.lop_model.proofs.MatrixLemmas.{weight_within}
use Rattle.lop_model.proofs.BoundLemmas.{pair_bound_within}
use Rattle.lop_cuts.specs.declared.kind.CutKind.{CutKind}
use Rattle.lop_cuts.specs.declared.kind.CutKind.TheVariants.{Dicycle}
use Rattle.lop_cuts.specs.Kind.{IsCut, FitsCut}
use Rattle.lop_cuts.specs.Lagrangian.{Term, Certifies}
use Rattle.lop_cuts.specs.Certifying.{CertifiesUnder}
use Rattle.lop_leaf.proofs.QuotientLemmas.{scaled-le}
use Rattle.lop_core.specs.declared.node.SearchNode.{SearchNode}
use Rattle.lop_core.specs.declared.records.NumberedTerm.{NumberedTerm}
use Rattle.lop_core.specs.Tree.{node_at, path_of, IsOpen, AreLinked}
use Rattle.lop_model.specs.Reversed.{reversed}
use Rattle.lop_core.specs.Records.{IsNodeRecord, IsRecordBook, record_at, number_at, cut_at, terms_of}
use Rattle.lop_core.specs.Machine.{SearchState, state_bound}
use Rattle.lop_core.specs.Core.{CoreFields, HasHistory, AreRecorded}
use Rattle.lop_core.proofs.Replay.{raised-le, raised-each, sound_replay}
use Rattle.lop_core.proofs.Linked.{core_linked, path_of_root}
use Rattle.lop_core.proofs.Monotone.{core_from_root}
use Rattle.lop_certtext.specs.CutLine.{IsShapedCut}
use Rattle.lop_certtext.specs.declared.limits.TheConstants.{MAX_CUTS}
use Rattle.lop_certtext.specs.RecordLine.{CertRecord, numbered_record, terms_in, cut_at as cut_numbered}
use Rattle.lop_certtext.specs.Tree.{Tree, IsRecord, IsLeaf, IsTree}
use Rattle.lop_certtext.specs.Certificate.{Certificate, IsTreeCertificate}
use Rattle.lop_certwrite.specs.CoreTree.{NodeTree, one_node, two_below, IsSplitInto, IsTreeAt, cert_record_of, open_nodes, is_used, users_from, users_in, place_among, certificate_tree, IsCertificateOf}
use Rattle.lop_core.proofs.SameRecords.{equal_record}
use Rattle.lop_certwrite.proofs.LeafLemmas.{numbered, record_right}
use Rattle.lop_certwrite.proofs.Pieces.{records_of}
use Rattle.lop_certwrite.proofs.Users.{found, used_all, users_all}
use Rattle.lop_certwrite.proofs.Walked.{opens_inside}

-- the cut of a number that is listed doesn't hang on what stands past the end
same_cut : (cuts : List CutKind) (i : ℕ) (d e : CutKind) → i < length cuts → get_or cuts i d ≡ get_or cuts i e
same_cut [] i d e l = absurd (omega arith)
same_cut (c ∷ cuts) zero d e l = refl
same_cut (c ∷ cuts) (suc i) d e l = same_cut cuts i d e (omega arith)

-- a leaf's terms, with their cuts looked up, are those of the record
same_terms : (cuts : List CutKind) (ts : List NumberedTerm) → All (λ t. t.cut < length cuts) ts → terms_in cuts (map numbered ts) ≡ terms_of cuts ts
same_terms cuts [] listed = refl
same_terms cuts (t ∷ ts) listed =
    let here : cut_numbered cuts (t.cut + 1) ≡ cut_at cuts t.cut = one_less cuts (t.cut + 1) t.cut (omega arith) (listed 0 t (omega arith)) in
    ap (λ (c : CutKind). record { cut = c; multiplier = t.multiplier } ∷ terms_in cuts (map numbered ts)) here
    ∙ ap (λ (l : List Term). record { cut = cut_at cuts t.cut; multiplier = t.multiplier } ∷ l) (same_terms cuts ts (λ k d l. listed (suc k) d (omega arith)))
  where
    one_less : (cuts : List CutKind) (n i : ℕ) → n ≡ i + 1 → i < length cuts → cut_numbered cuts n ≡ cut_at cuts i
    one_less cuts n i e l = let less : n - 1 ≡ i = omega arith in rw less (same_cut cuts i (Dicycle []) (Dicycle (0 ∷ 0 ∷ 0 ∷ [])) l)

-- what certifies a number certifies a greater one
certifies_more : (C : Matrix) (G : List Pair) (scale : ℕ) (terms : List Term) (b top : ℤ) → b ≤ℤ top → Certifies C G scale terms b → Certifies C G scale terms top
certifies_more C G scale terms b top more h =
    let up : (pos scale *ℤ (b +ℤ pos 1)) ≤ℤ (pos scale *ℤ (top +ℤ pos 1)) = scaled-le scale (b +ℤ pos 1) (top +ℤ pos 1) (omega (arith, ints)) in
    omega (arith, ints)

under_more : (C : Matrix) (path : List Pair) (scale : ℕ) (terms : List Term) (b top : ℤ) → b ≤ℤ top → CertifiesUnder C path scale terms b → CertifiesUnder C path scale terms top
under_more C path scale terms b top more h = record { each = λ G closure. certifies_more C G scale terms b top more (h.each G closure) }

-- the last pair of a branching path is undecided under those before it
last_undecided : (n : ℕ) (path : List Pair) (p : Pair) → IsBranchingPath n (path ++ p ∷ []) → IsUndecided n path p.before p.after
last_undecided n path p h =
    let longer : length (path ++ p ∷ []) ≡ length path + 1 = length_push path p in
    let u = h.each (length path) p (omega arith) in
    let last : get_or (path ++ p ∷ []) (length path) p ≡ p = get_or_push path p p (length path) refl in
    subst (λ (x : Pair). IsUndecided n path x.before x.after) last
    (subst (λ (q : List Pair). IsUndecided n q (get_or (path ++ p ∷ []) (length path) p).before (get_or (path ++ p ∷ []) (length path) p).after) (take_at path (p ∷ []) (length path) refl) u)

-- a number between an absolute sum and its negative fits 64 bits
fits : (z a : ℤ) → z ≤ℤ a → neg_ℤ a ≤ℤ z → a ≤ℤ pos (10 ^ 18) → nat_abs z < 2 ^ 63
fits (pos n) a up low most = omega (arith, ints)
fits (negsuc n) a up low most = omega (arith, ints)

-- both numbers of a certificate fit 64 bits
module _ (core : CoreFields) (history : HasHistory core) where
  pub best_fits : IsWeights core.problem.weights → nat_abs core.state.best < 2 ^ 63
  best_fits w =
      let within = weight_within core.problem.weights core.order history.is_order in
      subst (λ (z : ℤ). nat_abs z < 2 ^ 63) history.weighs (fits (weight core.problem.weights core.order) (absolute_total core.problem.weights) within.0 within.1 w.bounded_sum)

  pub bound_fits : IsWeights core.problem.weights → nat_abs (state_bound core.state) < 2 ^ 63
  bound_fits w =
      let low : core.state.best ≤ℤ state_bound core.state = raised-le core.state.nodes core.state.best in
      let within = weight_within core.problem.weights core.order history.is_order in
      let above = pair_bound_within core.problem.weights [] in
      let root = core_from_root core history in
      let best : weight core.problem.weights core.order ≤ℤ state_bound core.state = subst (λ (z : ℤ). z ≤ℤ state_bound core.state) (sym history.weighs) low in
      let up : state_bound core.state ≤ℤ absolute_total core.problem.weights = let h = above.0 in omega (arith, ints) in
      let down : neg_ℤ (absolute_total core.problem.weights) ≤ℤ state_bound core.state = let h = within.1 in omega (arith, ints) in
      fits (state_bound core.state) (absolute_total core.problem.weights) up down w.bounded_sum

-- both parts of a list have what all of it has
All-parts : (P : ℕ → Type 0) (xs ys : List ℕ) → All P (xs ++ ys) → All P xs × All P ys
All-parts P [] ys h = (λ k d l. absurd (omega arith), h)
All-parts P (x ∷ xs) ys h =
    let rest = All-parts P xs ys (All-tail P x (xs ++ ys) h) in
    (All-cons P x xs (All-head P x (xs ++ ys) h) rest.0, rest.1)

module _ (core : CoreFields) (history : HasHistory core) (recorded : AreRecorded core) (book : IsRecordBook core.book) where
  abbrev C : Matrix
  C = core.problem.weights

  abbrev nodes : List SearchNode
  nodes = core.state.nodes

  linked : AreLinked nodes
  linked = core_linked core history

  branching : (i : ℕ) → i < length nodes → IsBranchingPath C.size (path_of nodes i)
  branching =
      subst (λ (s : SearchState). (i : ℕ) → i < length s.nodes → IsBranchingPath C.size (path_of s.nodes i)) (sym history.replayed)
      (sound_replay core.problem core.journal history.lawful).lawful

  open_bound : (i : ℕ) (o : IsOpen nodes i) → (node_at nodes i).bound ≤ℤ state_bound core.state
  open_bound i o =
      let it : node_at nodes i ≡ o.it = get_or_from_slice_get nodes i o.it _ o.is_there in
      subst (λ (x : SearchNode). x.bound ≤ℤ state_bound core.state) (sym it) (raised-each nodes core.state.best i o)

  -- a node's record is one of a certificate
  right : (i : ℕ) → i < length nodes → IsRecord (length core.book.cuts) (cert_record_of (record_at core.book.records i))
  right i inside =
      record_right (length core.book.cuts) (record_at core.book.records i) (All-get_or (IsNodeRecord (length core.book.cuts)) core.book.records i _ (omega (arith, recorded.same_length)) book.each)

  -- the records of nodes are right
  records_right : (users : List ℕ) → All (λ i. i < length nodes) users → All (IsRecord (length core.book.cuts)) (records_of core users)
  records_right users inside =
      All-map (IsRecord (length core.book.cuts)) (λ node. cert_record_of (record_at core.book.records node)) users (λ k d l. right (get_or users k d) (inside k d l))

  -- an open node's record shows the core's bound
  leaf_shows : (i : ℕ) → IsOpen nodes i → CertifiesUnder C (path_of nodes i) (cert_record_of (record_at core.book.records i)).scale (terms_in core.book.cuts (cert_record_of (record_at core.book.records i)).terms) (state_bound core.state)
  leaf_shows i o =
      let inside : i < length nodes = slice_get_within nodes i o.it o.is_there in
      let is : IsNodeRecord (length core.book.cuts) (record_at core.book.records i) = All-get_or (IsNodeRecord (length core.book.cuts)) core.book.records i _ (omega (arith, recorded.same_length)) book.each in
      let top = under_more C (path_of nodes i) (record_at core.book.records i).scale (terms_of core.book.cuts (record_at core.book.records i).terms) (node_at nodes i).bound (state_bound core.state) (open_bound i o) (recorded.certified i inside) in
      subst (λ (ts : List Term). CertifiesUnder C (path_of nodes i) (record_at core.book.records i).scale ts (state_bound core.state)) (sym (same_terms core.book.cuts (record_at core.book.records i).terms is.listed)) top

  -- the paths of a split node's children
  first_path : (node first : ℕ) (pair : Pair) → IsSplitInto nodes node first pair → path_of nodes first ≡ path_of nodes node ++ pair ∷ []
  first_path node first pair s =
      (linked first s.one s.one_there (omega (arith, s.later))).1
      ∙ ap (λ (k : ℕ). path_of nodes k ++ s.one.pair ∷ []) s.one_parent
      ∙ ap (λ (p : Pair). path_of nodes node ++ p ∷ []) s.one_pair

  second_path : (node first : ℕ) (pair : Pair) → IsSplitInto nodes node first pair → path_of nodes (first + 1) ≡ path_of nodes node ++ reversed pair ∷ []
  second_path node first pair s =
      (linked (first + 1) s.two s.two_there (omega arith)).1
      ∙ ap (λ (k : ℕ). path_of nodes k ++ s.two.pair ∷ []) s.two_parent
      ∙ ap (λ (p : Pair). path_of nodes node ++ p ∷ []) s.two_pair

  module _ (users : List ℕ) (all_inside : All (λ i. i < length nodes) users) where
    abbrev records : List CertRecord
    records = records_of core users

    -- the record of a place is that of the node that has it
    named : (i : ℕ) → i < length nodes → is_used core.book.numbers users i ≡ true → numbered_record (records_of core users) (place_among core.book.numbers users i) ≡ cert_record_of (record_at core.book.records i)
    named i inside used =
        let f = found core.book.numbers users i used in
        let at : ℕ = position_or_len (λ other. number_at core.book.numbers other == number_at core.book.numbers i) users in
        let less : place_among core.book.numbers users i - 1 ≡ position_or_len (λ other. number_at core.book.numbers other == number_at core.book.numbers i) users = omega arith in
        let user : get_or users (position_or_len (λ other. number_at core.book.numbers other == number_at core.book.numbers i) users) 0 < length nodes = all_inside (position_or_len (λ other. number_at core.book.numbers other == number_at core.book.numbers i) users) 0 f.inside in
        let same = equal_record core.book i (get_or users (position_or_len (λ other. number_at core.book.numbers other == number_at core.book.numbers i) users) 0) book (omega (arith, recorded.same_length)) (omega (arith, recorded.same_length)) f.same in
        ap (λ (k : ℕ). get_or (records_of core users) k (record { scale = 1; terms = [] })) less
        ∙ (get_or-map (λ node. cert_record_of (record_at core.book.records node)) users at 0 (record { scale = 1; terms = [] }) f.inside
        ∙ ap cert_record_of same)

    -- an open node's leaf names its record
    leaf_holds : (i : ℕ) → IsOpen nodes i → is_used core.book.numbers users i ≡ true → IsLeaf C core.book.cuts (records_of core users) (state_bound core.state) (path_of nodes i) (place_among core.book.numbers users i)
    leaf_holds i o used =
        let inside : i < length nodes = slice_get_within nodes i o.it o.is_there in
        let f = found core.book.numbers users i used in
        record {
          from_one = omega arith;
          within = omega (arith, f.inside, length-map users (λ node. cert_record_of (record_at core.book.records node)));
          certified = subst (λ (r : CertRecord). CertifiesUnder C (path_of nodes i) r.scale (terms_in core.book.cuts r.terms) (state_bound core.state)) (sym (named i inside used)) (leaf_shows i o);
        }

    tree_holds : (node : ℕ) (tree : NodeTree) → IsTreeAt nodes node tree → All (λ k. is_used core.book.numbers users k ≡ true) (open_nodes tree)
        → IsTree C core.book.cuts (records_of core users) (state_bound core.state) (path_of nodes node) (certificate_tree core.book.numbers users tree)
    tree_holds node (one_node number) t used =
        subst (λ (k : ℕ). IsLeaf C core.book.cuts (records_of core users) (state_bound core.state) (path_of nodes node) (place_among core.book.numbers users k)) (sym t.0)
        (leaf_holds node t.1 (subst (λ (k : ℕ). is_used core.book.numbers users k ≡ true) t.0 (used 0 number (omega arith))))
    tree_holds node (two_below pair a b) t used =
        let first = first_path node t.0 pair t.1 in
        let second = second_path node t.0 pair t.1 in
        let child : t.0 < length nodes = slice_get_within nodes t.0 t.1.one t.1.one_there in
        let parts = All-parts (λ k. is_used core.book.numbers users k ≡ true) (open_nodes a) (open_nodes b) used in (
          last_undecided C.size (path_of nodes node) pair (subst (IsBranchingPath C.size) first (branching t.0 child)),
          subst (λ (p : List Pair). IsTree C core.book.cuts (records_of core users) (state_bound core.state) p (certificate_tree core.book.numbers users a)) first (tree_holds t.0 a t.2 parts.0),
          subst (λ (p : List Pair). IsTree C core.book.cuts (records_of core users) (state_bound core.state) p (certificate_tree core.book.numbers users b)) second (tree_holds (t.0 + 1) b t.3 parts.1),
        )

  -- the users of a tree are nodes, and they have all the records that its open nodes use
  pub users_inside : (tree : NodeTree) → IsTreeAt nodes 0 tree → All (λ i. i < length nodes) (users_in core.book.numbers tree)
  users_inside tree t = users_all core.book.numbers (λ i. i < length nodes) [] (open_nodes tree) (λ k d l. absurd (omega arith)) (opens_inside nodes 0 tree t)

  all_used : (tree : NodeTree) → All (λ k. is_used core.book.numbers (users_in core.book.numbers tree) k ≡ true) (open_nodes tree)
  all_used tree k d l =
      let parts : open_nodes tree ≡ take k (open_nodes tree) ++ get_or (open_nodes tree) k d ∷ drop (suc k) (open_nodes tree) = sym (take-append-drop k (open_nodes tree)) ∙ ap (λ (l : List ℕ). take k (open_nodes tree) ++ l) (drop-cons (open_nodes tree) k d l) in
      ap (λ (l : List ℕ). is_used core.book.numbers (users_from core.book.numbers [] l) (get_or (open_nodes tree) k d)) parts ∙ used_all core.book.numbers [] (take k (open_nodes tree)) (drop (suc k) (open_nodes tree)) (get_or (open_nodes tree) k d)

  pub certificate_holds : IsWeights C → length core.book.cuts ≤ 65536 → All IsShapedCut core.book.cuts → (c : Certificate) → IsCertificateOf core c → IsTreeCertificate C c
  certificate_holds w few shaped c is =
      let users : List ℕ = users_in core.book.numbers is.whole.tree in
      let inside = users_inside is.whole.tree is.whole.is_tree in
      let rs : List CertRecord = records_of core (users_in core.book.numbers is.whole.tree) in
      record {
        order_is = subst (IsOrder C.size) (sym is.order_is) history.is_order;
        value_is = is.value_is ∙ (sym history.weighs ∙ ap (weight C) (sym is.order_is));
        value_fits = subst (λ (z : ℤ). nat_abs z < 2 ^ 63) (sym is.value_is) (best_fits core history w);
        bound_fits = subst (λ (z : ℤ). nat_abs z < 2 ^ 63) (sym is.bound_is) (bound_fits core history w);
        few_cuts = subst (λ (cs : List CutKind). length cs ≤ MAX_CUTS) (sym is.cuts_are) (omega arith);
        cuts_are = subst (All IsCut) (sym is.cuts_are) book.cuts.each;
        cuts_fit = subst (All (FitsCut C.size)) (sym is.cuts_are) recorded.fit;
        cuts_shaped = subst (All IsShapedCut) (sym is.cuts_are) shaped;
        records_are = subst (λ (cs : List CutKind). All (IsRecord (length cs)) c.records) (sym is.cuts_are)
            (subst (All (IsRecord (length core.book.cuts))) (sym is.records_are) (records_right (users_in core.book.numbers is.whole.tree) inside));
        tree_is =
            subst (λ (cs : List CutKind). IsTree C cs c.records c.bound [] c.tree) (sym is.cuts_are)
            (subst (λ (rs : List CertRecord). IsTree C core.book.cuts rs c.bound [] c.tree) (sym is.records_are)
            (subst (λ (z : ℤ). IsTree C core.book.cuts (records_of core (users_in core.book.numbers is.whole.tree)) z [] c.tree) (sym is.bound_is)
            (subst (λ (t : Tree). IsTree C core.book.cuts (records_of core (users_in core.book.numbers is.whole.tree)) (state_bound core.state) [] t) (sym is.tree_is)
            (subst (λ (p : List Pair). IsTree C core.book.cuts (records_of core (users_in core.book.numbers is.whole.tree)) (state_bound core.state) p (certificate_tree core.book.numbers (users_in core.book.numbers is.whole.tree) is.whole.tree)) (path_of_root nodes)
            (tree_holds (users_in core.book.numbers is.whole.tree) inside 0 is.whole.tree is.whole.is_tree (all_used is.whole.tree))))));
      }
