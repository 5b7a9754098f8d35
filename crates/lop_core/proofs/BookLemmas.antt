-- The records of a core: what a report leaves of them, and when a record is refused.
use Rattle.std.proofs.Common.{◌≡◌, ◌≢◌, ℕ, ◌+◌, ◌*◌, ◌/◌, ◌<◌, ◌≤◌, min, List, [], ◌∷◌, ◌++◌, length, get_or, arith, sym, ◌∙◌, refl, ap, subst, Bool, true, false, cond, eqb, leb, ◌&&◌, ◌||◌, Some, None, Option, length-set, length-append}
use Rattle.std.specs.Prelude.{ℤ, pos, ◌-ℤ◌, ◌*ℤ◌, ◌+ℤ◌, IfSome, IfNone, if◌then◌else◌, filter, count_by, All, IsPermutation}
use Rattle.std.specs.Int.{int_max}
use Rattle.std.proofs.lemmas.Bool.Decides.{nat_tests}
use Rattle.std.proofs.lemmas.List.{length-map, length_push, get_or-set_other, get_or_append_left}
use Rattle.std.proofs.lemmas.List.Elements.{All-map, All-filter, All-append}
use Rattle.std.proofs.lemmas.List.Sums.{length-filter, count_by-le-length, sum_by_push}
use Rattle.std.proofs.lemmas.List.Sorted.{sum_by-IsPermutation}
use Rattle.lop_model.specs.declared.pair.Pair.{Pair}
use Rattle.lop_model.specs.Sums.{pair_sum}
use Rattle.lop_model.specs.Matrix.{Matrix, entry}
use Rattle.lop_model.specs.Fixings.{has_pair, IsUndecided, IsBranchingPath}
use Rattle.lop_model.specs.Bound.{pair_value}
use Rattle.lop_model.proofs.SumLemmas.{pair_sum-same}
use Rattle.lop_cuts.specs.declared.kind.CutKind.{CutKind}
use Rattle.lop_cuts.specs.Kind.{IsCut, FitsCut, arcs_of, right_side_of}
use Rattle.lop_cuts.specs.Lagrangian.{Term, charge, right_sides, reduced_entry, lagrangian_value}
use Rattle.lop_leaf.specs.Record.{ScaledTerms, no_terms, HasCutsBelow, FitTerms}
use Rattle.lop_leaf.specs.Bound.{CertifiesUnder}
use Rattle.lop_core.specs.declared.node.SearchNode.{SearchNode}
use Rattle.lop_core.specs.declared.records.NumberedTerm.{NumberedTerm}
use Rattle.lop_core.specs.Records.{NodeRecord, RecordBook, empty_record, cut_at, record_at, terms_of, scaled_of, is_new, new_cuts, finds_room, term_room, IsNodeRecord, IsRecordBook, IsNumbered, IsAdded, IsTakenAs, IsTakenOrKept, is_own, with_children}
use Rattle.lop_core.specs.declared.node.Standing.TheVariants.{Out}
use Rattle.lop_core.specs.declared.journal.Entry.{Entry}
use Rattle.lop_core.specs.declared.journal.Entry.TheVariants.{Take, Report}
use Rattle.lop_leaf.specs.Evaluated.{EvaluatedFields}
use Rattle.lop_core.specs.Tree.{node_at, path_of}
use Rattle.lop_core.specs.Machine.{changed, settled_nodes}
use Rattle.lop_core.specs.Core.{CoreFields, AreCertified, AreRecorded}
use Rattle.lop_core.specs.Journal.{sure_rooms, has_room, room_count}
use Rattle.lop_core.proofs.Lists.{slice_get_two_second}
use Rattle.lop_core.proofs.Certified.{certified_changed, certified_settled}
use Rattle.std.proofs.lemmas.Option.{get_or_from_slice_get}
use Rattle.lop_core.proofs.RecordLemmas.{terms_of-longer}

-- ---- when a record finds room

-- a record without terms finds room
pub without_terms_found : (own : Bool) (room : ℕ) (book : RecordBook) (shown : ScaledTerms) → shown ≡ no_terms → (own || finds_room room book shown.terms) ≡ true
without_terms_found true room book shown e = refl
without_terms_found false room book shown e = ap (λ (r : ScaledTerms). finds_room room book r.terms) e

-- the terms bring no more new cuts than there are terms
pub new_count-le-terms : (cuts : List CutKind) (terms : List Term) → length (new_cuts cuts terms) ≤ length terms
new_count-le-terms cuts terms =
    let all : length (new_cuts cuts terms) ≡ count_by (λ (u : Term). is_new cuts u.cut) terms =
    length-map (filter (λ (u : Term). is_new cuts u.cut) terms) (λ (u : Term). u.cut) ∙ length-filter (λ (u : Term). is_new cuts u.cut) terms in
    omega (arith, count_by-le-length (λ (u : Term). is_new cuts u.cut) terms)

refused_by : (budget used k m nc rooms : ℕ) (p q r : Bool) → p ≡ eqb k 0 → q ≡ leb (used + k) (4096 + min (1024 * budget) 67108864) → r ≡ leb (m + nc) 65536 → (p || (q && r)) ≡ false
    → used ≤ 4096 * rooms → m ≤ 4096 * rooms → k ≤ 4096 → nc ≤ k → min 16 (1 + budget / 4) ≤ rooms
refused_by budget used k m nc rooms true q r ep eq er e hu hm hk hn = absurd cc
refused_by budget used k m nc rooms false true true ep eq er e hu hm hk hn = absurd cc
refused_by budget used k m nc rooms false false r ep eq er e hu hm hk hn =
    let over : 4096 + min (1024 * budget) 67108864 < used + k = above (used + k) (4096 + min (1024 * budget) 67108864) eq in
    omega arith
  where
    above : (x y : ℕ) → false ≡ leb x y → y < x
    above x y h = grind (arith, nat_tests)
refused_by budget used k m nc rooms false true false ep eq er e hu hm hk hn =
    let over : 65536 < m + nc = above (m + nc) 65536 er in
    omega arith
  where
    above : (x y : ℕ) → false ≡ leb x y → y < x
    above x y h = grind (arith, nat_tests)

-- a record is refused only after so many that found room
pub refused_late : (own : Bool) (budget : ℕ) (book : RecordBook) (terms : List Term) (rooms : ℕ) → (own || finds_room (term_room budget) book terms) ≡ false → book.used ≤ 4096 * rooms → length book.cuts ≤ 4096 * rooms → length terms ≤ 4096
    → sure_rooms budget ≤ rooms
refused_late true budget book terms rooms e used cuts few = absurd cc
refused_late false budget book terms rooms e used cuts few =
    refused_by budget book.used (length terms) (length book.cuts) (length (new_cuts book.cuts terms)) rooms (eqb (length terms) 0) (leb (book.used + length terms) (4096 + min (1024 * budget) 67108864))
    (leb (length book.cuts + length (new_cuts book.cuts terms)) 65536) refl refl refl e used cuts few (new_count-le-terms book.cuts terms)

-- ---- the order of the terms plays no part

module _ (C : Matrix) (scale : ℕ) (ts us : List Term) (perm : IsPermutation ts us) where
  same_charge : (a b : ℕ) → charge us a b ≡ charge ts a b
  same_charge a b = sum_by-IsPermutation (λ (t : Term). if has_pair (arcs_of t.cut) a b then t.multiplier else 0) ts us perm

  same_reduced : (a b : ℕ) → reduced_entry C scale us a b ≡ reduced_entry C scale ts a b
  same_reduced a b = ap (λ k. pos scale *ℤ entry C a b -ℤ pos k) (same_charge a b)

  same_value : (G : List Pair) (i j : ℕ) → pair_value G (reduced_entry C scale us) i j ≡ pair_value G (reduced_entry C scale ts) i j
  same_value G i j =
      ap (λ (x : ℤ). cond (has_pair G i j) x (cond (has_pair G j i) (reduced_entry C scale us j i) (int_max x (reduced_entry C scale us j i)))) (same_reduced i j)
      ∙ ap (λ (y : ℤ). cond (has_pair G i j) (reduced_entry C scale ts i j) (cond (has_pair G j i) y (int_max (reduced_entry C scale ts i j) y))) (same_reduced j i)

  pub lagrangian_value-permuted : (G : List Pair) → lagrangian_value C G scale us ≡ lagrangian_value C G scale ts
  lagrangian_value-permuted G =
      ap (λ k. pos k +ℤ pair_sum C.size (pair_value G (reduced_entry C scale us))) (sum_by-IsPermutation (λ (t : Term). t.multiplier * right_side_of t.cut) ts us perm)
      ∙ ap (λ (z : ℤ). pos (right_sides ts) +ℤ z) (pair_sum-same C.size (pair_value G (reduced_entry C scale us)) (pair_value G (reduced_entry C scale ts)) (λ i j _ _. same_value G i j))

pub CertifiesUnder-permuted : (C : Matrix) (path : List Pair) (r s : ScaledTerms) (b : ℤ) → s.scale ≡ r.scale → IsPermutation r.terms s.terms → CertifiesUnder C path r b → CertifiesUnder C path s b
CertifiesUnder-permuted C path r s b es perm certified = record {
  each = λ G c.
      let value : lagrangian_value C G s.scale s.terms ≡ lagrangian_value C G r.scale r.terms = ap (λ k. lagrangian_value C G k s.terms) es ∙ lagrangian_value-permuted C r.scale r.terms s.terms perm G in
      rw (value, es) (certified.each G c);
}

-- ---- the cuts of a node's record

pub cuts_below : (core : CoreFields) (i : ℕ) → AreRecorded core → IsRecordBook core.book → i < length core.state.nodes → HasCutsBelow core.problem.weights.size (terms_of core.book.cuts (record_at core.book.records i).terms)
cuts_below core i kept book lt =
    let there : i < length core.book.records = omega (arith, kept.same_length) in
    let is : IsNodeRecord (length core.book.cuts) (record_at core.book.records i) = book.each i empty_record there in
    let look : NumberedTerm → Term = λ t. record { cut = cut_at core.book.cuts t.cut; multiplier = t.multiplier } in
    record {
      cuts = All-map (λ (t : Term). IsCut t.cut) (λ (t : NumberedTerm). record { cut = cut_at core.book.cuts t.cut; multiplier = t.multiplier }) (record_at core.book.records i).terms
          (λ k d l. book.cuts.each (get_or (record_at core.book.records i).terms k d).cut _ (is.listed k d l));
      fit = All-map (λ (t : Term). FitsCut core.problem.weights.size t.cut) (λ (t : NumberedTerm). record { cut = cut_at core.book.cuts t.cut; multiplier = t.multiplier }) (record_at core.book.records i).terms
          (λ k d l. kept.fit (get_or (record_at core.book.records i).terms k d).cut _ (is.listed k d l));
    }

-- ---- what a report leaves

-- the book after the node's record was taken in or refused, in place of the one before
pub record TakenFacts (view : CoreFields) (node : ℕ) (kept : ℤ) (rooms : ℕ) (mid : RecordBook) : Type 0 where
  pub same_length : length mid.records ≡ length view.state.nodes
  pub others : (i : ℕ) → i < length view.state.nodes → i ≢ node → scaled_of mid.cuts (record_at mid.records i) ≡ scaled_of view.book.cuts (record_at view.book.records i)
  pub own : CertifiesUnder view.problem.weights (path_of view.state.nodes node) (scaled_of mid.cuts (record_at mid.records node)) kept
  pub fit : All (FitsCut view.problem.weights.size) mid.cuts
  pub terms : mid.used ≤ 4096 * rooms
  pub cuts : length mid.cuts ≤ 4096 * rooms
  pub kept_count : length mid.kept ≤ length view.book.kept + 1

module _ (view : CoreFields) (rec : AreRecorded view) (book : IsRecordBook view.book) (node : ℕ) (inside : node < length view.state.nodes) (found : EvaluatedFields) (rooms : ℕ) (mid : RecordBook) where
  facts_refused : rooms ≡ room_count view.journal → mid ≡ view.book → TakenFacts view node (node_at view.state.nodes node).bound rooms mid
  facts_refused er e = rw (e, er) (record {
    same_length = rec.same_length;
    others = λ i lt ne. refl;
    own = rec.certified node inside;
    fit = rec.fit;
    terms = rec.terms;
    cuts = rec.cuts;
    kept_count = omega arith;
  })

  -- the node has the record already
  facts_same : rooms ≡ room_count view.journal + 1 → IsNumbered view.book.cuts found.shown (record_at view.book.records node) → mid ≡ view.book
      → CertifiesUnder view.problem.weights (path_of view.state.nodes node) found.shown found.bound → TakenFacts view node found.bound rooms mid
  facts_same er own e certified = rw e (record {
    same_length = rec.same_length;
    others = λ i lt ne. refl;
    own = CertifiesUnder-permuted view.problem.weights (path_of view.state.nodes node) found.shown (scaled_of view.book.cuts (record_at view.book.records node)) found.bound own.scale own.terms certified;
    fit = rec.fit;
    terms = omega (arith, rec.terms);
    cuts = omega (arith, rec.cuts);
    kept_count = omega arith;
  })

  facts_added : rooms ≡ room_count view.journal + 1 → IsAdded view.book node found.shown mid → length found.shown.terms ≤ 4096 → FitTerms view.problem.weights.size found.shown.terms
      → CertifiesUnder view.problem.weights (path_of view.state.nodes node) found.shown found.bound → TakenFacts view node found.bound rooms mid
  facts_added er taken few fit certified =
      let more = new_count-le-terms view.book.cuts found.shown.terms in
      let long : length mid.cuts ≡ length view.book.cuts + length (new_cuts view.book.cuts found.shown.terms) = ap length taken.cuts ∙ length-append view.book.cuts (new_cuts view.book.cuts found.shown.terms) in
      record {
        same_length = ap length taken.others ∙ length-set view.book.records node (record_at mid.records node) ∙ rec.same_length;
        others = λ i lt ne.
            let there : i < length view.book.records = omega (arith, rec.same_length) in
            let same : record_at mid.records i ≡ record_at view.book.records i =
            ap (λ (rs : List NodeRecord). record_at rs i) taken.others ∙ get_or-set_other view.book.records node i (record_at mid.records node) empty_record ne in
            let is : IsNodeRecord (length view.book.cuts) (record_at view.book.records i) = book.each i empty_record there in
            ap (scaled_of mid.cuts) same
            ∙ ap (λ (cs : List CutKind). scaled_of cs (record_at view.book.records i)) taken.cuts
            ∙ ap (λ (ts : List Term). record { scale = (record_at view.book.records i).scale; terms = ts }) (terms_of-longer view.book.cuts (new_cuts view.book.cuts found.shown.terms) (record_at view.book.records i).terms is.listed);
        own = CertifiesUnder-permuted view.problem.weights (path_of view.state.nodes node) found.shown (scaled_of mid.cuts (record_at mid.records node)) found.bound taken.own.scale taken.own.terms certified;
        fit = subst (λ (cs : List CutKind). All (FitsCut view.problem.weights.size) cs) (sym taken.cuts)
            (All-append (FitsCut view.problem.weights.size) view.book.cuts (new_cuts view.book.cuts found.shown.terms) rec.fit
            (All-map (FitsCut view.problem.weights.size) (λ (t : Term). t.cut) (filter (λ (t : Term). is_new view.book.cuts t.cut) found.shown.terms)
            (All-filter (λ (t : Term). is_new view.book.cuts t.cut) (λ (t : Term). FitsCut view.problem.weights.size t.cut) found.shown.terms fit)));
        terms = omega (arith, taken.used, rec.terms);
        cuts = omega (arith, more, rec.cuts);
        kept_count = omega (arith, ap length taken.kept ∙ length_push view.book.kept (record_at mid.records node));
      }

  facts_taken : (own : Bool) → rooms ≡ room_count view.journal + 1 → IsTakenAs own view.book node found.shown mid → length found.shown.terms ≤ 4096 → FitTerms view.problem.weights.size found.shown.terms
      → CertifiesUnder view.problem.weights (path_of view.state.nodes node) found.shown found.bound → TakenFacts view node found.bound rooms mid
  facts_taken true er taken few fit certified = facts_same er taken.0 taken.1 certified
  facts_taken false er taken few fit certified = facts_added er taken few fit certified

  -- both at once
  pub facts_of : (room : Bool) → rooms ≡ room_count view.journal + (if room then 1 else 0) → IsTakenOrKept room view.book node found.shown mid → length found.shown.terms ≤ 4096 → FitTerms view.problem.weights.size found.shown.terms
      → CertifiesUnder view.problem.weights (path_of view.state.nodes node) found.shown found.bound → TakenFacts view node (if room then found.bound else (node_at view.state.nodes node).bound) rooms mid
  facts_of true er taken few fit certified = facts_taken (is_own view.book node found.shown) er taken few fit certified
  facts_of false er taken few fit certified = facts_refused (omega (arith, er)) taken

-- the book of the children: those of a split node have its record
abbrev pub GrownBook : List SearchNode → RecordBook → ℕ → Option ℕ → List SearchNode → RecordBook → Type 0
GrownBook old mid node (Some first) nodes book = (length nodes ≡ length old + 2) × (book ≡ with_children mid node)
GrownBook old mid node None nodes book = (length nodes ≡ length old) × (book ≡ mid)

pub grown_by : (old nodes : List SearchNode) (mid book : RecordBook) (node : ℕ) (split : Option ℕ) → IfSome split (λ first. (first ≡ length old) × (length nodes ≡ length old + 2)) → IfNone split (length nodes ≡ length old)
    → IfSome split (λ _. book ≡ with_children mid node) → IfNone split (book ≡ mid) → GrownBook old mid node split nodes book
grown_by old nodes mid book node None some none grown same = (none, same)
grown_by old nodes mid book node (Some first) some none grown same = (some.1, grown)

-- what the nodes' records are after a report, by the book with the children
record GrownFacts (view : CoreFields) (node : ℕ) (kept : ℤ) (rooms : ℕ) (nodes : List SearchNode) (book : RecordBook) : Type 0 where
  same_length : length book.records ≡ length nodes
  others : (i : ℕ) → i < length view.state.nodes → i ≢ node → scaled_of book.cuts (record_at book.records i) ≡ scaled_of view.book.cuts (record_at view.book.records i)
  own : CertifiesUnder view.problem.weights (path_of view.state.nodes node) (scaled_of book.cuts (record_at book.records node)) kept
  children : length nodes ≡ length view.state.nodes + 2
      → (scaled_of book.cuts (record_at book.records (length view.state.nodes)) ≡ scaled_of book.cuts (record_at book.records node))
      × (scaled_of book.cuts (record_at book.records (length view.state.nodes + 1)) ≡ scaled_of book.cuts (record_at book.records node))
  fit : All (FitsCut view.problem.weights.size) book.cuts
  terms : book.used ≤ 4096 * rooms
  cuts : length book.cuts ≤ 4096 * rooms
  kept_count : length book.kept ≤ length view.book.kept + 1

grown_facts : (view : CoreFields) (node : ℕ) (kept : ℤ) (rooms : ℕ) (mid book : RecordBook) (split : Option ℕ) (nodes : List SearchNode) → TakenFacts view node kept rooms mid → node < length view.state.nodes
    → GrownBook view.state.nodes mid node split nodes book → GrownFacts view node kept rooms nodes book
grown_facts view node kept rooms mid book None nodes facts inside grown = rw grown.1 (record {
  same_length = facts.same_length ∙ sym grown.0;
  others = facts.others;
  own = facts.own;
  children = λ e. absurd (omega (arith, grown.0));
  fit = facts.fit;
  terms = facts.terms;
  cuts = facts.cuts;
  kept_count = facts.kept_count;
})
grown_facts view node kept rooms mid book (Some first) nodes facts inside grown =
    let r : NodeRecord = record_at mid.records node in
    let more : List NodeRecord = record_at mid.records node ∷ record_at mid.records node ∷ [] in
    let old : (i : ℕ) → i < length view.state.nodes → record_at (mid.records ++ record_at mid.records node ∷ record_at mid.records node ∷ []) i ≡ record_at mid.records i = λ i lt.
    get_or_append_left mid.records (record_at mid.records node ∷ record_at mid.records node ∷ []) empty_record i (omega (arith, facts.same_length)) in
    let len : length mid.records ≡ length view.state.nodes = facts.same_length in
    let one : record_at (mid.records ++ record_at mid.records node ∷ record_at mid.records node ∷ []) (length view.state.nodes) ≡ record_at mid.records node =
    ap (record_at (mid.records ++ record_at mid.records node ∷ record_at mid.records node ∷ [])) (sym len) ∙ get_or_at mid.records (record_at mid.records node) (record_at mid.records node ∷ []) empty_record in
    let two : record_at (mid.records ++ record_at mid.records node ∷ record_at mid.records node ∷ []) (length view.state.nodes + 1) ≡ record_at mid.records node =
    ap (λ k. record_at (mid.records ++ record_at mid.records node ∷ record_at mid.records node ∷ []) (k + 1)) (sym len) ∙ get_or_after mid.records (record_at mid.records node) (record_at mid.records node) empty_record in
    rw grown.1 (record {
      same_length = length-append mid.records (record_at mid.records node ∷ record_at mid.records node ∷ []) ∙ ap (λ k. k + 2) len ∙ sym grown.0;
      others = λ i lt ne. ap (scaled_of mid.cuts) (old i lt) ∙ facts.others i lt ne;
      own = subst (λ (s : NodeRecord). CertifiesUnder view.problem.weights (path_of view.state.nodes node) (scaled_of mid.cuts s) kept) (sym (old node inside)) facts.own;
      children = λ e. (ap (scaled_of mid.cuts) (one ∙ sym (old node inside)), ap (scaled_of mid.cuts) (two ∙ sym (old node inside)));
      fit = facts.fit;
      terms = facts.terms;
      cuts = facts.cuts;
      kept_count = facts.kept_count;
    })
  where
    get_or_at : (xs : List NodeRecord) (x : NodeRecord) (ys : List NodeRecord) (d : NodeRecord) → get_or (xs ++ x ∷ ys) (length xs) d ≡ x
    get_or_at [] x ys d = refl
    get_or_at (y ∷ xs) x ys d = get_or_at xs x ys d

    get_or_after : (xs : List NodeRecord) (x y d : NodeRecord) → get_or (xs ++ x ∷ y ∷ []) (length xs + 1) d ≡ y
    get_or_after xs x y d = get_or_from_slice_get (xs ++ x ∷ y ∷ []) (length xs + 1) y d (slice_get_two_second xs x y)

-- the laws of the records after a report
pub report_recorded : (view : CoreFields) (node : ℕ) (kept best : ℤ) (rooms : ℕ) (mid book : RecordBook) (split : Option ℕ) (p : Option Pair) (nodes : List SearchNode) (new : CoreFields)
    → AreRecorded view → TakenFacts view node kept rooms mid → node < length view.state.nodes → IsBranchingPath view.problem.weights.size (path_of view.state.nodes node)
    → IfSome p (λ q. IsUndecided view.problem.weights.size (path_of view.state.nodes node) q.before q.after) → nodes ≡ settled_nodes view.state.nodes node kept best p → GrownBook view.state.nodes mid node split nodes book
    → new.problem.weights ≡ view.problem.weights → new.state.nodes ≡ nodes → new.book ≡ book → room_count new.journal ≡ rooms
    → new.state.evaluated ≡ view.state.evaluated + 1 → AreRecorded new
report_recorded view node kept best rooms mid book split p nodes new rec facts inside branching undecided settled grown ew en eb er ee =
    let g = grown_facts view node kept rooms mid book split nodes facts inside grown in
    let certified : AreCertified view.problem.weights book (settled_nodes view.state.nodes node kept best p) =
    certified_settled view.problem.weights (λ i. scaled_of book.cuts (record_at book.records i)) view.state.nodes node kept best
    (λ i lt ne. subst (λ (r : ScaledTerms). CertifiesUnder view.problem.weights (path_of view.state.nodes i) r (node_at view.state.nodes i).bound) (sym (g.others i lt ne)) (rec.certified i lt))
    inside branching g.own p undecided (λ e. g.children (ap length settled ∙ e)) in
    record {
      same_length = ap (λ (b : RecordBook). length b.records) eb ∙ g.same_length ∙ sym (ap length en);
      certified = rw (ew, eb, en, settled) certified;
      fit = rw (ew, eb) g.fit;
      terms = rw (eb, er) g.terms;
      cuts = rw (eb, er) g.cuts;
      kept = rw eb (omega (arith, g.kept_count, rec.kept, ee));
    }

-- the laws of the records after a take
pub take_recorded : (view new : CoreFields) (w i : ℕ) → AreRecorded view → i < length view.state.nodes → new.problem.weights ≡ view.problem.weights → new.state.nodes ≡ changed view.state.nodes i (node_at view.state.nodes i).bound (Out w)
    → new.book ≡ view.book → new.journal ≡ view.journal ++ Take w i ∷ [] → new.state.evaluated ≡ view.state.evaluated → AreRecorded new
take_recorded view new w i rec inside ew en eb ej ee =
    let rooms : room_count new.journal ≡ room_count view.journal + 0 = ap room_count ej ∙ sum_by_push (λ (e : Entry). cond (has_room e) 1 0) view.journal (Take w i) in
    let certified : AreCertified view.problem.weights view.book (changed view.state.nodes i (node_at view.state.nodes i).bound (Out w)) =
    certified_changed view.problem.weights (λ j. scaled_of view.book.cuts (record_at view.book.records j)) view.state.nodes i (node_at view.state.nodes i).bound (Out w) (λ j lt ne. rec.certified j lt) inside (rec.certified i inside) in
    record {
      same_length = ap (λ (b : RecordBook). length b.records) eb ∙ rec.same_length ∙ sym (ap length en ∙ length-set view.state.nodes i _);
      certified = rw (ew, eb, en) certified;
      fit = rw (ew, eb) rec.fit;
      terms = rw eb (omega (arith, rec.terms));
      cuts = rw eb (omega (arith, rec.cuts));
      kept = rw eb (omega (arith, rec.kept, ee));
    }

-- how many reports found room, with one more
pub rooms_after : (journal new : List Entry) (w node : ℕ) (bound : ℤ) (pair : Option Pair) (value : ℤ) (room : Bool) → new ≡ journal ++ Report w node bound pair value room ∷ [] → room_count new ≡ room_count journal + (if room then 1 else 0)
rooms_after journal new w node bound pair value room e = ap room_count e ∙ sum_by_push (λ (e : Entry). cond (has_room e) 1 0) journal (Report w node bound pair value room)
