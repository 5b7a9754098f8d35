-- The candidates after a take and after a report.
use Rattle.std.proofs.Common.{◌≡◌, ◌≢◌, ℕ, ◌+◌, ◌<◌, List, [], ◌∷◌, ◌++◌, length, get_or, inl, inr, ◌⊎◌, arith, sym, ◌∙◌, Some, None, Option, refl, ap, subst, suc, zero, Bool, true, false, All, Contains, IsPermutation, length-set, length-append}
use Rattle.std.specs.Prelude.{slice_get, ℤ, ◌≤ℤ◌, ◌<ℤ◌, IfSome, IfNone, int_lt, filter, if◌then◌else◌}
use Rattle.std.specs.BinaryHeap.{IsHeap}
use Rattle.std.proofs.lemmas.Int.{ints}
use Rattle.std.proofs.lemmas.Option.{get_or_from_slice_get, slice_get_within, same_Some}
use Rattle.std.proofs.lemmas.List.Sorted.{All-permutation, Contains-permutation}
use Rattle.std.proofs.lemmas.List.Kept.{AllPairs-cons, AllPairs-filter}
use Rattle.std.proofs.lemmas.List.Elements.{All-cons, All-tail, All-filter, filter_passes, Contains-append_right}
use Rattle.lop_model.specs.declared.pair.Pair.{Pair}
use Rattle.lop_core.specs.declared.node.SearchNode.{SearchNode}
use Rattle.lop_core.specs.declared.node.Standing.{Standing}
use Rattle.lop_core.specs.declared.node.Standing.TheVariants.{Idle, Out, Split}
use Rattle.lop_core.specs.declared.candidates.Candidate.{Candidate}
use Rattle.lop_core.specs.Tree.{child, node_at}
use Rattle.lop_model.specs.Reversed.{reversed}
use Rattle.lop_core.specs.Machine.{IsReady, changed, closed, divided, settled_nodes}
use Rattle.lop_core.specs.Candidates.{AreCandidates, IsTop, candidate, candidate_order}
use Rattle.lop_core.proofs.Lists.{slice_get-set_cases, slice_get-set_other, slice_get-append_left, slice_get_at, slice_get_two_cases, slice_get_two_second}
use Rattle.lop_core.proofs.CandidateLemmas.{Differ, different_permuted, one_of}

-- a node that is ready after another one changed: it was ready before, with its bound
record WasReady (old new : List SearchNode) (best : ℤ) (n j : ℕ) : Type 0 where
  other : j ≢ n
  before : IsReady old best j
  bound : (node_at old j).bound ≡ (node_at new j).bound

-- a change of one node, after which it isn't ready
module _ (nodes : List SearchNode) (n : ℕ) (bound best best' : ℤ) (standing : Standing) (lt : n < length nodes) (rises : best ≤ℤ best') (low : standing ≡ Idle → bound ≤ℤ best') where
  was_ready : (j : ℕ) → IsReady (changed nodes n bound standing) best' j → WasReady nodes (changed nodes n bound standing) best n j
  was_ready j ready = elim (slice_get-set_cases nodes n j _ ready.it lt ready.is_there) [
    | inl other ↦ record {
      other = other.0;
      before = record { it = ready.it; is_there = other.1; idle = ready.idle; above = let up = ready.above in omega (arith, ints) };
      bound = ap (λ (x : SearchNode). x.bound) (get_or_from_slice_get nodes j ready.it _ other.1 ∙ sym (get_or_from_slice_get (changed nodes n bound standing) j ready.it _ ready.is_there));
    }
    | inr same ↦
        let idle : standing ≡ Idle = ap (λ (x : SearchNode). x.standing) same.1 ∙ ready.idle in
        let bounds : bound ≡ ready.it.bound = ap (λ (x : SearchNode). x.bound) same.1 in
        let up = ready.above in
        let le : bound ≤ℤ best' = low idle in
        absurd (omega (arith, ints))
  ]

  -- another node that was ready is so still, where best stays
  still_ready : best ≡ best' → (j : ℕ) → j ≢ n → IsReady nodes best j → IsReady (changed nodes n bound standing) best' j × ((node_at (changed nodes n bound standing) j).bound ≡ (node_at nodes j).bound)
  still_ready e j other ready =
      let there : slice_get (changed nodes n bound standing) j ≡ Some ready.it = slice_get-set_other nodes n j _ other ∙ ready.is_there in (
        record { it = ready.it; is_there = there; idle = ready.idle; above = subst (λ (z : ℤ). z <ℤ ready.it.bound) e ready.above },
        ap (λ (x : SearchNode). x.bound) (get_or_from_slice_get (changed nodes n bound standing) j ready.it _ there ∙ sym (get_or_from_slice_get nodes j ready.it _ ready.is_there)),
      )

  -- the candidates of the other nodes
  others_kept : best ≡ best' → (cs : List Candidate) → IsHeap candidate_order cs → ((j : ℕ) → j ≢ n → IsReady nodes best j → Contains cs (candidate (node_at nodes j).bound j)) → All (λ (c : Candidate). IsReady nodes best c.node.0) cs
      → All (λ (c : Candidate). c.bound ≡ (node_at nodes c.node.0).bound) cs → Differ cs → All (λ (c : Candidate). c.node.0 ≢ n) cs → AreCandidates (changed nodes n bound standing) best' cs
  others_kept e cs heap every ready own different apart = record {
    ordered = heap;
    every = λ j r. let was = was_ready j r in subst (λ (b : ℤ). Contains cs (candidate b j)) was.bound (every j was.other was.before);
    ready = λ k d less. (still_ready e _ (apart k d less) (ready k d less)).0;
    own = λ k d less. own k d less ∙ sym (still_ready e _ (apart k d less) (ready k d less)).1;
    different = different;
  }

-- the node on top is handed out, and its candidate taken out
pub taken_candidates : (nodes : List SearchNode) (best : ℤ) (n w : ℕ) (cs rest : List Candidate) (new : List SearchNode) → AreCandidates nodes best cs → IsTop cs n → n < length nodes
    → ((top : Candidate) → slice_get cs 0 ≡ Some top → IsPermutation cs (top ∷ rest)) → IsHeap candidate_order rest → new ≡ changed nodes n (node_at nodes n).bound (Out w) → AreCandidates new best rest
taken_candidates nodes best n w cs rest new h top lt less heap e =
    let same : best ≤ℤ best = omega (arith, ints) in
    let never : Out w ≡ Idle → (node_at nodes n).bound ≤ℤ best = λ o. absurd cc in
    let first : Candidate = top.top in
    let p : IsPermutation cs (top.top ∷ rest) = less top.top top.is_there in
    let all : Differ (top.top ∷ rest) = different_permuted cs (top.top ∷ rest) p h.different in
    subst (λ (ns : List SearchNode). AreCandidates ns best rest) (sym e)
    (others_kept nodes n (node_at nodes n).bound best best (Out w) lt same never refl rest heap
    (λ j other ready. elim (one_of rest top.top (candidate (node_at nodes j).bound j) (Contains-permutation cs (top.top ∷ rest) _ p (h.every j ready))) [
      | inl is ↦ absurd (other (sym (ap (λ (c : Candidate). c.node.0) is) ∙ top.names))
      | inr more ↦ more
    ])
    (All-tail (λ (c : Candidate). IsReady nodes best c.node.0) top.top rest (All-permutation (λ (c : Candidate). IsReady nodes best c.node.0) cs (top.top ∷ rest) p h.ready))
    (All-tail (λ (c : Candidate). c.bound ≡ (node_at nodes c.node.0).bound) top.top rest (All-permutation (λ (c : Candidate). c.bound ≡ (node_at nodes c.node.0).bound) cs (top.top ∷ rest) p h.own))
    (λ i j d ij jl. all (suc i) (suc j) d (omega arith) (omega arith))
    (λ k d kl is. all 0 (suc k) d (omega arith) (omega arith) (top.names ∙ sym is)))

-- best rises, and the candidates that aren't live any more are dropped
pub raised_candidates : (nodes : List SearchNode) (best best' : ℤ) (cs more : List Candidate) → AreCandidates nodes best cs → best ≤ℤ best' → IsPermutation (filter (λ c. int_lt best' c.bound) cs) more → IsHeap candidate_order more
    → AreCandidates nodes best' more
raised_candidates nodes best best' cs more h rises p heap =
    let test : Candidate → Bool = λ c. int_lt best' c.bound in
    let ready = All-filter (λ (c : Candidate). int_lt best' c.bound) (λ (c : Candidate). IsReady nodes best c.node.0) cs h.ready in
    let own = All-filter (λ (c : Candidate). int_lt best' c.bound) (λ (c : Candidate). c.bound ≡ (node_at nodes c.node.0).bound) cs h.own in
    let pass = filter_passes (λ (c : Candidate). int_lt best' c.bound) cs in
    let live : All (λ (c : Candidate). IsReady nodes best' c.node.0) (filter (λ (c : Candidate). int_lt best' c.bound) cs) = λ k d lt.
    let r = ready k d lt in
    let c : Candidate = get_or (filter (λ (c : Candidate). int_lt best' c.bound) cs) k d in
    let bound : (get_or (filter (λ (c : Candidate). int_lt best' c.bound) cs) k d).bound ≡ r.it.bound =
    own k d lt ∙ ap (λ (x : SearchNode). x.bound) (get_or_from_slice_get nodes (get_or (filter (λ (c : Candidate). int_lt best' c.bound) cs) k d).node.0 r.it _ r.is_there) in
    record { it = r.it; is_there = r.is_there; idle = r.idle; above = subst (λ (z : ℤ). best' <ℤ z) bound (up _ (pass k d lt)) } in
    record {
      ordered = heap;
      every = λ j r.
          let before : IsReady nodes best j = record { it = r.it; is_there = r.is_there; idle = r.idle; above = let a = r.above in omega (arith, ints) } in
          let bound : r.it.bound ≡ (node_at nodes j).bound = ap (λ (x : SearchNode). x.bound) (sym (get_or_from_slice_get nodes j r.it _ r.is_there)) in
          Contains-permutation (filter (λ (c : Candidate). int_lt best' c.bound) cs) more _ p
          (there cs (candidate (node_at nodes j).bound j) (h.every j before) (down (node_at nodes j).bound (subst (λ (z : ℤ). best' <ℤ z) bound r.above)));
      ready = All-permutation (λ (c : Candidate). IsReady nodes best' c.node.0) (filter (λ (c : Candidate). int_lt best' c.bound) cs) more p live;
      own = All-permutation (λ (c : Candidate). c.bound ≡ (node_at nodes c.node.0).bound) (filter (λ (c : Candidate). int_lt best' c.bound) cs) more p own;
      different = different_permuted (filter (λ (c : Candidate). int_lt best' c.bound) cs) more p (AllPairs-filter (λ (c d : Candidate). c.node.0 ≢ d.node.0) (λ (c : Candidate). int_lt best' c.bound) cs h.different);
    }
  where
    up : (z : ℤ) → int_lt best' z ≡ true → best' <ℤ z
    up z t = grind (arith, ints)

    down : (z : ℤ) → best' <ℤ z → int_lt best' z ≡ true
    down z t = grind (arith, ints)

    keep : (b : Bool) (x y : Candidate) (rest : List Candidate) → Contains rest x → Contains (if b then y ∷ rest else rest) x
    keep true x y rest c = (suc c.0, omega (arith, c.1), c.2)
    keep false x y rest c = c

    there : (xs : List Candidate) (x : Candidate) → Contains xs x → int_lt best' x.bound ≡ true → Contains (filter (λ (c : Candidate). int_lt best' c.bound) xs) x
    there [] x c t = absurd (omega (arith, c.1))
    there (y ∷ xs) x (zero, lt, is) t =
        let e : filter (λ (c : Candidate). int_lt best' c.bound) (y ∷ xs) ≡ y ∷ filter (λ (c : Candidate). int_lt best' c.bound) xs =
        ap (λ (b : Bool). if b then y ∷ filter (λ (c : Candidate). int_lt best' c.bound) xs else filter (λ (c : Candidate). int_lt best' c.bound) xs) (ap (λ (c : Candidate). int_lt best' c.bound) is ∙ t) in
        subst (λ (zs : List Candidate). Contains zs x) (sym e) (0, omega arith, is)
    there (y ∷ xs) x (suc k, lt, is) t = keep (int_lt best' y.bound) x y (filter (λ (c : Candidate). int_lt best' c.bound) xs) (there xs x (k, omega arith, is) t)

-- ---- a report

-- two nodes more
module _ (front : List SearchNode) (x y : SearchNode) (best : ℤ) where
  -- a ready node of the longer list is one that was ready, or one of the two
  record Places (j : ℕ) : Type 0 where
    place : (IsReady front best j × (node_at (front ++ x ∷ y ∷ []) j ≡ node_at front j)) ⊎ (((j ≡ length front) × (node_at (front ++ x ∷ y ∷ []) j ≡ x)) ⊎ ((j ≡ length front + 1) × (node_at (front ++ x ∷ y ∷ []) j ≡ y)))

  places : (j : ℕ) → IsReady (front ++ x ∷ y ∷ []) best j → Places j
  places j ready =
      let at : node_at (front ++ x ∷ y ∷ []) j ≡ ready.it = get_or_from_slice_get (front ++ x ∷ y ∷ []) j ready.it _ ready.is_there in
      elim (slice_get_two_cases front x y ready.it j ready.is_there) [
        | inl old ↦ record { place = inl (record { it = ready.it; is_there = old; idle = ready.idle; above = ready.above }, at ∙ sym (get_or_from_slice_get front j ready.it _ old)) }
        | inr new ↦ elim new [
          | inl first ↦ record { place = inr (inl (first.0, at ∙ sym first.1)) }
          | inr second ↦ record { place = inr (inr (second.0, at ∙ sym second.1)) }
        ]
      ]

  -- a candidate of each of the two with its bound, beside the candidates of the others
  module _ (cs : List Candidate) (h : AreCandidates front best cs) (xi : x.standing ≡ Idle) (yi : y.standing ≡ Idle) (xb : best <ℤ x.bound) (yb : best <ℤ y.bound) where
    abbrev all : List Candidate
    all = candidate y.bound (length front + 1) ∷ candidate x.bound (length front) ∷ cs

    each_there : (j : ℕ) → IsReady (front ++ x ∷ y ∷ []) best j → Contains (candidate y.bound (length front + 1) ∷ candidate x.bound (length front) ∷ cs) (candidate (node_at (front ++ x ∷ y ∷ []) j).bound j)
    each_there j ready = elim (places j ready).place [
      | inl old ↦ subst (λ (m : SearchNode). Contains (candidate y.bound (length front + 1) ∷ candidate x.bound (length front) ∷ cs) (candidate m.bound j)) (sym old.1)
          (Contains-append_right (candidate y.bound (length front + 1) ∷ candidate x.bound (length front) ∷ []) cs _ (h.every j old.0))
      | inr new ↦ elim new [
        | inl first ↦ rw (first.1, first.0) (1, omega arith, refl)
        | inr second ↦ rw (second.1, second.0) (0, omega arith, refl)
      ]
    ]

    first_there : slice_get (front ++ x ∷ y ∷ []) (length front) ≡ Some x
    first_there = slice_get_at front x (y ∷ [])

    second_there : slice_get (front ++ x ∷ y ∷ []) (length front + 1) ≡ Some y
    second_there = slice_get_two_second front x y

    ready_each : All (λ (c : Candidate). IsReady (front ++ x ∷ y ∷ []) best c.node.0) (candidate y.bound (length front + 1) ∷ candidate x.bound (length front) ∷ cs)
    ready_each =
        All-cons (λ (c : Candidate). IsReady (front ++ x ∷ y ∷ []) best c.node.0) (candidate y.bound (length front + 1)) (candidate x.bound (length front) ∷ cs) (record { it = y; is_there = second_there; idle = yi; above = yb })
        (All-cons (λ (c : Candidate). IsReady (front ++ x ∷ y ∷ []) best c.node.0) (candidate x.bound (length front)) cs (record { it = x; is_there = first_there; idle = xi; above = xb })
        (λ k d lt. let r = h.ready k d lt in record { it = r.it; is_there = slice_get-append_left front (x ∷ y ∷ []) _ (slice_get_within front _ r.it r.is_there) ∙ r.is_there; idle = r.idle; above = r.above }))

    own_each : All (λ (c : Candidate). c.bound ≡ (node_at (front ++ x ∷ y ∷ []) c.node.0).bound) (candidate y.bound (length front + 1) ∷ candidate x.bound (length front) ∷ cs)
    own_each =
        All-cons (λ (c : Candidate). c.bound ≡ (node_at (front ++ x ∷ y ∷ []) c.node.0).bound) (candidate y.bound (length front + 1)) (candidate x.bound (length front) ∷ cs)
        (ap (λ (m : SearchNode). m.bound) (sym (get_or_from_slice_get (front ++ x ∷ y ∷ []) (length front + 1) y _ second_there)))
        (All-cons (λ (c : Candidate). c.bound ≡ (node_at (front ++ x ∷ y ∷ []) c.node.0).bound) (candidate x.bound (length front)) cs
        (ap (λ (m : SearchNode). m.bound) (sym (get_or_from_slice_get (front ++ x ∷ y ∷ []) (length front) x _ first_there)))
        (λ k d lt.
        let r = h.ready k d lt in
        let there = slice_get-append_left front (x ∷ y ∷ []) _ (slice_get_within front _ r.it r.is_there) ∙ r.is_there in
        h.own k d lt ∙ ap (λ (m : SearchNode). m.bound) (get_or_from_slice_get front _ r.it _ r.is_there ∙ sym (get_or_from_slice_get (front ++ x ∷ y ∷ []) _ r.it _ there))))

    different_each : Differ (candidate y.bound (length front + 1) ∷ candidate x.bound (length front) ∷ cs)
    different_each =
        let low : All (λ (c : Candidate). c.node.0 < length front) cs = λ k d lt. let r = h.ready k d lt in slice_get_within front _ r.it r.is_there in
        AllPairs-cons (λ (c d : Candidate). c.node.0 ≢ d.node.0) (candidate y.bound (length front + 1)) (candidate x.bound (length front) ∷ cs)
        (All-cons (λ (d : Candidate). length front + 1 ≢ d.node.0) (candidate x.bound (length front)) cs (omega arith) (λ k d lt. let l = low k d lt in omega arith))
        (AllPairs-cons (λ (c d : Candidate). c.node.0 ≢ d.node.0) (candidate x.bound (length front)) cs (λ k d lt. let l = low k d lt in omega arith) h.different)

    two_more : (more : List Candidate) → IsPermutation (candidate y.bound (length front + 1) ∷ candidate x.bound (length front) ∷ cs) more → IsHeap candidate_order more → AreCandidates (front ++ x ∷ y ∷ []) best more
    two_more more p heap = record {
      ordered = heap;
      every = λ j ready. Contains-permutation _ more _ p (each_there j ready);
      ready = All-permutation (λ (c : Candidate). IsReady (front ++ x ∷ y ∷ []) best c.node.0) _ more p ready_each;
      own = All-permutation (λ (c : Candidate). c.bound ≡ (node_at (front ++ x ∷ y ∷ []) c.node.0).bound) _ more p own_each;
      different = different_permuted _ more p different_each;
    }

-- the node that was out is settled, and its children are put in where it was split
pub reported_candidates : (nodes : List SearchNode) (best kept : ℤ) (n w : ℕ) (pair : Option Pair) (split : Option ℕ) (new : List SearchNode) (cs more : List Candidate) → AreCandidates nodes best cs → (m : SearchNode) → slice_get nodes n ≡ Some m
    → m.standing ≡ Out w → IfNone pair (kept ≤ℤ best) → new ≡ settled_nodes nodes n kept best pair → IfSome split (λ first. (first ≡ length nodes) × (length new ≡ length nodes + 2)) → IfNone split (length new ≡ length nodes)
    → IfSome split (λ first. IsPermutation (candidate kept (first + 1) ∷ candidate kept first ∷ cs) more) → IfNone split (more ≡ cs) → IsHeap candidate_order more → AreCandidates new best more
reported_candidates nodes best kept n w pair split new cs more h m is_there out low settled grows stays put same heap = by_pair pair low settled where
  lt : n < length nodes
  lt = slice_get_within nodes n m is_there

  changed_kept : (standing : Standing) → (standing ≡ Idle → kept ≤ℤ best) → AreCandidates (changed nodes n kept standing) best cs
  changed_kept standing low =
      others_kept nodes n kept best best standing lt (omega (arith, ints)) low refl cs h.ordered (λ j other ready. h.every j ready) h.ready h.own h.different
      (λ k d less is.
      let r = h.ready k d less in
      let at : slice_get nodes n ≡ Some r.it = ap (slice_get nodes) (sym is) ∙ r.is_there in
      let one : m ≡ r.it = same_Some m r.it (sym is_there ∙ at) in
      let no : Out w ≡ Idle = sym out ∙ (ap (λ (x : SearchNode). x.standing) one ∙ r.idle) in
      cc)

  when_closed : (o : Option ℕ) → kept ≤ℤ best → new ≡ changed nodes n kept Idle → IfSome o (λ first. (first ≡ length nodes) × (length new ≡ length nodes + 2)) → IfNone o (more ≡ cs) → AreCandidates new best more
  when_closed None le e g s = rw (e, s) (changed_kept Idle (λ i. le))
  when_closed (Some first) le e g s = absurd (omega (arith, g.1, ap length e, length-set nodes n (record (node_at nodes n) { bound = kept; standing = Idle })))

  when_divided : (o : Option ℕ) (p : Pair) → best <ℤ kept → new ≡ changed nodes n kept (Split (length nodes)) ++ child n p kept ∷ child n (reversed p) kept ∷ []
      → IfSome o (λ first. (first ≡ length nodes) × (length new ≡ length nodes + 2)) → IfNone o (length new ≡ length nodes) → IfSome o (λ first. IsPermutation (candidate kept (first + 1) ∷ candidate kept first ∷ cs) more) → AreCandidates new best more
  when_divided None p up e g s put = absurd (omega (arith, s, ap length e, length-append (changed nodes n kept (Split (length nodes))) (child n p kept ∷ child n (reversed p) kept ∷ []), length-set nodes n (record (node_at nodes n) { bound = kept; standing = Split (length nodes) })))
  when_divided (Some first) p up e g s put =
      let size : first ≡ length (changed nodes n kept (Split (length nodes))) = g.0 ∙ sym (length-set nodes n (record (node_at nodes n) { bound = kept; standing = Split (length nodes) })) in
      rw e (two_more (changed nodes n kept (Split (length nodes))) (child n p kept) (child n (reversed p) kept) best cs (changed_kept (Split (length nodes)) (λ i. absurd cc)) refl refl up up more
      (subst (λ (k : ℕ). IsPermutation (candidate kept (k + 1) ∷ candidate kept k ∷ cs) more) size put) heap)

  by_test : (b : Bool) (p : Pair) → int_lt best kept ≡ b
      → new ≡ (if b then divided (record { nodes = nodes; best = best; evaluated = 0 }) n kept best p else closed (record { nodes = nodes; best = best; evaluated = 0 }) n kept best).nodes → AreCandidates new best more
  by_test true p t e = when_divided split p (grind (arith, ints)) e grows stays put
  by_test false p t e = when_closed split (grind (arith, ints)) e grows same

  by_pair : (o : Option Pair) → IfNone o (kept ≤ℤ best) → new ≡ settled_nodes nodes n kept best o → AreCandidates new best more
  by_pair None le e = when_closed split le e grows same
  by_pair (Some p) le e = by_test (int_lt best kept) p refl e
