-- There are as many candidates as live idle nodes.
use Rattle.std.proofs.Common.{◌≡◌, ◌≢◌, ℕ, ◌+◌, ◌<◌, ◌≤◌, List, [], ◌∷◌, length, get_or, arith, sym, ◌∙◌, refl, ap, subst, suc, zero, Bool, true, false, Contains, IsPermutation}
use Rattle.std.specs.Prelude.{ℤ, ◌&&◌, int_lt, All, AllPairs}
use Rattle.std.specs.List.{remove}
use Rattle.std.proofs.lemmas.List.Elements.{All-head, All-tail, All-cons, All-nil}
use Rattle.std.proofs.lemmas.List.Kept.{AllPairs-cons}
use Rattle.std.proofs.lemmas.List.Sums.{sum_by-cons}
use Rattle.std.proofs.lemmas.List.Sorted.{length_permutation, IsPermutation-remove, Contains-permutation}
use Rattle.lop_core.specs.declared.node.SearchNode.{SearchNode}
use Rattle.lop_core.specs.declared.candidates.Candidate.{Candidate}
use Rattle.lop_core.specs.Tree.{node_at, is_idle}
use Rattle.lop_core.specs.Machine.{ready_count}
use Rattle.lop_core.specs.Candidates.{AreCandidates, candidate}
use Rattle.lop_core.proofs.Sound.{one_if}
use Rattle.lop_core.proofs.CandidateLemmas.{ready_by, passes_by}
use Rattle.std.proofs.lemmas.Option.{slice_get_within}

-- different elements that are all of a list are no more than it has
fewer : {X : Type 0} (xs ys : List X) → AllPairs (λ a b. a ≢ b) xs → All (Contains ys) xs → length xs ≤ length ys
fewer [] ys different each = omega arith
fewer {X} (x ∷ xs) ys different each =
    let there : Contains ys x = All-head (Contains ys) x xs each in
    let rest : List X = remove ys there.0 in
    let apart : IsPermutation ys (x ∷ rest) = IsPermutation-remove ys there.0 x there.1 (sym there.2) in
    let long : length (x ∷ rest) ≡ length ys = length_permutation ys (x ∷ rest) apart in
    let later : All (Contains rest) xs = λ k d lt.
    inner rest x (get_or xs k d) (Contains-permutation ys (x ∷ rest) (get_or xs k d) apart (All-tail (Contains ys) x xs each k d lt))
    (λ same. different 0 (suc k) d (omega arith) (omega arith) same) in
    let most = fewer xs rest (λ i j d lt within. different (suc i) (suc j) d (omega arith) (omega arith)) later in
    omega (arith, long, most)
  where
    inner : (rest : List X) (x z : X) → Contains (x ∷ rest) z → x ≢ z → Contains rest z
    inner rest x z (zero, lt, same) never = absurd (never same)
    inner rest x z (suc k, lt, same) never = (k, omega arith, same)

-- the test of a node
abbrev passes : ℤ → SearchNode → Bool
passes best m = is_idle m.standing && int_lt best m.bound

pick : Bool → Candidate → List Candidate → List Candidate
pick true c cs = c ∷ cs
pick false c cs = cs

-- the ready nodes in the order of their numbers, the first of which is i
ready_from : ℕ → List SearchNode → ℤ → List Candidate
ready_from i [] best = []
ready_from i (m ∷ ms) best = pick (passes best m) (candidate m.bound i) (ready_from (i + 1) ms best)

length-pick : (b : Bool) (c : Candidate) (cs : List Candidate) → length (pick b c cs) ≡ one_if b + length cs
unfolding pick
length-pick true c cs = omega arith
length-pick false c cs = omega arith

length-ready_from : (i : ℕ) (ms : List SearchNode) (best : ℤ) → length (ready_from i ms best) ≡ ready_count ms best
unfolding ready_from
length-ready_from i [] best = refl
length-ready_from i (m ∷ ms) best =
    let all : ready_count (m ∷ ms) best ≡ one_if (passes best m) + ready_count ms best = sum_by-cons (λ (x : SearchNode). one_if (passes best x)) m ms in
    omega (arith, all, length-pick (passes best m) (candidate m.bound i) (ready_from (i + 1) ms best), length-ready_from (i + 1) ms best)

-- an element of the list is the candidate of a node that passes
record IsPicked (i : ℕ) (ms : List SearchNode) (best : ℤ) (c : Candidate) : Type 0 where
  place : ℕ
  inside : place < length ms
  passed : passes best (node_at ms place) ≡ true
  is : c ≡ candidate (node_at ms place).bound (i + place)

later_picked : (i : ℕ) (m : SearchNode) (ms : List SearchNode) (best : ℤ) (c : Candidate) → IsPicked (i + 1) ms best c → IsPicked i (m ∷ ms) best c
later_picked i m ms best c p = record {
  place = suc p.place;
  inside = let l = p.inside in omega arith;
  passed = p.passed;
  is = p.is ∙ ap (candidate (node_at ms p.place).bound) (omega arith);
}

picked : (b : Bool) (i : ℕ) (m : SearchNode) (ms : List SearchNode) (best : ℤ) (rest : List Candidate) → passes best m ≡ b → All (IsPicked i (m ∷ ms) best) rest → All (IsPicked i (m ∷ ms) best) (pick b (candidate m.bound i) rest)
unfolding pick
picked true i m ms best rest t all = All-cons (IsPicked i (m ∷ ms) best) (candidate m.bound i) rest (record { place = 0; inside = omega arith; passed = t; is = ap (candidate m.bound) (omega arith) }) all
picked false i m ms best rest t all = all

each_picked : (i : ℕ) (ms : List SearchNode) (best : ℤ) → All (IsPicked i ms best) (ready_from i ms best)
unfolding ready_from
each_picked i [] best = All-nil (IsPicked i [] best)
each_picked i (m ∷ ms) best = picked (passes best m) i m ms best (ready_from (i + 1) ms best) refl (λ k d lt. later_picked i m ms best _ (each_picked (i + 1) ms best k d lt))

differ : (b : Bool) (i : ℕ) (c : Candidate) (rest : List Candidate) → c.node.0 ≡ i → All (λ (d : Candidate). i < d.node.0) rest → AllPairs (λ (c d : Candidate). c.node.0 ≢ d.node.0) rest → AllPairs (λ (c d : Candidate). c.node.0 ≢ d.node.0) (pick b c rest)
unfolding pick
differ true i c rest e above d = AllPairs-cons (λ (c d : Candidate). c.node.0 ≢ d.node.0) c rest (λ k x lt. let a = above k x lt in omega arith) d
differ false i c rest e above d = d

all_differ : (i : ℕ) (ms : List SearchNode) (best : ℤ) → AllPairs (λ (c d : Candidate). c.node.0 ≢ d.node.0) (ready_from i ms best)
unfolding ready_from
all_differ i [] best = λ a b d lt within. absurd (omega arith)
all_differ i (m ∷ ms) best =
    differ (passes best m) i (candidate m.bound i) (ready_from (i + 1) ms best) refl
    (λ k d lt. let p = each_picked (i + 1) ms best k d lt in subst (λ (c : Candidate). i < c.node.0) (sym p.is) (omega arith)) (all_differ (i + 1) ms best)

kept_by_pick : (b : Bool) (c x : Candidate) (rest : List Candidate) → Contains rest x → Contains (pick b c rest) x
unfolding pick
kept_by_pick true c x rest h = (suc h.0, omega (arith, h.1), h.2)
kept_by_pick false c x rest h = h

picked_first : (b : Bool) (c : Candidate) (rest : List Candidate) → b ≡ true → Contains (pick b c rest) c
unfolding pick
picked_first true c rest e = (0, omega arith, refl)
picked_first false c rest e = absurd cc

is_there : (i k : ℕ) (ms : List SearchNode) (best : ℤ) → k < length ms → passes best (node_at ms k) ≡ true → Contains (ready_from i ms best) (candidate (node_at ms k).bound (i + k))
unfolding ready_from
is_there i k [] best lt t = absurd (omega arith)
is_there i zero (m ∷ ms) best lt t =
    subst (λ (n : ℕ). Contains (pick (passes best m) (candidate m.bound i) (ready_from (i + 1) ms best)) (candidate m.bound n)) (omega arith) (picked_first (passes best m) (candidate m.bound i) (ready_from (i + 1) ms best) t)
is_there i (suc k) (m ∷ ms) best lt t =
    subst (λ (n : ℕ). Contains (pick (passes best m) (candidate m.bound i) (ready_from (i + 1) ms best)) (candidate (node_at ms k).bound n)) (omega arith)
    (kept_by_pick (passes best m) (candidate m.bound i) _ (ready_from (i + 1) ms best) (is_there (i + 1) k ms best (omega arith) t))

-- as many candidates as ready nodes
pub ready_total : (nodes : List SearchNode) (best : ℤ) (cs : List Candidate) → AreCandidates nodes best cs → length cs ≡ ready_count nodes best
ready_total nodes best cs h =
    let apart : (xs : List Candidate) → AllPairs (λ (c d : Candidate). c.node.0 ≢ d.node.0) xs → AllPairs (λ (c d : Candidate). c ≢ d) xs = λ xs different i j d lt within same. different i j d lt within (ap (λ (c : Candidate). c.node.0) same) in
    let down = fewer cs (ready_from 0 nodes best) (apart cs h.different) (λ k d lt.
    let r = h.ready k d lt in
    let c : Candidate = get_or cs k d in
    let there = is_there 0 (get_or cs k d).node.0 nodes best (slice_get_within nodes (get_or cs k d).node.0 r.it r.is_there) (passes_by nodes best (get_or cs k d).node.0 r) in
    let same : candidate (node_at nodes (get_or cs k d).node.0).bound (0 + (get_or cs k d).node.0) ≡ get_or cs k d =
    ap (λ (n : ℕ). candidate (node_at nodes (get_or cs k d).node.0).bound n) (omega arith) ∙ ap (λ (b : ℤ). candidate b (get_or cs k d).node.0) (sym (h.own k d lt)) in
    subst (Contains (ready_from 0 nodes best)) same there) in
    let up = fewer (ready_from 0 nodes best) cs (apart (ready_from 0 nodes best) (all_differ 0 nodes best)) (λ k d lt.
    let p = each_picked 0 nodes best k d lt in
    let there = h.every p.place (ready_by nodes best p.place p.inside p.passed) in
    subst (Contains cs) (ap (candidate (node_at nodes p.place).bound) (omega arith) ∙ sym p.is) there) in
    let long : length (ready_from 0 nodes best) ≡ ready_count nodes best = length-ready_from 0 nodes best in
    omega (arith, down, up, long)
