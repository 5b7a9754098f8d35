-- The nodes that are out: how their list changes, and what is counted over it.
use Rattle.std.proofs.Common.{◌≡◌, ℕ, ◌+◌, ◌<◌, ◌≤◌, List, [], ◌∷◌, ◌++◌, length, get_or, set, arith, sym, ◌∙◌, inl, inr, Some, None, Option, refl, ap, subst, suc, zero, Bool, true, false, eqb, Contains, IsPermutation}
use Rattle.std.specs.Prelude.{if◌then◌else◌, ℤ, pos, ◌<ℤ◌, ◌≤ℤ◌, not, ◌&&◌, int_lt, All, count_by, slice_get, fold}
use Rattle.std.specs.List.{sum_by, list_any, swap_remove}
use Rattle.std.specs.Int.{int_max}
use Rattle.std.proofs.lemmas.Int.{ints, clamps}
use Rattle.std.proofs.lemmas.Bool.Decides.{nat_tests}
use Rattle.std.proofs.lemmas.Option.{get_or_from_slice_get, slice_get-get_or, slice_get_within}
use Rattle.std.proofs.lemmas.Bool.{cases_lt}
use Rattle.std.proofs.lemmas.List.{get_or_past, get_or_default}
use Rattle.std.proofs.lemmas.List.Folds.{Any-from_list_any, list_any_at}
use Rattle.std.proofs.lemmas.List.Sums.{sum_by-cons, sum_by_push, get_or-le-sum_by}
use Rattle.std.proofs.lemmas.List.Sorted.{sum_by-IsPermutation, IsPermutation-swap_remove}
use Rattle.std.proofs.lemmas.List.Elements.{All-nil, All-cons, All-head, All-tail}
use Rattle.lop_model.specs.declared.pair.Pair.{Pair}
use Rattle.lop_model.specs.Reversed.{reversed}
use Rattle.lop_core.specs.declared.node.SearchNode.{SearchNode}
use Rattle.lop_core.specs.declared.node.Standing.{Standing}
use Rattle.lop_core.specs.declared.node.Standing.TheVariants.{Idle, Out, Split}
use Rattle.lop_core.specs.Tree.{child, no_pair, node_at, is_out, is_split, is_idle, out_count}
use Rattle.lop_core.specs.Machine.{SearchState, IsLive, IsReady, IsFirstReady, live_count, ready_count, state_bound, changed, settled_nodes, closed, divided}
use Rattle.lop_core.specs.Outs.{with_number, outs_from, HasOuts}
use Rattle.lop_core.proofs.Sound.{one_if}
use Rattle.lop_core.proofs.Replay.{raised-le, raised-each}
use Rattle.lop_core.proofs.Monotone.{state_bound_within}

-- ---- sums over the list

sum_with : (f : ℕ → ℕ) (i : ℕ) (rest : List ℕ) → sum_by f (with_number true i rest) ≡ f i + sum_by f rest
sum_with f i rest = sum_by-cons f i rest

-- a node that wasn't out is out
pub sum_taken : (f : ℕ → ℕ) (i k : ℕ) (ms : List SearchNode) (m' : SearchNode) → k < length ms → is_out (node_at ms k).standing ≡ false → is_out m'.standing ≡ true
    → sum_by f (outs_from i (set ms k m')) ≡ f (i + k) + sum_by f (outs_from i ms)
sum_taken f i k [] m' lt was now = absurd (omega arith)
sum_taken f i zero (m ∷ ms) m' lt was now =
    let before : sum_by f (with_number (is_out m.standing) i (outs_from (i + 1) ms)) ≡ sum_by f (outs_from (i + 1) ms) = ap (λ b. sum_by f (with_number b i (outs_from (i + 1) ms))) was in
    let after : sum_by f (with_number (is_out m'.standing) i (outs_from (i + 1) ms)) ≡ f i + sum_by f (outs_from (i + 1) ms) =
    ap (λ b. sum_by f (with_number b i (outs_from (i + 1) ms))) now ∙ sum_with f i (outs_from (i + 1) ms) in
    let number : f (i + 0) ≡ f i = ap f (omega arith) in
    omega (arith, before, after, number)
sum_taken f i (suc k) (m ∷ ms) m' lt was now = go (is_out m.standing) (sum_taken f (i + 1) k ms m' (omega arith) was now) where
  go : (b : Bool) → sum_by f (outs_from (i + 1) (set ms k m')) ≡ f ((i + 1) + k) + sum_by f (outs_from (i + 1) ms) → sum_by f (with_number b i (outs_from (i + 1) (set ms k m'))) ≡ f (i + suc k) + sum_by f (with_number b i (outs_from (i + 1) ms))
  go true rest =
      let number : f ((i + 1) + k) ≡ f (i + suc k) = ap f (omega arith) in
      omega (arith, rest, number, sum_with f i (outs_from (i + 1) (set ms k m')), sum_with f i (outs_from (i + 1) ms))
  go false rest =
      let number : f ((i + 1) + k) ≡ f (i + suc k) = ap f (omega arith) in
      omega (arith, rest, number)

-- a node that was out isn't any more
pub sum_returned : (f : ℕ → ℕ) (i k : ℕ) (ms : List SearchNode) (m' : SearchNode) → k < length ms → is_out (node_at ms k).standing ≡ true → is_out m'.standing ≡ false
    → f (i + k) + sum_by f (outs_from i (set ms k m')) ≡ sum_by f (outs_from i ms)
sum_returned f i k [] m' lt was now = absurd (omega arith)
sum_returned f i zero (m ∷ ms) m' lt was now =
    let after : sum_by f (with_number (is_out m'.standing) i (outs_from (i + 1) ms)) ≡ sum_by f (outs_from (i + 1) ms) = ap (λ b. sum_by f (with_number b i (outs_from (i + 1) ms))) now in
    let before : sum_by f (with_number (is_out m.standing) i (outs_from (i + 1) ms)) ≡ f i + sum_by f (outs_from (i + 1) ms) =
    ap (λ b. sum_by f (with_number b i (outs_from (i + 1) ms))) was ∙ sum_with f i (outs_from (i + 1) ms) in
    let number : f (i + 0) ≡ f i = ap f (omega arith) in
    omega (arith, before, after, number)
sum_returned f i (suc k) (m ∷ ms) m' lt was now = go (is_out m.standing) (sum_returned f (i + 1) k ms m' (omega arith) was now) where
  go : (b : Bool) → f ((i + 1) + k) + sum_by f (outs_from (i + 1) (set ms k m')) ≡ sum_by f (outs_from (i + 1) ms) → f (i + suc k) + sum_by f (with_number b i (outs_from (i + 1) (set ms k m'))) ≡ sum_by f (with_number b i (outs_from (i + 1) ms))
  go true rest =
      let number : f ((i + 1) + k) ≡ f (i + suc k) = ap f (omega arith) in
      omega (arith, rest, number, sum_with f i (outs_from (i + 1) (set ms k m')), sum_with f i (outs_from (i + 1) ms))
  go false rest =
      let number : f ((i + 1) + k) ≡ f (i + suc k) = ap f (omega arith) in
      omega (arith, rest, number)

-- two nodes more that aren't out
pub outs_from-more : (i : ℕ) (ms : List SearchNode) (x y : SearchNode) → is_out x.standing ≡ false → is_out y.standing ≡ false → outs_from i (ms ++ x ∷ y ∷ []) ≡ outs_from i ms
outs_from-more i [] x y ex ey = ap (λ b. with_number b i (with_number (is_out y.standing) (i + 1) [])) ex ∙ ap (λ b. with_number b (i + 1) []) ey
outs_from-more i (m ∷ ms) x y ex ey = ap (with_number (is_out m.standing) i) (outs_from-more (i + 1) ms x y ex ey)

-- ---- what is counted

-- a count over the list is one over the nodes
pub counted_from : (i : ℕ) (ms : List SearchNode) (g : ℕ → Bool) (p : SearchNode → Bool) → ((k : ℕ) → k < length ms → g (i + k) ≡ p (node_at ms k)) → sum_by (λ k. one_if (g k)) (outs_from i ms) ≡ sum_by (λ (m : SearchNode). one_if (is_out m.standing && p m)) ms
counted_from i [] g p h = refl
counted_from i (m ∷ ms) g p h =
    let next : (k : ℕ) → g ((i + 1) + k) ≡ g (i + suc k) = λ k. ap g (omega arith) in
    let first : g i ≡ g (i + 0) = ap g (omega arith) in
    let rest = counted_from (i + 1) ms g p (λ k lt. next k ∙ h (suc k) (omega arith)) in
    let here : g i ≡ p m = first ∙ h 0 (omega arith) in
    let all = sum_by-cons (λ (x : SearchNode). one_if (is_out x.standing && p x)) m ms in
    go (is_out m.standing) rest here all refl
  where
    go : (b : Bool) → sum_by (λ k. one_if (g k)) (outs_from (i + 1) ms) ≡ sum_by (λ (x : SearchNode). one_if (is_out x.standing && p x)) ms → g i ≡ p m
        → sum_by (λ (x : SearchNode). one_if (is_out x.standing && p x)) (m ∷ ms) ≡ one_if (is_out m.standing && p m) + sum_by (λ (x : SearchNode). one_if (is_out x.standing && p x)) ms
        → is_out m.standing ≡ b → sum_by (λ k. one_if (g k)) (with_number b i (outs_from (i + 1) ms)) ≡ sum_by (λ (x : SearchNode). one_if (is_out x.standing && p x)) (m ∷ ms)
    go true rest here all e =
        let one : one_if (g i) ≡ one_if (is_out m.standing && p m) = ap one_if here ∙ ap (λ b. one_if (b && p m)) (sym e) in
        omega (arith, rest, all, one, sum_with (λ k. one_if (g k)) i (outs_from (i + 1) ms))
    go false rest here all e =
        let none : one_if (is_out m.standing && p m) ≡ 0 = ap (λ b. one_if (b && p m)) e in
        omega (arith, rest, all, none)

-- the length of the list
length-outs_from : (i : ℕ) (ms : List SearchNode) → sum_by (λ (k : ℕ). 1) (outs_from i ms) ≡ out_count ms
length-outs_from i [] = refl
length-outs_from i (m ∷ ms) = go (is_out m.standing) refl (length-outs_from (i + 1) ms) where
  go : (b : Bool) → is_out m.standing ≡ b → sum_by (λ (k : ℕ). 1) (outs_from (i + 1) ms) ≡ out_count ms → sum_by (λ (k : ℕ). 1) (with_number b i (outs_from (i + 1) ms)) ≡ out_count (m ∷ ms)
  go true e rest =
      let one : one_if (is_out m.standing) ≡ 1 = ap one_if e in
      omega (arith, rest, sum_by-cons (λ (x : SearchNode). one_if (is_out x.standing)) m ms, one, sum_with (λ (k : ℕ). 1) i (outs_from (i + 1) ms))
  go false e rest =
      let none : one_if (is_out m.standing) ≡ 0 = ap one_if e in
      omega (arith, rest, sum_by-cons (λ (x : SearchNode). one_if (is_out x.standing)) m ms, none)

sum_of_ones : (xs : List ℕ) → sum_by (λ (k : ℕ). 1) xs ≡ length xs
sum_of_ones [] = refl
sum_of_ones (x ∷ xs) = omega (arith, sum_of_ones xs, sum_by-cons (λ (k : ℕ). 1) x xs)

-- where the count is 0, nothing passes
none_counted : {X : Type 0} (p : X → Bool) (xs : List X) → sum_by (λ x. one_if (p x)) xs ≡ 0 → All (λ x. p x ≡ false) xs
none_counted p [] e = All-nil (λ x. p x ≡ false)
none_counted p (x ∷ xs) e =
    let all = sum_by-cons (λ y. one_if (p y)) x xs in
    All-cons (λ y. p y ≡ false) x xs (fails (p x) (omega (arith, all, e))) (none_counted p xs (omega (arith, all, e)))
  where
    fails : (b : Bool) → one_if b ≡ 0 → b ≡ false
    fails true e = absurd (omega arith)
    fails false e = refl

-- where nothing passes, the count is 0
zero_counted : {X : Type 0} (p : X → Bool) → ((x : X) → p x ≡ false) → (xs : List X) → sum_by (λ x. one_if (p x)) xs ≡ 0
zero_counted p none [] = refl
zero_counted p none (x ∷ xs) =
    let here : one_if (p x) ≡ 0 = ap one_if (none x) in
    omega (arith, sum_by-cons (λ y. one_if (p y)) x xs, zero_counted p none xs, here)

-- a number that is counted is there
found : (n : ℕ) (xs : List ℕ) → 1 ≤ sum_by (λ k. one_if (eqb k n)) xs → Contains xs n
found n [] le = absurd (omega arith)
found n (x ∷ xs) le = go (eqb x n) refl (found n xs) where
  later : Contains xs n → Contains (x ∷ xs) n
  later c = (suc c.0, omega (arith, c.1), c.2)

  go : (b : Bool) → eqb x n ≡ b → (1 ≤ sum_by (λ k. one_if (eqb k n)) xs → Contains xs n) → Contains (x ∷ xs) n
  go true e more = let same : n ≡ x = grind (arith, nat_tests) in (0, omega arith, sym same)
  go false e more =
      let none : one_if (eqb x n) ≡ 0 = ap one_if e in
      later (more (omega (arith, le, none, sum_by-cons (λ k. one_if (eqb k n)) x xs)))

-- a node that is out is in the list
listed_from : (i k : ℕ) (ms : List SearchNode) → k < length ms → is_out (node_at ms k).standing ≡ true → Contains (outs_from i ms) (i + k)
listed_from i k [] lt out = absurd (omega arith)
listed_from i zero (m ∷ ms) lt out = subst (λ b. Contains (with_number b i (outs_from (i + 1) ms)) (i + 0)) (sym out) (0, omega arith, omega arith)
listed_from i (suc k) (m ∷ ms) lt out = go (is_out m.standing) (subst (Contains (outs_from (i + 1) ms)) (omega arith) (listed_from (i + 1) k ms (omega arith) out)) where
  go : (b : Bool) → Contains (outs_from (i + 1) ms) (i + suc k) → Contains (with_number b i (outs_from (i + 1) ms)) (i + suc k)
  go true rest = (suc rest.0, omega (arith, rest.1), rest.2)
  go false rest = rest

-- a live node is idle or out
live_parts : (nodes : List SearchNode) (best : ℤ) → live_count nodes best ≡ ready_count nodes best + sum_by (λ (m : SearchNode). one_if (is_out m.standing && int_lt best m.bound)) nodes
live_parts [] best = refl
live_parts (m ∷ ms) best =
    let live = sum_by-cons (λ (x : SearchNode). one_if (not (is_split x.standing) && int_lt best x.bound)) m ms in
    let ready = sum_by-cons (λ (x : SearchNode). one_if (is_idle x.standing && int_lt best x.bound)) m ms in
    let out = sum_by-cons (λ (x : SearchNode). one_if (is_out x.standing && int_lt best x.bound)) m ms in
    omega (arith, live, ready, out, live_parts ms best, one m.standing (int_lt best m.bound))
  where
    one : (s : Standing) (b : Bool) → one_if (not (is_split s) && b) ≡ one_if (is_idle s && b) + one_if (is_out s && b)
    one Idle true = refl
    one Idle false = refl
    one (Out w) true = refl
    one (Out w) false = refl
    one (Split first) b = refl

-- ---- folds over the list

-- the fold exceeds no number that nothing in it exceeds
fold_below : (f : ℕ → ℤ) (top z : ℤ) (xs : List ℕ) → top ≤ℤ z → All (λ k. f k ≤ℤ z) xs → fold (λ t k. int_max t (f k)) top xs ≤ℤ z
fold_below f top z [] low each = low
fold_below f top z (x ∷ xs) low each =
    let here : f x ≤ℤ z = All-head (λ k. f k ≤ℤ z) x xs each in
    fold_below f (int_max top (f x)) z xs (omega (arith, ints, clamps)) (All-tail (λ k. f k ≤ℤ z) x xs each)

fold_from : (f : ℕ → ℤ) (top : ℤ) (xs : List ℕ) → top ≤ℤ fold (λ t k. int_max t (f k)) top xs
fold_from f top [] = omega (arith, ints)
fold_from f top (x ∷ xs) =
    let rest = fold_from f (int_max top (f x)) xs in
    let here : top ≤ℤ int_max top (f x) = omega (arith, ints, clamps) in
    omega (arith, ints)

fold_each : (f : ℕ → ℤ) (top : ℤ) (xs : List ℕ) (k : ℕ) → Contains xs k → f k ≤ℤ fold (λ t k. int_max t (f k)) top xs
fold_each f top [] k c = absurd (omega (arith, c.1))
fold_each f top (x ∷ xs) k (zero, lt, is) =
    let rest = fold_from f (int_max top (f x)) xs in
    let same : f x ≡ f k = ap f is in
    let here : f x ≤ℤ int_max top (f x) = omega (arith, ints, clamps) in
    omega (arith, ints)
fold_each f top (x ∷ xs) k (suc j, lt, is) = fold_each f (int_max top (f x)) xs k (j, omega arith, is)

-- ---- what the list says of a state

module _ (nodes : List SearchNode) (budget : ℕ) (outs : List ℕ) (room : ℕ) (h : HasOuts nodes budget outs room) where
  counted_outs : (p : SearchNode → Bool) → sum_by (λ k. one_if (p (node_at nodes k))) outs ≡ sum_by (λ (m : SearchNode). one_if (is_out m.standing && p m)) nodes
  counted_outs p = h.are (λ k. one_if (p (node_at nodes k))) ∙ counted_from 0 nodes (λ k. p (node_at nodes k)) p (λ k lt. ap (λ j. p (node_at nodes j)) (omega arith))

  pub out_total : length outs ≡ out_count nodes
  out_total = sym (sum_of_ones outs) ∙ h.are (λ k. 1) ∙ length-outs_from 0 nodes

  pub each_out : All (λ k. is_out (node_at nodes k).standing ≡ true) outs
  each_out =
      let never : (m : SearchNode) → (is_out m.standing && not (is_out m.standing)) ≡ false = λ m. both (is_out m.standing) in
      let none = counted_outs (λ m. not (is_out m.standing)) ∙ zero_counted (λ (m : SearchNode). is_out m.standing && not (is_out m.standing)) never nodes in
      λ k d lt. turned (is_out (node_at nodes (get_or outs k d)).standing) (none_counted (λ j. not (is_out (node_at nodes j).standing)) outs none k d lt)
    where
      both : (b : Bool) → (b && not b) ≡ false
      both true = refl
      both false = refl

      turned : (b : Bool) → not b ≡ false → b ≡ true
      turned true e = refl
      turned false e = absurd cc

  pub each_inside : All (λ k. k < length nodes) outs
  each_inside k d lt = elim (cases_lt (get_or outs k d) (length nodes)) [
    | inl below ↦ below
    | inr past ↦
        let made_up : is_out (node_at nodes (get_or outs k d)).standing ≡ false = ap (λ (m : SearchNode). is_out m.standing) (get_or_past nodes (get_or outs k d) (child 0 no_pair (pos 0)) past) in
        let out = each_out k d lt in
        absurd (apart (is_out (node_at nodes (get_or outs k d)).standing) made_up out)
  ]
    where
      apart : (b : Bool) → b ≡ false → b ≡ true → ⊥
      apart true e f = absurd cc
      apart false e f = absurd cc

  pub out_listed : (n : ℕ) → n < length nodes → is_out (node_at nodes n).standing ≡ true → Contains outs n
  out_listed n lt out =
      let there : Contains (outs_from 0 nodes) n = subst (Contains (outs_from 0 nodes)) (omega arith) (listed_from 0 n nodes lt out) in
      let own : eqb n n ≡ true = grind (arith, nat_tests) in
      let at : one_if (eqb (get_or (outs_from 0 nodes) there.0 n) n) ≡ 1 = ap (λ k. one_if (eqb k n)) there.2 ∙ ap one_if own in
      let most = get_or-le-sum_by (λ k. one_if (eqb k n)) (outs_from 0 nodes) there.0 n there.1 in
      found n outs (omega (arith, at, most, h.are (λ k. one_if (eqb k n))))

  -- the live nodes are the ready ones and those of the list whose bound exceeds best
  pub live_total : (best : ℤ) → live_count nodes best ≡ ready_count nodes best + count_by (λ k. int_lt best (node_at nodes k).bound) outs
  live_total best = omega (arith, live_parts nodes best, counted_outs (λ m. int_lt best m.bound))

  -- one of the list is live where its bound exceeds best
  pub any_live : (best : ℤ) → list_any (λ k. int_lt best (node_at nodes k).bound) outs ≡ true → (node : ℕ) × IsLive nodes best node
  any_live best some =
      let any = Any-from_list_any (λ k. int_lt best (node_at nodes k).bound) outs some in
      let inside = subst (λ k. k < length nodes) any.3 (each_inside any.0 any.1 any.2) in
      let out = subst (λ k. is_out (node_at nodes k).standing ≡ true) any.3 (each_out any.0 any.1 any.2) in
      (any.1, record { it = node_at nodes any.1; is_there = slice_get-get_or nodes any.1 _ inside; unsplit = unsplit (node_at nodes any.1).standing out; above = over (node_at nodes any.1).bound any.4 })
    where
      unsplit : (s : Standing) → is_out s ≡ true → is_split s ≡ false
      unsplit Idle e = refl
      unsplit (Out w) e = refl
      unsplit (Split first) e = absurd cc

      over : (z : ℤ) → int_lt best z ≡ true → best <ℤ z
      over z e = grind (arith, ints)

  -- what a live node is
  data Fate (best : ℤ) (node : ℕ) : Type 0 where
    is_ready : IsReady nodes best node → Fate best node
    is_listed : Contains outs node → Fate best node

  fate : (best : ℤ) (node : ℕ) → IsLive nodes best node → Fate best node
  fate best node live = go live.it.standing refl where
    lt : node < length nodes
    lt = slice_get_within nodes node live.it live.is_there

    at : node_at nodes node ≡ live.it
    at = get_or_from_slice_get nodes node live.it _ live.is_there

    go : (s : Standing) → live.it.standing ≡ s → Fate best node
    go Idle e = is_ready (record { it = live.it; is_there = live.is_there; idle = e; above = live.above })
    go (Out w) e = is_listed (out_listed node lt (ap (λ (m : SearchNode). is_out m.standing) at ∙ ap is_out e))
    go (Split first) e = let f : true ≡ false = sym (ap is_split e) ∙ live.unsplit in absurd cc

  -- where no node is ready and none of the list has such a bound, none is live
  pub no_live : (best : ℤ) → list_any (λ k. int_lt best (node_at nodes k).bound) outs ≡ false → ((node : ℕ) → ¬ (IsReady nodes best node)) → (node : ℕ) → ¬ (IsLive nodes best node)
  no_live best none never node live = elim (fate best node live) [
    | is_ready ready ↦ never node ready
    | is_listed there ↦
        let at : node_at nodes node ≡ live.it = get_or_from_slice_get nodes node live.it _ live.is_there in
        let above : best <ℤ (node_at nodes node).bound = subst (λ (m : SearchNode). best <ℤ m.bound) (sym at) live.above in
        let test : int_lt best (node_at nodes node).bound ≡ true = grind (arith, ints) in
        let some = list_any_at (λ k. int_lt best (node_at nodes k).bound) outs there.0 node there.1 (ap (λ k. int_lt best (node_at nodes k).bound) there.2 ∙ test) in
        let f : true ≡ false = sym some ∙ none in
        absurd cc
  ]

-- the bound of a state, by the ready nodes and those that are out
pub bound_reached : (s : SearchState) (budget : ℕ) (outs : List ℕ) (room : ℕ) (top : ℤ) → HasOuts s.nodes budget outs room → s.best ≤ℤ top → ((node : ℕ) → IsReady s.nodes s.best node → (node_at s.nodes node).bound ≤ℤ top) → top ≤ℤ state_bound s
    → fold (λ t k. int_max t (node_at s.nodes k).bound) top outs ≡ state_bound s
bound_reached s budget outs room top h low ready within =
    let high : fold (λ t k. int_max t (node_at s.nodes k).bound) top outs ≤ℤ state_bound s =
    fold_below (λ k. (node_at s.nodes k).bound) top (state_bound s) outs within (λ k d lt. open_below (get_or outs k d) (each_inside s.nodes budget outs room h k d lt) (each_out s.nodes budget outs room h k d lt)) in
    let from = fold_from (λ k. (node_at s.nodes k).bound) top outs in
    let reached : state_bound s ≤ℤ fold (λ t k. int_max t (node_at s.nodes k).bound) top outs = state_bound_within (fold (λ t k. int_max t (node_at s.nodes k).bound) top outs) s (record {
      best = omega (arith, ints);
      nodes = λ node m there unsplit. below node m there unsplit (int_lt s.best m.bound) refl;
    }) in
    omega (arith, ints)
  where
    open_below : (k : ℕ) → k < length s.nodes → is_out (node_at s.nodes k).standing ≡ true → (node_at s.nodes k).bound ≤ℤ state_bound s
    open_below k lt out = raised-each s.nodes s.best k (record { it = node_at s.nodes k; is_there = slice_get-get_or s.nodes k _ lt; unsplit = unsplit (node_at s.nodes k).standing out })
      where
        unsplit : (t : Standing) → is_out t ≡ true → is_split t ≡ false
        unsplit Idle e = refl
        unsplit (Out w) e = refl
        unsplit (Split first) e = absurd cc

    below : (node : ℕ) (m : SearchNode) → slice_get s.nodes node ≡ Some m → is_split m.standing ≡ false → (b : Bool) → b ≡ int_lt s.best m.bound → m.bound ≤ℤ fold (λ t k. int_max t (node_at s.nodes k).bound) top outs
    below node m there unsplit false is =
        let from = fold_from (λ k. (node_at s.nodes k).bound) top outs in
        omega (arith, ints)
    below node m there unsplit true is =
        let at : (node_at s.nodes node).bound ≡ m.bound = ap (λ (x : SearchNode). x.bound) (get_or_from_slice_get s.nodes node m _ there) in
        elim (fate s.nodes budget outs room h s.best node (record { it = m; is_there = there; unsplit = unsplit; above = omega (arith, ints) })) [
          | is_ready r ↦
              let le = ready node r in
              let from = fold_from (λ k. (node_at s.nodes k).bound) top outs in
              omega (arith, ints)
          | is_listed there ↦
              let le = fold_each (λ k. (node_at s.nodes k).bound) top outs node there in
              omega (arith, ints)
        ]

-- the first of the ready nodes reaches the greatest bound of them
pub first_bound : (s : SearchState) (node : ℕ) → IsFirstReady s.nodes s.best node → (s.best ≤ℤ (node_at s.nodes node).bound) × ((other : ℕ) → IsReady s.nodes s.best other → (node_at s.nodes other).bound ≤ℤ (node_at s.nodes node).bound) × ((node_at s.nodes node).bound ≤ℤ state_bound s)
first_bound s node first =
    let at : node_at s.nodes node ≡ first.ready.it = get_or_from_slice_get s.nodes node first.ready.it _ first.ready.is_there in
    let bound : (node_at s.nodes node).bound ≡ first.ready.it.bound = ap (λ (m : SearchNode). m.bound) at in
    let above = first.ready.above in
    let within = raised-each s.nodes s.best node (record { it = first.ready.it; is_there = first.ready.is_there; unsplit = ap is_split first.ready.idle }) in
    (omega (arith, ints), first.greatest, omega (arith, ints))

-- a number that the bounds of the ready nodes don't exceed, and that doesn't exceed the state's bound
pub record IsTopBound (s : SearchState) (top : ℤ) : Type 0 where
  pub at_least : s.best ≤ℤ top
  pub greatest : (node : ℕ) → IsReady s.nodes s.best node → (node_at s.nodes node).bound ≤ℤ top
  pub within : top ≤ℤ state_bound s

pub reached_by : (s : SearchState) (node : ℕ) (top : ℤ) → IsFirstReady s.nodes s.best node → top ≡ (node_at s.nodes node).bound → IsTopBound s top
reached_by s node top first e =
    let h = first_bound s node first in
    rw e (record { at_least = h.0; greatest = h.1; within = h.2 })

pub none_above : (s : SearchState) (top : ℤ) → ((node : ℕ) → ¬ (IsReady s.nodes s.best node)) → top ≡ s.best → IsTopBound s top
none_above s top never e = rw e (record { at_least = omega (arith, ints); greatest = λ node ready. absurd (never node ready); within = raised-le s.nodes s.best })

-- the same by what the code saw
pub bound_scanned : (s : SearchState) (budget : ℕ) (outs : List ℕ) (room : ℕ) (seen : List SearchNode) (listed : List ℕ) (top top' z z' : ℤ) → HasOuts s.nodes budget outs room → seen ≡ s.nodes → listed ≡ outs → top' ≡ top → z' ≡ z
    → s.best ≤ℤ top → ((node : ℕ) → IsReady s.nodes s.best node → (node_at s.nodes node).bound ≤ℤ top) → top ≤ℤ state_bound s → z ≡ fold (λ t k. int_max t (node_at seen k).bound) top' listed → z' ≡ state_bound s
bound_scanned s budget outs room seen listed top top' z z' h en eo et ez low ready within e = ez ∙ (rw (en, eo, et) at e) ∙ bound_reached s budget outs room top h low ready within

-- ---- the steps

-- one of the list is taken out
pub removed_one : (old now new : List ℕ) (place node x y : ℕ) → now ≡ old → place < length now → x ≡ node → x ≡ get_or now place x → y ≡ get_or now place y → new ≡ swap_remove now place y → IsPermutation old (node ∷ new)
removed_one old now new place node x y eo lt en ex ey es =
    let same : y ≡ node = ey ∙ get_or_default now place y x lt ∙ sym ex ∙ en in
    let moved : IsPermutation now (y ∷ swap_remove now place y) = IsPermutation-swap_remove now place y lt ey in
    let named : IsPermutation now (y ∷ new) = subst (λ (xs : List ℕ). IsPermutation now (y ∷ xs)) (sym es) moved in
    let own : IsPermutation now (node ∷ new) = subst (λ k. IsPermutation now (k ∷ new)) same named in
    subst (λ (xs : List ℕ). IsPermutation xs (node ∷ new)) eo own

-- the root alone, which isn't out
pub no_outs : (nodes : List SearchNode) (bound : ℤ) (budget : ℕ) (outs : List ℕ) (room : ℕ) → nodes ≡ child 0 no_pair bound ∷ [] → outs ≡ [] → budget ≤ room → HasOuts nodes budget outs room
no_outs nodes bound budget outs room en eo le = record {
  are = λ f. ap (sum_by f) eo ∙ ap (λ (ns : List SearchNode). sum_by f (outs_from 0 ns)) (sym en);
  enough = le;
}

-- a ready node isn't out
pub ready_not_out : (nodes : List SearchNode) (best : ℤ) (n : ℕ) → IsReady nodes best n → is_out (node_at nodes n).standing ≡ false
ready_not_out nodes best n ready = ap (λ (m : SearchNode). is_out m.standing) (get_or_from_slice_get nodes n ready.it _ ready.is_there) ∙ ap is_out ready.idle

-- a node that is out to a worker
pub out_to_out : (nodes : List SearchNode) (n w : ℕ) (it : SearchNode) → slice_get nodes n ≡ Some it → it.standing ≡ Out w → is_out (node_at nodes n).standing ≡ true
out_to_out nodes n w it there out = ap (λ (m : SearchNode). is_out m.standing) (get_or_from_slice_get nodes n it _ there) ∙ ap is_out out

-- a node is handed out
pub outs_taken : (nodes new : List SearchNode) (budget n w : ℕ) (bound : ℤ) (outs outs' : List ℕ) (room room' : ℕ) → HasOuts nodes budget outs room → n < length nodes → is_out (node_at nodes n).standing ≡ false
    → new ≡ changed nodes n bound (Out w) → outs' ≡ outs ++ n ∷ [] → room ≤ room' → HasOuts new budget outs' room'
outs_taken nodes new budget n w bound outs outs' room room' h lt idle en eo more = record {
  are = λ f.
      let grown : sum_by f outs' ≡ sum_by f outs + f n = ap (sum_by f) eo ∙ sum_by_push f outs n in
      let step = sum_taken f 0 n nodes (record (node_at nodes n) { bound = bound; standing = Out w }) lt idle refl in
      let number : f (0 + n) ≡ f n = ap f (omega arith) in
      let same : sum_by f (outs_from 0 new) ≡ sum_by f (outs_from 0 (changed nodes n bound (Out w))) = ap (λ (ns : List SearchNode). sum_by f (outs_from 0 ns)) en in
      omega (arith, grown, step, number, same, h.are f);
  enough = omega (arith, h.enough, more);
}

-- a node is reported
module _ (nodes : List SearchNode) (budget n : ℕ) (kept best : ℤ) (outs outs' : List ℕ) (room room' : ℕ) (h : HasOuts nodes budget outs room) (lt : n < length nodes) (out : is_out (node_at nodes n).standing ≡ true)
    (moved : IsPermutation outs (n ∷ outs')) (same_room : room' ≡ room) where
  fewer_out : (standing : Standing) → is_out standing ≡ false → (f : ℕ → ℕ) → sum_by f outs' ≡ sum_by f (outs_from 0 (changed nodes n kept standing))
  fewer_out standing e f =
      let less : sum_by f (n ∷ outs') ≡ sum_by f outs = sum_by-IsPermutation f outs (n ∷ outs') moved in
      let step = sum_returned f 0 n nodes (record (node_at nodes n) { bound = kept; standing = standing }) lt out e in
      let number : f (0 + n) ≡ f n = ap f (omega arith) in
      omega (arith, less, sum_by-cons f n outs', step, number, h.are f)

  settled_outs : (pair : Option Pair) (f : ℕ → ℕ) → sum_by f outs' ≡ sum_by f (outs_from 0 (settled_nodes nodes n kept best pair))
  settled_outs None f = fewer_out Idle refl f
  settled_outs (Some p) f = go (int_lt best kept) where
    go : (b : Bool) → sum_by f outs' ≡ sum_by f (outs_from 0 (if b then divided (record { nodes = nodes; best = best; evaluated = 0 }) n kept best p else closed (record { nodes = nodes; best = best; evaluated = 0 }) n kept best).nodes)
    go false = fewer_out Idle refl f
    go true =
        fewer_out (Split (length nodes)) refl f ∙ ap (sum_by f) (sym (outs_from-more 0 (changed nodes n kept (Split (length nodes))) (child n p kept) (child n (reversed p) kept) refl refl))

  pub outs_reported : (pair : Option Pair) (new : List SearchNode) → new ≡ settled_nodes nodes n kept best pair → HasOuts new budget outs' room'
  outs_reported pair new en = record {
    are = λ f. settled_outs pair f ∙ ap (λ (ns : List SearchNode). sum_by f (outs_from 0 ns)) (sym en);
    enough = omega (arith, h.enough, same_room);
  }
