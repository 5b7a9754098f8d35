-- Each node is evaluated once at most, so no more nodes were evaluated than there are.
use Rattle.std.proofs.Common.{◌≡◌, ℕ, ◌+◌, ◌≤◌, List, [], ◌∷◌, length, inl, inr, arith, sym, ◌∙◌, Some, None, Option, refl, ap, subst, suc, zero, Bool, true, false, cond}
use Rattle.std.specs.Prelude.{slice_get, ℤ, ◌≤ℤ◌, ◌<ℤ◌, int_le, int_lt, count_by}
use Rattle.std.specs.Int.{int_max}
use Rattle.std.proofs.lemmas.Int.{ints}
use Rattle.std.proofs.lemmas.Bool.{cases_eq}
use Rattle.std.proofs.lemmas.Option.{same_Some, none-some}
use Rattle.std.proofs.lemmas.List.Sums.{sum_by-cons, count_by-le-length}
use Rattle.lop_model.specs.declared.pair.Pair.{Pair}
use Rattle.lop_core.proofs.Lists.{by_following}
use Rattle.lop_core.specs.declared.node.SearchNode.{SearchNode}
use Rattle.lop_core.specs.declared.journal.Entry.{Entry}
use Rattle.lop_core.specs.declared.journal.Entry.TheVariants.{Take, Report}
use Rattle.lop_core.specs.declared.node.Standing.{Standing}
use Rattle.lop_core.specs.declared.node.Standing.TheVariants.{Idle, Out, Split}
use Rattle.lop_core.specs.Tree.{node_at, is_out, is_split}
use Rattle.lop_core.specs.Machine.{Problem, SearchState, after, settled, closed, divided, IsOutTo, IsLive}
use Rattle.lop_core.specs.Journal.{replay, MayTake, MayFollow, IsLawfulJournal}
use Rattle.lop_core.specs.Core.{CoreFields, HasHistory}
use Rattle.lop_core.specs.Outcome.{IsFinished}
use Rattle.lop_core.proofs.Sound.{one_if}
use Rattle.lop_core.proofs.Replay.{replay_push}
use Rattle.lop_core.proofs.Fates.{Effect, IsDone, take_effect, report_effect}

-- ---- counts of two lists

-- what passes in the first list passes at the same place of the second
abbrev StillPasses : {X : Type 0} → (X → Bool) → (X → Bool) → List X → List X → Type 0
StillPasses {X} p q xs ys = (j : ℕ) (x : X) → slice_get xs j ≡ Some x → p x ≡ true → (y : X) × (slice_get ys j ≡ Some y) × (q y ≡ true)

module _ {X : Type 0} (p q : X → Bool) where
  first_le : (x y : X) (xs ys : List X) (b : Bool) → p x ≡ b → StillPasses p q (x ∷ xs) (y ∷ ys) → one_if (p x) ≤ one_if (q y)
  first_le x y xs ys true e h =
      let still = h 0 x refl e in
      let same : y ≡ still.0 = same_Some y still.0 still.1 in
      let passes : one_if (q y) ≡ 1 = ap (λ (z : X). one_if (q z)) same ∙ ap one_if still.2 in
      let was : one_if (p x) ≡ 1 = ap one_if e in
      omega arith
  first_le x y xs ys false e h =
      let was : one_if (p x) ≡ 0 = ap one_if e in
      omega arith

  first_none : (x : X) (xs : List X) (b : Bool) → p x ≡ b → StillPasses p q (x ∷ xs) [] → one_if (p x) ≡ 0
  first_none x xs true e h = let still = h 0 x refl e in absurd (none-some still.0 still.1)
  first_none x xs false e h = ap one_if e

  count_le : (xs ys : List X) → StillPasses p q xs ys → count_by p xs ≤ count_by q ys
  count_le [] ys h = omega arith
  count_le (x ∷ xs) [] h =
      let rest : count_by p xs ≤ 0 = count_le xs [] (λ j. h (suc j)) in
      omega (arith, sum_by-cons (λ (z : X). one_if (p z)) x xs, first_none x xs (p x) refl h)
  count_le (x ∷ xs) (y ∷ ys) h =
      omega (arith, sum_by-cons (λ (z : X). one_if (p z)) x xs, sum_by-cons (λ (z : X). one_if (q z)) y ys, first_le x y xs ys (p x) refl h, count_le xs ys (λ j. h (suc j)))

  -- and there is one more where something else passes too
  count_lt : (xs ys : List X) (n : ℕ) (y : X) → StillPasses p q xs ys → ((x : X) → slice_get xs n ≡ Some x → p x ≡ false) → slice_get ys n ≡ Some y → q y ≡ true → count_by p xs + 1 ≤ count_by q ys
  count_lt xs [] n y h undone there done = absurd (none-some y there)
  count_lt [] (z ∷ ys) zero y h undone there done =
      let same : z ≡ y = same_Some z y there in
      let passes : one_if (q z) ≡ 1 = ap (λ (v : X). one_if (q v)) same ∙ ap one_if done in
      omega (arith, sum_by-cons (λ (v : X). one_if (q v)) z ys)
  count_lt [] (z ∷ ys) (suc n) y h undone there done =
      let rest : 1 ≤ count_by q ys = count_lt [] ys n y (λ j x e. absurd (none-some x e)) (λ x e. absurd (none-some x e)) there done in
      omega (arith, sum_by-cons (λ (v : X). one_if (q v)) z ys)
  count_lt (x ∷ xs) (z ∷ ys) zero y h undone there done =
      let same : z ≡ y = same_Some z y there in
      let passes : one_if (q z) ≡ 1 = ap (λ (v : X). one_if (q v)) same ∙ ap one_if done in
      let was : one_if (p x) ≡ 0 = ap one_if (undone x refl) in
      omega (arith, sum_by-cons (λ (v : X). one_if (p v)) x xs, sum_by-cons (λ (v : X). one_if (q v)) z ys, count_le xs ys (λ j. h (suc j)))
  count_lt (x ∷ xs) (z ∷ ys) (suc n) y h undone there done =
      omega (arith, sum_by-cons (λ (v : X). one_if (p v)) x xs, sum_by-cons (λ (v : X). one_if (q v)) z ys, first_le x z xs ys (p x) refl h, count_lt xs ys n y (λ j. h (suc j)) undone there done)

-- ---- the nodes that are done

-- whether a node is split, or idle with a bound of at most best
abbrev is_done_as : ℤ → ℤ → Standing → Bool
is_done_as best bound Idle = int_le bound best
is_done_as best bound (Out worker) = false
is_done_as best bound (Split first) = true

abbrev is_done : ℤ → SearchNode → Bool
is_done best node = is_done_as best node.bound node.standing

-- how many are done
abbrev done_count : SearchState → ℕ
done_count s = count_by (is_done s.best) s.nodes

-- best never falls, so what is done stays so
done_stays : (low high bound : ℤ) (standing : Standing) → low ≤ℤ high → is_done_as low bound standing ≡ true → is_done_as high bound standing ≡ true
done_stays low high bound Idle le e = grind (arith, ints)
done_stays low high bound (Out worker) le e = absurd cc
done_stays low high bound (Split first) le e = refl

done_here : (best bound : ℤ) (standing : Standing) → is_out standing ≡ false → (standing ≡ Idle → bound ≤ℤ best) → is_done_as best bound standing ≡ true
done_here best bound Idle f low = let le : bound ≤ℤ best = low refl in grind (arith, ints)
done_here best bound (Out worker) f low = absurd cc
done_here best bound (Split first) f low = refl

not_above : (best bound : ℤ) → best <ℤ bound → int_le bound best ≡ false
not_above best bound above = grind (arith, ints)

-- an event at a node that wasn't done leaves all that were
still_done : (old new : List SearchNode) (best best' : ℤ) (n : ℕ) → Effect old new best best' n → ((x : SearchNode) → slice_get old n ≡ Some x → is_done best x ≡ false) → StillPasses (is_done best) (is_done best') old new
still_done old new best best' n effect undone j x there done = elim (cases_eq j n) [
  | inl same ↦ let no : is_done best x ≡ false = undone x (ap (slice_get old) (sym same) ∙ there) in absurd cc
  | inr other ↦ (x, effect.kept j x other there, done_stays best best' x.bound x.standing effect.rises done)
]

take_done : (problem : Problem) (s : SearchState) (w n : ℕ) → MayTake problem s n → s.evaluated ≤ done_count s → (after s (Take w n)).evaluated ≤ done_count (after s (Take w n))
unfolding after
take_done problem s w n may h =
    let undone : (x : SearchNode) → slice_get s.nodes n ≡ Some x → is_done s.best x ≡ false = λ x there.
    let same : may.ready.it ≡ x = same_Some may.ready.it x (sym may.ready.is_there ∙ there) in
    subst (λ (y : SearchNode). is_done s.best y ≡ false) same
    (ap (is_done_as s.best may.ready.it.bound) may.ready.idle ∙ not_above s.best may.ready.it.bound may.ready.above) in
    let more = count_le (is_done s.best) (is_done s.best) s.nodes (after s (Take w n)).nodes (still_done s.nodes (after s (Take w n)).nodes s.best s.best n (take_effect problem s w n may) undone) in
    omega (arith, h, more)

evaluated_settled : (s : SearchState) (n : ℕ) (bound best : ℤ) (pair : Option Pair) → (settled s n bound best pair).evaluated ≡ s.evaluated + 1
evaluated_settled s n bound best None = refl
evaluated_settled s n bound best (Some p) = go (int_lt best bound) where
  go : (b : Bool) → (cond b (divided s n bound best p) (closed s n bound best)).evaluated ≡ s.evaluated + 1
  go true = refl
  go false = refl

evaluated_after : (s : SearchState) (w n : ℕ) (bound : ℤ) (pair : Option Pair) (value : ℤ) (room : Bool) → (after s (Report w n bound pair value room)).evaluated ≡ s.evaluated + 1
unfolding after
evaluated_after s w n bound pair value room = evaluated_settled s n (cond room bound (node_at s.nodes n).bound) (int_max s.best value) pair

-- a report makes one node more done
report_done : (s t : SearchState) (w n : ℕ) → IsOutTo s w n → t.evaluated ≡ s.evaluated + 1 → Effect s.nodes t.nodes s.best t.best n → IsDone t.nodes t.best n → s.evaluated ≤ done_count s → t.evaluated ≤ done_count t
report_done s t w n out one effect done h =
    let undone : (x : SearchNode) → slice_get s.nodes n ≡ Some x → is_done s.best x ≡ false = λ x there.
    let same : out.0 ≡ x = same_Some out.0 x (sym out.1 ∙ there) in
    subst (λ (y : SearchNode). is_done s.best y ≡ false) same (ap (is_done_as s.best out.0.bound) out.2) in
    let more = count_lt (is_done s.best) (is_done t.best) s.nodes t.nodes n done.0 (still_done s.nodes t.nodes s.best t.best n effect undone) undone done.1 (done_here t.best done.0.bound done.0.standing done.2 done.3) in
    omega (arith, h, one, more)

entry_done : (problem : Problem) (journal : List Entry) (e : Entry) → (replay problem journal).evaluated ≤ done_count (replay problem journal) → MayFollow problem journal e
    → (after (replay problem journal) e).evaluated ≤ done_count (after (replay problem journal) e)
entry_done problem journal (Take w n) h may = take_done problem (replay problem journal) w n may h
entry_done problem journal (Report w n bound pair value room) h may =
    let both = report_effect problem journal w n bound pair value room may in
    report_done (replay problem journal) (after (replay problem journal) (Report w n bound pair value room)) w n may.is_out (evaluated_after (replay problem journal) w n bound pair value room) both.0 both.1 h

-- as many nodes are done as were evaluated, or more
evaluated_done : (problem : Problem) (journal : List Entry) → IsLawfulJournal problem journal → (replay problem journal).evaluated ≤ done_count (replay problem journal)
evaluated_done problem journal h =
    by_following (MayFollow problem) (λ (j : List Entry). (replay problem j).evaluated ≤ done_count (replay problem j)) (omega arith)
    (λ j e lawful low may. subst (λ (s : SearchState). s.evaluated ≤ done_count s) (sym (replay_push problem j e)) (entry_done problem j e low may))
    journal h.each

-- no more nodes were evaluated than there are
pub evaluated_nodes : (core : CoreFields) → HasHistory core → core.state.evaluated ≤ length core.state.nodes
evaluated_nodes core h =
    let low = evaluated_done core.problem core.journal h.lawful in
    let most = count_by-le-length (is_done (replay core.problem core.journal).best) (replay core.problem core.journal).nodes in
    subst (λ (s : SearchState). s.evaluated ≤ length s.nodes) (sym h.replayed) (omega (arith, low, most))

-- ---- a budget for all nodes

-- a live node isn't done where no node is out
live_undone : (best : ℤ) (m : SearchNode) (standing : Standing) → m.standing ≡ standing → is_split m.standing ≡ false → best <ℤ m.bound → is_done best m ≡ false
live_undone best m Idle is unsplit above = ap (is_done_as best m.bound) is ∙ not_above best m.bound above
live_undone best m (Out w) is unsplit above = ap (is_done_as best m.bound) is
live_undone best m (Split first) is unsplit above = let split : is_split m.standing ≡ true = ap is_split is in absurd cc

module _ {X : Type 0} (p : X → Bool) where
  -- not all pass where one doesn't
  count_by-one : (xs : List X) (j : ℕ) (x : X) → slice_get xs j ≡ Some x → p x ≡ false → count_by p xs + 1 ≤ length xs
  count_by-one [] j x there fails = absurd (none-some x there)
  count_by-one (y ∷ ys) zero x there fails =
      let same : y ≡ x = same_Some y x there in
      let none : one_if (p y) ≡ 0 = ap (λ (v : X). one_if (p v)) same ∙ ap one_if fails in
      omega (arith, sum_by-cons (λ (v : X). one_if (p v)) y ys, count_by-le-length p ys)
  count_by-one (y ∷ ys) (suc j) x there fails =
      omega (arith, sum_by-cons (λ (v : X). one_if (p v)) y ys, one_at_most (p y), count_by-one ys j x there fails)
    where
      one_at_most : (b : Bool) → one_if b ≤ 1
      one_at_most true = omega arith
      one_at_most false = omega arith

-- a live node is one that wasn't evaluated
live_more : (s : SearchState) (node : ℕ) → s.evaluated ≤ done_count s → IsLive s.nodes s.best node → s.evaluated + 1 ≤ length s.nodes
live_more s node low live =
    omega (arith, low, count_by-one (is_done s.best) s.nodes node live.it live.is_there (live_undone s.best live.it live.it.standing refl live.unsplit live.above))

-- while a node is live, fewer were evaluated than there are
pub evaluated_live : (core : CoreFields) (node : ℕ) → HasHistory core → IsLive core.state.nodes core.state.best node → core.state.evaluated + 1 ≤ length core.state.nodes
evaluated_live core node h live =
    let low = evaluated_done core.problem core.journal h.lawful in
    live_more core.state node (subst (λ (s : SearchState). s.evaluated ≤ done_count s) (sym h.replayed) low) live

-- a search that is finished with a budget for all nodes has no live node
pub closed_within : (core : CoreFields) → HasHistory core → IsFinished core.problem core.state → length core.state.nodes ≤ core.problem.budget → (node : ℕ) → IsLive core.state.nodes core.state.best node → ⊥
closed_within core h f enough node live = elim f.closed_or_spent [
  | inl closed ↦ closed node live
  | inr spent ↦ let more = evaluated_live core node h live in omega (arith, spent, enough, more)
]
