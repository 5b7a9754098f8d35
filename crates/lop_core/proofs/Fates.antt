-- A node is out to a worker exactly where the worker's entries have a take of it and no report.
use Rattle.std.proofs.Common.{◌≡◌, ◌≢◌, ℕ, ◌+◌, ◌<◌, List, [], ◌∷◌, ◌++◌, length, ◌⊎◌, inl, inr, arith, sym, ◌∙◌, Some, None, Option, refl, ap, subst, suc, zero, Bool, true, false, cond, length-append, length-set, append-nil, eq-eqb}
use Rattle.std.specs.Prelude.{slice_get, ℤ, ◌≤ℤ◌, ◌<ℤ◌, int_lt, IfNone, if◌then◌else◌, Any, filter, ◌↔◌, ◌==◌}
use Rattle.std.specs.Int.{int_max}
use Rattle.std.proofs.lemmas.Int.{ints, clamps}
use Rattle.std.proofs.lemmas.Bool.{cases_eq, cases_lt, eqb-true}
use Rattle.std.proofs.lemmas.Option.{slice_get_within, same_Some, none-some}
use Rattle.std.proofs.lemmas.List.{length_push, get_or_append_left, get_or_push}
use Rattle.std.proofs.lemmas.List.Elements.{filter-append}
use Rattle.std.proofs.lemmas.List.Quantifiers.{Any-push}
use Rattle.lop_model.specs.declared.pair.Pair.{Pair}
use Rattle.lop_model.specs.Fixings.{AreAllDecided}
use Rattle.lop_core.proofs.Lists.{slice_get-set_same, slice_get-set_other, slice_get-append_left, slice_get_two_cases, by_following}
use Rattle.lop_core.specs.declared.node.SearchNode.{SearchNode}
use Rattle.lop_core.specs.declared.journal.Entry.{Entry}
use Rattle.lop_core.specs.declared.journal.Entry.TheVariants.{Take, Report}
use Rattle.lop_core.specs.declared.node.Standing.{Standing}
use Rattle.lop_core.specs.declared.node.Standing.TheVariants.{Idle, Out, Split}
use Rattle.lop_core.specs.Tree.{child, node_at, is_out, path_of}
use Rattle.lop_model.specs.Reversed.{reversed}
use Rattle.lop_core.specs.Machine.{Problem, SearchState, root_state, changed, after, settled, closed, divided, IsOutTo}
use Rattle.lop_core.specs.Journal.{replay, room_count, entries_of, is_of, takes, reports, HasTake, HasReport, MayTake, MayReport, MayFollow, IsLawfulJournal}
use Rattle.lop_core.proofs.Replay.{replay_push}

-- `Any` of the elements that pass a test, with one element more
module _ {X : Type 0} (P : X → Type 0) (p : X → Bool) (xs : List X) (y : X) where
  Any_front : (ys zs : List X) → Any P ys → Any P (ys ++ zs)
  Any_front ys zs a = (a.0, a.1, rw length-append (omega arith), get_or_append_left ys zs a.1 a.0 a.2 ∙ a.3, a.4)

  Any_push_cases : (ys : List X) → Any P (ys ++ y ∷ []) → Any P ys ⊎ P y
  Any_push_cases ys a =
      let within : a.0 < length ys + 1 = subst (λ n. a.0 < n) (length_push ys y) a.2 in
      elim (cases_lt a.0 (length ys)) [
        | inl lt ↦ inl (a.0, a.1, lt, sym (get_or_append_left ys (y ∷ []) a.1 a.0 lt) ∙ a.3, a.4)
        | inr ge ↦
            let at : length ys ≡ a.0 = omega arith in
            inr (subst P (sym a.3 ∙ get_or_push ys y a.1 a.0 at) a.4)
      ]

  old_kept : Any P (filter p xs) → Any P (filter p (xs ++ y ∷ []))
  old_kept a = rw filter-append (Any_front (filter p xs) _ a)

  new_kept : p y ≡ true → P y → Any P (filter p (xs ++ y ∷ []))
  new_kept t h =
      let e : filter p (y ∷ []) ≡ y ∷ [] = ap (λ b. cond b (y ∷ []) []) t in
      rw (filter-append, e) (Any-push P (filter p xs) y h)

  kept_cases : Any P (filter p (xs ++ y ∷ [])) → Any P (filter p xs) ⊎ ((p y ≡ true) × P y)
  kept_cases a = go (p y) refl where
    go : (b : Bool) → p y ≡ b → Any P (filter p xs) ⊎ ((p y ≡ true) × P y)
    go true t =
        let e : filter p (y ∷ []) ≡ y ∷ [] = ap (λ b. cond b (y ∷ []) []) t in
        let a2 : Any P (filter p xs ++ y ∷ []) = subst (Any P) (filter-append p xs (y ∷ []) ∙ ap (λ zs. filter p xs ++ zs) e) a in
        elim (Any_push_cases (filter p xs) a2) [ inl old ↦ inl old | inr new ↦ inr (t, new) ]
    go false f =
        let e : filter p (y ∷ []) ≡ [] = ap (λ b. cond b (y ∷ []) []) f in
        inl (subst (Any P) (filter-append p xs (y ∷ []) ∙ (ap (λ zs. filter p xs ++ zs) e ∙ append-nil (filter p xs))) a)

-- what an event at node n leaves of the nodes
pub record Effect (old new : List SearchNode) (best best' : ℤ) (n : ℕ) : Type 0 where
  pub kept : (j : ℕ) (x : SearchNode) → j ≢ n → slice_get old j ≡ Some x → slice_get new j ≡ Some x
  came : (j : ℕ) (x : SearchNode) → j ≢ n → slice_get new j ≡ Some x → (slice_get old j ≡ Some x) ⊎ (x.standing ≡ Idle)
  pub rises : best ≤ℤ best'

-- a node that was reported: it isn't out, and it isn't ready
abbrev pub IsDone : List SearchNode → ℤ → ℕ → Type 0
IsDone nodes best n = (x : SearchNode) × (slice_get nodes n ≡ Some x) × (is_out x.standing ≡ false) × (x.standing ≡ Idle → x.bound ≤ℤ best)

changed_effect : (nodes : List SearchNode) (best best' : ℤ) (n : ℕ) (m : SearchNode) (bound : ℤ) (standing : Standing) → slice_get nodes n ≡ Some m → best ≤ℤ best' → Effect nodes (changed nodes n bound standing) best best' n
changed_effect nodes best best' n m bound standing there rises = record {
  kept = λ j x ne e. slice_get-set_other nodes n j _ ne ∙ e;
  came = λ j x ne e. inl (sym (slice_get-set_other nodes n j _ ne) ∙ e);
  rises = rises;
}

changed_there : (nodes : List SearchNode) (n : ℕ) (m : SearchNode) (bound : ℤ) (standing : Standing) → slice_get nodes n ≡ Some m
    → slice_get (changed nodes n bound standing) n ≡ Some (record (node_at nodes n) { bound = bound; standing = standing })
changed_there nodes n m bound standing there = slice_get-set_same nodes n _ (slice_get_within nodes n m there)

divided_effect : (nodes : List SearchNode) (best best' : ℤ) (n : ℕ) (m : SearchNode) (bound : ℤ) (pair : Pair) → slice_get nodes n ≡ Some m → best ≤ℤ best'
    → Effect nodes (changed nodes n bound (Split (length nodes)) ++ child n pair bound ∷ child n (reversed pair) bound ∷ []) best best' n
divided_effect nodes best best' n m bound pair there rises = record {
  kept = λ j x ne e.
      let lt : j < length nodes = slice_get_within nodes j x e in
      slice_get-append_left (changed nodes n bound (Split (length nodes))) _ j (rw length-set lt) ∙ (slice_get-set_other nodes n j _ ne ∙ e);
  came = λ j x ne e. elim (slice_get_two_cases (changed nodes n bound (Split (length nodes))) _ _ x j e) [
    | inl old ↦ inl (sym (slice_get-set_other nodes n j _ ne) ∙ old)
    | inr new ↦ elim new [
      | inl at ↦ inr (sym (ap (λ (y : SearchNode). y.standing) at.1))
      | inr at ↦ inr (sym (ap (λ (y : SearchNode). y.standing) at.1))
    ]
  ];
  rises = rises;
}

le_max : (x y : ℤ) → x ≤ℤ int_max x y
le_max x y = omega (arith, ints, clamps)

-- what a report leaves
settled_effect : (s : SearchState) (n : ℕ) (m : SearchNode) (kept best : ℤ) (pair : Option Pair) → slice_get s.nodes n ≡ Some m → s.best ≤ℤ best
    → (IfNone pair (kept ≤ℤ best))
    → Effect s.nodes (settled s n kept best pair).nodes s.best (settled s n kept best pair).best n × IsDone (settled s n kept best pair).nodes (settled s n kept best pair).best n
settled_effect s n m kept best None there rises low =
    (changed_effect s.nodes s.best best n m kept Idle there rises, (record (node_at s.nodes n) { bound = kept; standing = Idle }, changed_there s.nodes n m kept Idle there, refl, λ e. low))
settled_effect s n m kept best (Some p) there rises low = go (int_lt best kept) refl where
  go : (b : Bool) → int_lt best kept ≡ b
      → Effect s.nodes (if b then divided s n kept best p else closed s n kept best).nodes s.best (if b then divided s n kept best p else closed s n kept best).best n
      × IsDone (if b then divided s n kept best p else closed s n kept best).nodes (if b then divided s n kept best p else closed s n kept best).best n
  go true t = (
    divided_effect s.nodes s.best best n m kept p there rises,
    (
      record (node_at s.nodes n) { bound = kept; standing = Split (length s.nodes) },
      slice_get-append_left (changed s.nodes n kept (Split (length s.nodes))) _ n (rw length-set (slice_get_within s.nodes n m there)) ∙ changed_there s.nodes n m kept (Split (length s.nodes)) there,
      refl,
      λ e. cc,
    ),
  )
  go false f =
      let le : kept ≤ℤ best = grind (arith, ints) in
      (changed_effect s.nodes s.best best n m kept Idle there rises, (record (node_at s.nodes n) { bound = kept; standing = Idle }, changed_there s.nodes n m kept Idle there, refl, λ e. le))

-- What becomes of a node: it isn't taken yet, or it is out to a worker, or it was reported.
pub data Fate (s : SearchState) (journal : List Entry) (i : ℕ) : Type 0 where
  fresh : ((w : ℕ) → ¬ (HasTake i (entries_of w journal))) → ((w : ℕ) → ¬ (HasReport i (entries_of w journal)))
      → ((x : SearchNode) → slice_get s.nodes i ≡ Some x → x.standing ≡ Idle) → Fate s journal i
  held : (w : ℕ) → IsOutTo s w i → HasTake i (entries_of w journal) → ((v : ℕ) → HasTake i (entries_of v journal) → v ≡ w)
      → ((v : ℕ) → ¬ (HasReport i (entries_of v journal))) → Fate s journal i
  done : IsDone s.nodes s.best i → ((v : ℕ) → HasTake i (entries_of v journal) → HasReport i (entries_of v journal)) → Fate s journal i

-- an event at another node leaves the fate as it is
module _ (s t : SearchState) (journal : List Entry) (e : Entry) (i n : ℕ) (other : i ≢ n) (effect : Effect s.nodes t.nodes s.best t.best n)
    (no_take : takes i e ≡ false) (no_report : reports i e ≡ false) where
  take_before : (w : ℕ) → HasTake i (entries_of w (journal ++ e ∷ [])) → HasTake i (entries_of w journal)
  take_before w h = elim (kept_cases (λ e. takes i e ≡ true) (is_of w) journal e h) [ inl old ↦ old | inr new ↦ let no : true ≡ false = sym new.1 ∙ no_take in cc ]

  report_before : (w : ℕ) → HasReport i (entries_of w (journal ++ e ∷ [])) → HasReport i (entries_of w journal)
  report_before w h = elim (kept_cases (λ e. reports i e ≡ true) (is_of w) journal e h) [ inl old ↦ old | inr new ↦ let no : true ≡ false = sym new.1 ∙ no_report in cc ]

  fate_stays : Fate s journal i → Fate t (journal ++ e ∷ []) i
  fate_stays (fresh a b c) = fresh (λ w h. a w (take_before w h)) (λ w h. b w (report_before w h))
      (λ x there. elim (effect.came i x other there) [ inl old ↦ c x old | inr idle ↦ idle ])
  fate_stays (held w o a b c) = held w (o.0, effect.kept i o.0 other o.1, o.2) (old_kept (λ e. takes i e ≡ true) (is_of w) journal e a)
      (λ v h. b v (take_before v h)) (λ v h. c v (report_before v h))
  fate_stays (done d a) = done (d.0, effect.kept i d.0 other d.1, d.2, λ idle. let low : d.0.bound ≤ℤ s.best = d.3 idle in let up : s.best ≤ℤ t.best = effect.rises in omega (arith, ints))
      (λ v h. old_kept (λ e. reports i e ≡ true) (is_of v) journal e (a v (take_before v h)))

same_self : (n : ℕ) → (n == n) ≡ true
same_self n = eq-eqb n n refl

differ : (n i : ℕ) → i ≢ n → (n == i) ≡ false
differ n i ne = go (n == i) refl where
  go : (b : Bool) → (n == i) ≡ b → b ≡ false
  go true t = absurd (ne (sym (eqb-true n i t)))
  go false f = refl

-- the node that is handed out was fresh, and is held
taken_fate : (problem : Problem) (s : SearchState) (journal : List Entry) (w n : ℕ) → MayTake problem s n → Fate s journal n → Fate (after s (Take w n)) (journal ++ Take w n ∷ []) n
unfolding after
taken_fate problem s journal w n may (fresh a b c) =
    held w (record (node_at s.nodes n) { bound = (node_at s.nodes n).bound; standing = Out w }, changed_there s.nodes n may.ready.it (node_at s.nodes n).bound (Out w) may.ready.is_there, refl)
    (new_kept (λ e. takes n e ≡ true) (is_of w) journal (Take w n) (same_self w) (same_self n))
    (λ v h. elim (kept_cases (λ e. takes n e ≡ true) (is_of v) journal (Take w n) h) [ inl old ↦ absurd (a v old) | inr new ↦ sym (eqb-true w v new.0) ])
    (λ v h. elim (kept_cases (λ e. reports n e ≡ true) (is_of v) journal (Take w n) h) [ inl old ↦ b v old | inr new ↦ let no : false ≡ true = new.1 in cc ])
taken_fate problem s journal w n may (held v o a b c) =
    let same : may.ready.it ≡ o.0 = same_Some may.ready.it o.0 (sym may.ready.is_there ∙ o.1) in
    let no : Idle ≡ Out v = sym may.ready.idle ∙ (ap (λ (x : SearchNode). x.standing) same ∙ o.2) in
    cc
taken_fate problem s journal w n may (done d a) =
    let same : may.ready.it ≡ d.0 = same_Some may.ready.it d.0 (sym may.ready.is_there ∙ d.1) in
    let low : d.0.bound ≤ℤ s.best = d.3 (sym (ap (λ (x : SearchNode). x.standing) same) ∙ may.ready.idle) in
    let high : s.best <ℤ d.0.bound = subst (λ (x : SearchNode). s.best <ℤ x.bound) same may.ready.above in
    absurd (omega (arith, ints))

-- the node that is reported was held, and is done
reported_fate : (s t : SearchState) (journal : List Entry) (w n : ℕ) (bound : ℤ) (pair : Option Pair) (value : ℤ) (room : Bool) → IsOutTo s w n → IsDone t.nodes t.best n
    → Fate s journal n → Fate t (journal ++ Report w n bound pair value room ∷ []) n
reported_fate s t journal w n bound pair value room out d (fresh a b c) =
    let no : Idle ≡ Out w = sym (c out.0 out.1) ∙ out.2 in cc
reported_fate s t journal w n bound pair value room out d (held v o a b c) =
    let same : out.0 ≡ o.0 = same_Some out.0 o.0 (sym out.1 ∙ o.1) in
    let outs : Out w ≡ Out v = sym out.2 ∙ (ap (λ (x : SearchNode). x.standing) same ∙ o.2) in
    let me : w ≡ v = cc in
    done d (λ u h. elim (kept_cases (λ e. takes n e ≡ true) (is_of u) journal (Report w n bound pair value room) h) [
      | inl old ↦
          let mine : (w == u) ≡ true = eq-eqb w u (me ∙ sym (b u old)) in
          new_kept (λ e. reports n e ≡ true) (is_of u) journal (Report w n bound pair value room) mine (same_self n)
      | inr new ↦ let no : false ≡ true = new.1 in cc
    ])
reported_fate s t journal w n bound pair value room out d (done e a) =
    let same : out.0 ≡ e.0 = same_Some out.0 e.0 (sym out.1 ∙ e.1) in
    let outs : e.0.standing ≡ Out w = sym (ap (λ (x : SearchNode). x.standing) same) ∙ out.2 in
    let no : false ≡ true = sym e.2 ∙ ap is_out outs in
    cc

-- the report's effect
pub report_effect : (problem : Problem) (journal : List Entry) (w n : ℕ) (bound : ℤ) (pair : Option Pair) (value : ℤ) (room : Bool) → MayReport problem (replay problem journal) (room_count journal) w n bound pair value room
    → Effect (replay problem journal).nodes (after (replay problem journal) (Report w n bound pair value room)).nodes (replay problem journal).best (after (replay problem journal) (Report w n bound pair value room)).best n
    × IsDone (after (replay problem journal) (Report w n bound pair value room)).nodes (after (replay problem journal) (Report w n bound pair value room)).best n
unfolding after
report_effect problem journal w n bound pair value room may =
    settled_effect (replay problem journal) n may.is_out.0 (if room then bound else (node_at (replay problem journal).nodes n).bound) (int_max (replay problem journal).best value) pair may.is_out.1
    (le_max (replay problem journal).best value) (low pair may.all_decided may.decided_room)
  where
    low : (p : Option Pair) → IfNone p (AreAllDecided problem.weights.size (path_of (replay problem journal).nodes n) × (value ≡ bound))
        → IfNone p (room ≡ true) → IfNone p ((if room then bound else (node_at (replay problem journal).nodes n).bound) ≤ℤ int_max (replay problem journal).best value)
    low None h k = rw k (subst (λ (b : ℤ). b ≤ℤ int_max (replay problem journal).best value) h.1 (omega (arith, ints, clamps)))
    low (Some p) h k = h

pub take_effect : (problem : Problem) (s : SearchState) (w n : ℕ) → MayTake problem s n → Effect s.nodes (after s (Take w n)).nodes s.best (after s (Take w n)).best n
unfolding after
take_effect problem s w n may = changed_effect s.nodes s.best s.best n may.ready.it (node_at s.nodes n).bound (Out w) may.ready.is_there (omega (arith, ints))

fate_entry : (problem : Problem) (journal : List Entry) (e : Entry) → MayFollow problem journal e → ((i : ℕ) → Fate (replay problem journal) journal i)
    → (i : ℕ) → Fate (after (replay problem journal) e) (journal ++ e ∷ []) i
fate_entry problem journal (Take w n) may fates i = elim (cases_eq i n) [
  | inl same ↦ subst (Fate (after (replay problem journal) (Take w n)) (journal ++ Take w n ∷ [])) (sym same) (taken_fate problem (replay problem journal) journal w n may (fates n))
  | inr other ↦ fate_stays (replay problem journal) (after (replay problem journal) (Take w n)) journal (Take w n) i n other (take_effect problem (replay problem journal) w n may) (differ n i other) refl (fates i)
]
fate_entry problem journal (Report w n bound pair value room) may fates i =
    let both = report_effect problem journal w n bound pair value room may in
    elim (cases_eq i n) [
      | inl same ↦ subst (Fate (after (replay problem journal) (Report w n bound pair value room)) (journal ++ Report w n bound pair value room ∷ [])) (sym same)
          (reported_fate (replay problem journal) (after (replay problem journal) (Report w n bound pair value room)) journal w n bound pair value room may.is_out both.1 (fates n))
      | inr other ↦ fate_stays (replay problem journal) (after (replay problem journal) (Report w n bound pair value room)) journal (Report w n bound pair value room) i n other both.0 refl (differ n i other) (fates i)
    ]

no_entries : {P : Entry → Type 0} (w : ℕ) → ¬ (Any P (entries_of w []))
no_entries w a = absurd (omega arith)

root_idle : (problem : Problem) (i : ℕ) (x : SearchNode) → slice_get (root_state problem).nodes i ≡ Some x → x.standing ≡ Idle
root_idle problem zero x e = sym (ap (λ (y : SearchNode). y.standing) (same_Some _ x e))
root_idle problem (suc i) x e = absurd (none-some x e)

pub fates : (problem : Problem) (journal : List Entry) → IsLawfulJournal problem journal → (i : ℕ) → Fate (replay problem journal) journal i
fates problem journal h =
    by_following (MayFollow problem) (λ (j : List Entry). (i : ℕ) → Fate (replay problem j) j i)
    (λ i. fresh (λ w a. no_entries w a) (λ w a. no_entries w a) (root_idle problem i))
    (λ j e lawful fates may i. subst (λ (s : SearchState). Fate s (j ++ e ∷ []) i) (sym (replay_push problem j e)) (fate_entry problem j e may fates i))
    journal h.each

-- a node is out to a worker exactly where the worker's entries have a take of it and no report
pub out_exactly : (problem : Problem) (journal : List Entry) (w i : ℕ) → IsLawfulJournal problem journal
    → IsOutTo (replay problem journal) w i ↔ (HasTake i (entries_of w journal) × ¬ (HasReport i (entries_of w journal)))
out_exactly problem journal w i h = go (fates problem journal h i) where
  go : Fate (replay problem journal) journal i → IsOutTo (replay problem journal) w i ↔ (HasTake i (entries_of w journal) × ¬ (HasReport i (entries_of w journal)))
  go (fresh a b c) = (λ o. let no : Idle ≡ Out w = sym (c o.0 o.1) ∙ o.2 in cc, λ p. absurd (a w p.0))
  go (held v o a b c) = (
    λ out.
        let same : out.0 ≡ o.0 = same_Some out.0 o.0 (sym out.1 ∙ o.1) in
        let outs : Out w ≡ Out v = sym out.2 ∙ (ap (λ (x : SearchNode). x.standing) same ∙ o.2) in
        let me : v ≡ w = cc in
        (subst (λ (u : ℕ). HasTake i (entries_of u journal)) me a, c w),
    λ p. subst (λ (u : ℕ). IsOutTo (replay problem journal) u i) (sym (b w p.0)) o,
  )
  go (done d a) = (
    λ out.
        let same : out.0 ≡ d.0 = same_Some out.0 d.0 (sym out.1 ∙ d.1) in
        let outs : d.0.standing ≡ Out w = sym (ap (λ (x : SearchNode). x.standing) same) ∙ out.2 in
        let no : false ≡ true = sym d.2 ∙ ap is_out outs in
        cc,
    λ p. absurd (p.1 (a w p.0)),
  )
