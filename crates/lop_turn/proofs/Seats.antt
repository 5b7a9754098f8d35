-- Splitting off and joining a pass keep the rule. The rule at the opening, and what it says at the close.
use Rattle.std.proofs.Common.{◌≡◌, ◌≢◌, ℕ, ◌^◌, ◌<◌, ◌⊎◌, inl, inr, ⊎_elim, true, false, ℤ, ◌≤ℤ◌, Option, Some, None, List, [], ◌∷◌, ◌++◌, length, get_or, set, sym, refl, ap, ◌∙◌, subst, arith, length-set, IsSome}
use Rattle.std.proofs.lemmas.Bool.{false≢true}
use Rattle.std.specs.List.{Contains}
use mathlib.Core.Option.{Option as Maybe, some, some-injective}
use mathlib.Core.Logic.{dite}
use native.Mathlib.Decide.{ℕ_discrete}
use lib.ListN.{get_elem?}
use Rattle.atomic_table.specs.Table.{State, Splits, Joins, opening, Final, Seen}
use Rattle.atomic_table.proofs.Lists.{at_set, set_else, at_longer}
use Rattle.lop_turn.specs.declared.view.View.{View}
use Rattle.lop_turn.specs.Lists.{StartsWith, entries_by, list_at}
use Rattle.lop_turn.specs.Views.{first_view, new_view, spent_view, after_announcement, after_split, after_join}
use Rattle.lop_turn.specs.Rule.{Actual, IsRight, IsHeld, IsKept, mark_of}
use Rattle.lop_turn.proofs.Marks.{le_same, le_trans_ℤ, max-below}
use Rattle.lop_turn.proofs.Beginnings.{starts_same, starts_longer, longer_starts, entries_by-between, list_at-here, list_at-other, none-some, some-same, same_at, at_end, alone, has_here, has_later}

module _ {T E : Type 0} (history : T → List E) (worker : E → ℕ) (score : T → ℤ) (fixed : T → List ℤ) where
  -- the states of a turn's table, the rule of such a state, and that it is held
  abbrev St : Type 0
  St = State (Option T) (View E)

  abbrev Rule : St → Type 0
  Rule = IsKept history worker score fixed

  abbrev Held : St → Type 0
  Held = IsHeld history worker score fixed

  abbrev table : List ℕ → List (Maybe (Option T)) → List (View E) → St
  table ws hs vs = record { words = ws; homes = hs; views = vs }

  -- a pass that does not hold the turn does not hold it
  not_held : (v : View E) → v.holds ≡ false → v.holds ≡ true → ⊥
  not_held v idle out = false≢true (sym idle ∙ out)

  -- where a live view of the new list comes from: from the first pass, from the new one, or from the same view
  abbrev Whence : List (View E) → ℕ → View E → View E → ℕ → View E → Type 0
  Whence vs id left right i u = ((i ≡ id) × (left ≡ u)) ⊎ (((i ≡ length vs) × (right ≡ u)) ⊎ ((i ≢ id) × (get_elem? vs i ≡ some u)))

  -- each view of the list after a split is one of these
  whence : (vs : List (View E)) (id : ℕ) (left right : View E) (i : ℕ) (u : View E) → get_elem? (set vs id left ++ right ∷ []) i ≡ some u → Whence vs id left right i u
  whence vs id left right i u e = ⊎_elim
      (λ (p : get_elem? (set vs id left) i ≡ some u). ⊎_elim (λ (q : (i ≡ id) × (left ≡ u)). inl q) (λ (q : (i ≢ id) × (get_elem? vs i ≡ some u)). inr (inr q)) (at_set vs id i left u p))
      (λ (p : (i ≡ length (set vs id left)) × (right ≡ u)). inr (inl (p.0 ∙ length-set vs id left, p.1)))
      (at_end (set vs id left) right u i e)

  -- splitting off the number that was announced keeps the rule
  pub splits : (id : ℕ) (v : View E) → v.number ≡ 0 → v.is_live ≡ true → v.holds ≡ false → v.announced ≢ 0 → v.announced < 2 ^ 32 → ¬ Contains v.split_off v.announced
      → Splits Rule id v (after_split v v.announced) (new_view worker v v.announced)
  splits id v zeroth live idle positive small fresh s k me =
      let n : ℕ = v.announced in
      let c : Actual E = k.actual in
      let word : ℕ = get_or s.words 0 0 in
      let mark : ℕ = get_or s.words 1 0 in
      let left : View E = after_split v n in
      let right : View E = new_view worker v n in
      let mine : IsRight worker c word mark v = k.right id v me live in
      let lists = mine.first zeroth in
      let unknown : ¬ Contains c.split_off n = λ h. fresh (subst (λ (x : List ℕ). Contains x n) (sym lists.0) h) in
      let c' : Actual E = record { history = c.history; score = c.score; opening = c.opening; fixed = c.fixed; split_off = n ∷ c.split_off; ended = c.ended } in
      -- no live pass has the new number
      let free : (i : ℕ) (u : View E) → get_elem? s.views i ≡ some u → u.is_live ≡ true → u.number ≢ n = λ i u e l same.
      unknown (subst (Contains c.split_off) same ((k.right i u e l).other (λ z. positive (sym same ∙ z))).0) in
      let ended : list_at c.ended n ≡ None = k.unsplit n unknown in
      record {
        actual = c';
        width = k.width;
        free = λ e. let h = k.free e in record { value = h.value; is = h.is; history_is = h.history_is; score_is = h.score_is; fixed_is = h.fixed_is };
        held = λ ne.
            let h = k.held ne in
            let other : h.seat ≢ id = λ same. not_held v idle (ap (λ (x : View E). x.holds) (same_at s.views id v h.view me (subst (λ (x : ℕ). get_elem? s.views x ≡ some h.view) same h.at)) ∙ h.holds) in
            record { seat = h.seat; view = h.view; at = at_longer (set s.views id left) (right ∷ []) h.seat h.view (set_else s.views id h.seat left other ∙ h.at); is_live = h.is_live; holds = h.holds; away = h.away };
        right = λ i u e l. ⊎_elim
            (λ (p : (i ≡ id) × (left ≡ u)). subst (IsRight worker c' word mark) p.1
            (record { small = mine.small; sees = mine.sees; opens = mine.opens; mine = mine.mine; fixed = mine.fixed; opening = mine.opening; holds = λ y. absurd (not_held v idle y); floor = mine.floor; last_given = mine.last_given; first = λ _. (ap (λ (x : List ℕ). n ∷ x) lists.0, lists.1); other = λ nz. absurd (nz zeroth) }))
            (⊎_elim
            (λ (p : (i ≡ length s.views) × (right ≡ u)). subst (IsRight worker c' word mark) p.1
            (record { small = small; sees = mine.sees; opens = mine.opens; mine = entries_by-between worker n c.history v.seen c.opening mine.sees mine.opens (k.never n positive unknown); fixed = mine.fixed; opening = mine.opening; holds = λ y. absurd (false≢true y); floor = mine.floor; last_given = λ g e. absurd (none-some g e); first = λ z. absurd (positive z); other = λ _. (has_here n c.split_off, ended) }))
            (λ (p : (i ≢ id) × (get_elem? s.views i ≡ some u)).
            let f : IsRight worker c word mark u = k.right i u p.1 l in
            record { small = f.small; sees = f.sees; opens = f.opens; mine = f.mine; fixed = f.fixed; opening = f.opening; holds = f.holds; floor = f.floor; last_given = f.last_given; first = λ z. absurd (p.0 (k.apart i id u v p.1 me l live (z ∙ sym zeroth))); other = λ nz. let o = f.other nz in (has_later n u.number c.split_off o.0, o.1) }))
            (whence s.views id left right i u e);
        apart = λ i j x y ei ej lx ly same.
            let old : (a : ℕ) (u : View E) → u.is_live ≡ true → Whence s.views id left right a u
            → ((a ≡ length s.views) × (right ≡ u)) ⊎ ((w : View E) × (get_elem? s.views a ≡ some w) × (w.is_live ≡ true) × (w.number ≡ u.number))
            = λ a u l h. ⊎_elim (λ (p : (a ≡ id) × (left ≡ u)). inr (v, subst (λ (z : ℕ). get_elem? s.views z ≡ some v) (sym p.0) me, live, ap (λ (z : View E). z.number) p.1))
            (⊎_elim (λ (p : (a ≡ length s.views) × (right ≡ u)). inl p) (λ (p : (a ≢ id) × (get_elem? s.views a ≡ some u)). inr (u, p.1, l, refl))) h in
            ⊎_elim
            (λ (p : (i ≡ length s.views) × (right ≡ x)). ⊎_elim (λ (q : (j ≡ length s.views) × (right ≡ y)). p.0 ∙ sym q.0)
            (λ (q : (w : View E) × (get_elem? s.views j ≡ some w) × (w.is_live ≡ true) × (w.number ≡ y.number)). absurd (free j q.0 q.1 q.2 (q.3 ∙ (sym same ∙ sym (ap (λ (z : View E). z.number) p.1)))))
            (old j y ly (whence s.views id left right j y ej)))
            (λ (p : (w : View E) × (get_elem? s.views i ≡ some w) × (w.is_live ≡ true) × (w.number ≡ x.number)).
            ⊎_elim (λ (q : (j ≡ length s.views) × (right ≡ y)). absurd (free i p.0 p.1 p.2 (p.3 ∙ (same ∙ sym (ap (λ (z : View E). z.number) q.1)))))
            (λ (q : (w : View E) × (get_elem? s.views j ≡ some w) × (w.is_live ≡ true) × (w.number ≡ y.number)). k.apart i j p.0 q.0 p.1 q.1 p.2 q.2 (p.3 ∙ (same ∙ sym q.3)))
            (old j y ly (whence s.views id left right j y ej)))
            (old i x lx (whence s.views id left right i x ei));
        marked = k.marked;
        begins = k.begins;
        never = λ m nz no. k.never m nz (λ h. no (has_later n m c.split_off h));
        unended = k.unended;
        unsplit = λ m no. k.unsplit m (λ h. no (has_later n m c.split_off h));
        ends = k.ends;
      }

  -- the same of a view that is known to be one after an announcement
  pub splits_announced : (id : ℕ) (v u : View E) (n : ℕ) → u ≡ after_announcement v n → v.number ≡ 0 → v.is_live ≡ true → v.holds ≡ false → n ≢ 0 → n < 2 ^ 32 → ¬ Contains v.split_off n
      → Splits Rule id u (after_split u u.announced) (new_view worker u u.announced)
  splits_announced id v u n is zeroth live idle positive small fresh =
      subst (λ (x : View E). Splits Rule id x (after_split x x.announced) (new_view worker x x.announced)) (sym is) (splits id (after_announcement v n) zeroth live idle positive small fresh)

  -- joining a pass into the first one keeps the rule
  pub joins : (id : ℕ) (v : View E) (other : ℕ) (w : View E) → v.number ≡ 0 → v.is_live ≡ true → v.holds ≡ false → w.is_live ≡ true → w.holds ≡ false
      → Joins Rule id v other w (after_join v w) spent_view
  joins id v other w zeroth live idle live' idle' s k me apart them =
      let both : View E = after_join v w in
      let c : Actual E = k.actual in
      let word : ℕ = get_or s.words 0 0 in
      let mark : ℕ = get_or s.words 1 0 in
      let mine : IsRight worker c word mark v = k.right id v me live in
      let lists = mine.first zeroth in
      let there : get_elem? s.views other ≡ some w = sym (set_else s.views id other both apart) ∙ them in
      let theirs : IsRight worker c word mark w = k.right other w there live' in
      let positive : w.number ≢ 0 = λ z. apart (k.apart other id w v there me live' live (z ∙ sym zeroth)) in
      let known = theirs.other positive in
      let c' : Actual E = record { history = c.history; score = c.score; opening = c.opening; fixed = c.fixed; split_off = c.split_off; ended = (w.number, w.mine) ∷ c.ended } in
      let Old : ℕ → View E → Type 0 = λ i u. ((i ≡ id) × (both ≡ u)) ⊎ ((i ≢ id) × (i ≢ other) × (get_elem? s.views i ≡ some u)) in
      let old : (i : ℕ) (u : View E) → get_elem? (set (set s.views id both) other spent_view) i ≡ some u → u.is_live ≡ true → Old i u = λ i u e l.
      ⊎_elim (λ (p : (i ≡ other) × (spent_view ≡ u)). absurd (false≢true (ap (λ (z : View E). z.is_live) p.1 ∙ l)))
      (λ (p : (i ≢ other) × (get_elem? (set s.views id both) i ≡ some u)). ⊎_elim (λ (q : (i ≡ id) × (both ≡ u)). inl q) (λ (q : (i ≢ id) × (get_elem? s.views i ≡ some u)). inr (q.0, p.0, q.1)) (at_set s.views id i both u p.1))
      (at_set (set s.views id both) other i spent_view u e) in
      let before : (i : ℕ) (u : View E) → u.is_live ≡ true → Old i u → (x : View E) × (get_elem? s.views i ≡ some x) × (x.is_live ≡ true) × (x.number ≡ u.number) = λ i u l h.
      ⊎_elim (λ (p : (i ≡ id) × (both ≡ u)). (v, subst (λ (z : ℕ). get_elem? s.views z ≡ some v) (sym p.0) me, live, ap (λ (z : View E). z.number) p.1)) (λ (p : (i ≢ id) × (i ≢ other) × (get_elem? s.views i ≡ some u)). (u, p.2, l, refl)) h in
      record {
        actual = c';
        width = k.width;
        free = λ e. let h = k.free e in record { value = h.value; is = h.is; history_is = h.history_is; score_is = h.score_is; fixed_is = h.fixed_is };
        held = λ ne.
            let h = k.held ne in
            let not_mine : h.seat ≢ id = λ same. not_held v idle (ap (λ (x : View E). x.holds) (same_at s.views id v h.view me (subst (λ (x : ℕ). get_elem? s.views x ≡ some h.view) same h.at)) ∙ h.holds) in
            let not_theirs : h.seat ≢ other = λ same. not_held w idle' (ap (λ (x : View E). x.holds) (same_at s.views other w h.view there (subst (λ (x : ℕ). get_elem? s.views x ≡ some h.view) same h.at)) ∙ h.holds) in
            record { seat = h.seat; view = h.view; at = set_else (set s.views id both) other h.seat spent_view not_theirs ∙ (set_else s.views id h.seat both not_mine ∙ h.at); is_live = h.is_live; holds = h.holds; away = h.away };
        right = λ i u e l. ⊎_elim
            (λ (p : (i ≡ id) × (both ≡ u)). subst (IsRight worker c' word mark) p.1
            (record {
              small = mine.small;
              sees = starts_longer c.history v.seen w.seen mine.sees theirs.sees;
              opens = longer_starts c.opening v.seen w.seen mine.opens theirs.opens;
              mine = mine.mine;
              fixed = mine.fixed;
              opening = mine.opening;
              holds = λ y. absurd (not_held v idle y);
              floor = max-below v.floor w.floor (mark_of mark) mine.floor theirs.floor;
              last_given = mine.last_given;
              first = λ _. (lists.0, ap (λ (x : List (ℕ × List E)). (w.number, w.mine) ∷ x) lists.1);
              other = λ nz. absurd (nz zeroth);
            }))
            (λ (p : (i ≢ id) × (i ≢ other) × (get_elem? s.views i ≡ some u)).
            let f : IsRight worker c word mark u = k.right i u p.2 l in
            record {
              small = f.small;
              sees = f.sees;
              opens = f.opens;
              mine = f.mine;
              fixed = f.fixed;
              opening = f.opening;
              holds = f.holds;
              floor = f.floor;
              last_given = f.last_given;
              first = λ z. absurd (p.0 (k.apart i id u v p.2 me l live (z ∙ sym zeroth)));
              other = λ nz. let o = f.other nz in (o.0, list_at-other w.mine c.ended w.number u.number (λ same. p.1 (k.apart i other u w p.2 there l live' (sym same))) ∙ o.1);
            })
            (old i u e l);
        apart = λ i j x y ei ej lx ly same.
            let a = before i x lx (old i x ei lx) in
            let b = before j y ly (old j y ej ly) in
            k.apart i j a.0 b.0 a.1 b.1 a.2 b.2 (a.3 ∙ (same ∙ sym b.3));
        marked = k.marked;
        begins = k.begins;
        never = k.never;
        unended = list_at-other w.mine c.ended w.number 0 positive ∙ k.unended;
        unsplit = λ m no. list_at-other w.mine c.ended w.number m (λ same. no (subst (Contains c.split_off) same known.0)) ∙ k.unsplit m no;
        ends = λ n xs e. dite (ℕ_discrete w.number n)
            (λ same. ap (λ (m : ℕ). entries_by worker m c.history) (sym same) ∙ (sym theirs.mine ∙ some-same w.mine xs (sym (list_at-here w.mine c.ended w.number) ∙ (ap (list_at ((w.number, w.mine) ∷ c.ended)) same ∙ e))))
            (λ ne. k.ends n xs (sym (list_at-other w.mine c.ended w.number n ne) ∙ e));
      }

  -- the rule holds at the opening, with the value at home and the mark at its score
  pub opens : (value : T) (level : ℕ) → mark_of level ≡ score value → Rule (opening (0 ∷ level ∷ []) (Some value ∷ []) (first_view worker (history value) (score value) (fixed value)))
  opens value level code =
      let sc : ℤ = score value in
      let v : View E = first_view worker (history value) (score value) (fixed value) in
      let c : Actual E = record { history = history value; score = score value; opening = history value; fixed = fixed value; split_off = []; ended = [] } in
      let only : (i : ℕ) (u : View E) → get_elem? (v ∷ []) i ≡ some u → (i ≡ 0) × (v ≡ u) = alone v in
      record {
        actual = c;
        width = refl;
        free = λ _. record { value = value; is = refl; history_is = refl; score_is = refl; fixed_is = refl };
        held = λ ne. absurd (ne refl);
        right = λ i u e l. subst (IsRight worker c 0 level) (only i u e).1
            (record {
              small = omega arith;
              sees = starts_same (history value);
              opens = starts_same (history value);
              mine = refl;
              fixed = refl;
              opening = refl;
              holds = λ y. absurd (false≢true y);
              floor = subst (λ (x : ℤ). sc ≤ℤ x) (sym code) (le_same sc);
              last_given = λ g e. absurd (none-some g e);
              first = λ _. (refl, refl);
              other = λ nz. absurd (nz refl);
            });
        apart = λ i j x y ei ej _ _ _. (only i x ei).0 ∙ sym (only j y ej).0;
        marked = subst (λ (x : ℤ). x ≤ℤ sc) (sym code) (le_same sc);
        begins = starts_same (history value);
        never = λ _ _ _. refl;
        unended = refl;
        unsplit = λ _ _. refl;
        ends = λ n xs e. absurd (none-some xs e);
      }

  -- what the first pass knows of the value at the close
  pub record Closes (v : View E) (value : T) : Type 0 where
    pub sees : StartsWith (history value) v.seen
    pub opens : StartsWith (history value) v.opening
    pub fixed_is : fixed value ≡ v.fixed
    pub floor : v.floor ≤ℤ score value
    pub ended : (n : ℕ) (xs : List E) → list_at v.ended n ≡ Some xs → entries_by worker n (history value) ≡ xs
    pub mine : entries_by worker 0 (history value) ≡ v.mine
    pub never : (n : ℕ) → n ≢ 0 → ¬ Contains v.split_off n → entries_by worker n (history value) ≡ entries_by worker n v.opening

  -- where all that were split off have ended, the turn is free at the close, and the slot has the value
  pub closes : (id : ℕ) (v : View E) (ws : List ℕ) (xs : List (Option T)) → v.number ≡ 0 → v.is_live ≡ true → v.holds ≡ false
      → ((n : ℕ) → Contains v.split_off n → IsSome (list_at v.ended n))
      → Final (Seen Rule id v) ws xs → (value : T) × (get_elem? xs 0 ≡ some (Some value)) × Closes v value
  closes id v ws xs zeroth live idle all f =
      let s : St = f.0 in
      let k : Rule s = f.1.0 in
      let me : get_elem? s.views id ≡ some v = f.1.1 in
      let c : Actual E = k.actual in
      let word : ℕ = get_or s.words 0 0 in
      let mark : ℕ = get_or s.words 1 0 in
      let mine : IsRight worker c word mark v = k.right id v me live in
      let lists = mine.first zeroth in
      let free : word ≡ 0 = dite (ℕ_discrete word 0) (λ z. z) (λ ne.
      let h = k.held ne in
      let theirs : IsRight worker c word mark h.view = k.right h.seat h.view h.at h.is_live in
      dite (ℕ_discrete h.view.number 0)
      (λ z. absurd (not_held v idle (ap (λ (x : View E). x.holds) (same_at s.views id v h.view me (subst (λ (x : ℕ). get_elem? s.views x ≡ some h.view) (k.apart h.seat id h.view v h.at me h.is_live live (z ∙ sym zeroth)) h.at)) ∙ h.holds)))
      (λ nz.
      let o = theirs.other nz in
      let some_list = all h.view.number (subst (λ (x : List ℕ). Contains x h.view.number) (sym lists.0) o.0) in
      absurd (false≢true (subst IsSome (ap (λ (x : List (ℕ × List E)). list_at x h.view.number) lists.1 ∙ o.1) some_list)))) in
      let h = k.free free in (
        h.value,
        f.4 0 (Some h.value) h.is,
        record {
          sees = subst (λ (x : List E). StartsWith x v.seen) (sym h.history_is) mine.sees;
          opens = subst (λ (x : List E). StartsWith (history h.value) x) (sym mine.opening) (subst (λ (x : List E). StartsWith x c.opening) (sym h.history_is) k.begins);
          fixed_is = h.fixed_is ∙ sym mine.fixed;
          floor = subst (λ (x : ℤ). v.floor ≤ℤ x) (sym h.score_is) (le_trans_ℤ v.floor (mark_of mark) c.score mine.floor k.marked);
          ended = λ n ys e. ap (entries_by worker n) h.history_is ∙ k.ends n ys (ap (λ (x : List (ℕ × List E)). list_at x n) (sym lists.1) ∙ e);
          mine = ap (entries_by worker 0) h.history_is ∙ (ap (λ (n : ℕ). entries_by worker n c.history) (sym zeroth) ∙ sym mine.mine);
          never = λ n nz no. ap (entries_by worker n) h.history_is ∙ (k.never n nz (λ y. no (subst (λ (x : List ℕ). Contains x n) (sym lists.0) y)) ∙ ap (entries_by worker n) (sym mine.opening));
        },
      )

  -- the same for the value that the slot is found to have
  pub finds : (id : ℕ) (v u : View E) (ws : List ℕ) (xs : List (Option T)) (found : Option T) → v ≡ u → u.number ≡ 0 → v.is_live ≡ true → u.holds ≡ false
      → ((n : ℕ) → Contains u.split_off n → IsSome (list_at u.ended n))
      → Final (Seen Rule id v) ws xs → get_elem? xs 0 ≡ some found → (value : T) × (found ≡ Some value) × Closes u value
  finds id v u ws xs found is zeroth live idle all f at =
      let t = closes id u ws xs zeroth (ap (λ (x : View E). x.is_live) (sym is) ∙ live) idle all (subst (λ (x : View E). Final (Seen Rule id x) ws xs) is f) in
      (t.0, some-injective found (Some t.0) (sym at ∙ t.1), t.2)

  -- the value that is unwrapped from the slot is that value
  pub finds_this : (u : View E) (found : Option T) (value : T) → ((x : T) × (found ≡ Some x) × Closes u x) → found ≡ Some value → Closes u value
  finds_this u found value t e = subst (Closes u) (some-same t.0 value (sym t.1 ∙ e)) t.2
