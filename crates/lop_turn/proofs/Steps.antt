-- Each step on a word keeps the rule.
use Rattle.std.proofs.Common.{◌≡◌, ◌≢◌, ℕ, ◌+◌, ◌-◌, ◌<◌, max, ◌⊎◌, inl, inr, ⊎_elim, true, false, eqb, ℤ, ◌≤ℤ◌, Option, Some, List, [], ◌∷◌, ◌++◌, length, drop, get_or, set, sym, refl, ap, ◌∙◌, subst, arith, length-set, get_or-set_same, get_or-set_other, append-nil}
use Rattle.std.proofs.lemmas.Bool.{false≢true}
use Rattle.std.specs.List.{All, Contains}
use mathlib.Core.Option.{Option as Maybe, some, none}
use mathlib.Core.Logic.{dite}
use native.Mathlib.Decide.{ℕ_discrete}
use lib.ListN.{get_elem?}
use lib.Seq.{set-get_or}
use prog.Atomic.{either}
use Rattle.atomic_table.specs.Table.{State, Me, Act, step, keeps, takes, gives, Valid, carried_after, stepped, Allows}
use Rattle.atomic_table.proofs.Lists.{at_set, set_here, set_else, exchanged}
use Rattle.lop_turn.specs.declared.view.View.{View}
use Rattle.lop_turn.specs.Lists.{StartsWith, entries_by, list_at}
use Rattle.lop_turn.specs.Views.{after_announcement, after_take, after_refusal, after_give, after_raise, after_reading}
use Rattle.lop_turn.specs.Rule.{Actual, IsRight, IsAtHome, IsHeld, IsKept, Tries, Gives, Announces, Raises, Reads, mark_of}
use Rattle.lop_turn.proofs.Beginnings.{starts_same, starts_trans, entries_by-append, entries_by-none, entries_by-grown, none-some, some-same, in_range, same_at}
use Rattle.lop_turn.proofs.Marks.{le_same, le_trans_ℤ, mark-mono, mark-max, max-below}

-- the same facts at another history and score
abbrev pub grown : {E : Type 0} → Actual E → List E → ℤ → Actual E
grown c past score = record { history = past; score = score; opening = c.opening; fixed = c.fixed; split_off = c.split_off; ended = c.ended }

module _ {T E : Type 0} (history : T → List E) (worker : E → ℕ) (score : T → ℤ) (fixed : T → List ℤ) where
  -- the states of a turn's table, and the rule of such a state
  abbrev St : Type 0
  St = State (Option T) (View E)

  abbrev Rule : St → Type 0
  Rule = IsKept history worker score fixed

  abbrev table : List ℕ → List (Maybe (Option T)) → List (View E) → St
  table ws hs vs = record { words = ws; homes = hs; views = vs }

  -- a view's place, and what it was before the view id became w
  abbrev Was : List (View E) → ℕ → View E → ℕ → View E → Type 0
  Was vs id v i x = ((i ≡ id) × (x.number ≡ v.number)) ⊎ ((i ≢ id) × (get_elem? vs i ≡ some x))

  -- each live view of the list after a step is one of these
  was : (vs : List (View E)) (id : ℕ) (v w : View E) (i : ℕ) (x : View E) → w.number ≡ v.number → get_elem? (set vs id w) i ≡ some x → Was vs id v i x
  was vs id v w i x num e = elim (at_set vs id i w x e) [ inl p ↦ inl (p.0, ap (λ (y : View E). y.number) (sym p.1) ∙ num) | inr p ↦ inr p ]

  -- a view that stays is still right, while history, score and mark grow
  pub right_still : (c : Actual E) (past : List E) (sc : ℤ) (word mark word' mark' : ℕ) (u : View E) → IsRight worker c word mark u
      → StartsWith past c.history → entries_by worker u.number past ≡ entries_by worker u.number c.history → c.score ≤ℤ sc → mark_of mark ≤ℤ mark_of mark'
      → (u.holds ≡ true → (word' ≡ u.number + 1) × (u.taken ≡ past) × (u.taken_score ≡ sc))
      → IsRight worker (grown c past sc) word' mark' u
  right_still c past sc word mark word' mark' u f grows same up higher holds = record {
    small = f.small;
    sees = starts_trans past c.history u.seen grows f.sees;
    opens = f.opens;
    mine = f.mine ∙ sym same;
    fixed = f.fixed;
    opening = f.opening;
    holds = holds;
    floor = le_trans_ℤ u.floor (mark_of mark) (mark_of mark') f.floor higher;
    last_given = λ g e. le_trans_ℤ g c.score sc (f.last_given g e) up;
    first = f.first;
    other = f.other;
  }

  -- the rule is kept where the view of one pass becomes w, with the same number, the words become n and m, and history and score grow
  pub kept_after : (s : St) (k : Rule s) (id : ℕ) (v w : View E) (ws : List ℕ) (n m : ℕ) (homes : List (Maybe (Option T))) (past : List E) (sc : ℤ)
      → get_elem? s.views id ≡ some v → v.is_live ≡ true → w.number ≡ v.number
      → length ws ≡ 2 → get_or ws 0 0 ≡ n → get_or ws 1 0 ≡ m
      → (n ≡ 0 → IsAtHome history worker score fixed (grown k.actual past sc) (get_elem? homes 0))
      → (n ≢ 0 → IsHeld history worker score fixed (table ws homes (set s.views id w)))
      → IsRight worker (grown k.actual past sc) n m w
      → ((u : View E) → IsRight worker k.actual (get_or s.words 0 0) (get_or s.words 1 0) u → u.number ≢ v.number → IsRight worker (grown k.actual past sc) n m u)
      → mark_of m ≤ℤ sc
      → StartsWith past k.actual.history
      → ((number : ℕ) → number ≢ v.number → entries_by worker number past ≡ entries_by worker number k.actual.history)
      → Rule (table ws homes (set s.views id w))
  kept_after s k id v w ws n m homes past sc at live num long first second free held mine others marked grows same =
      let c : Actual E = k.actual in
      let before = k.right id v at live in
      record {
        actual = grown c past sc;
        width = long;
        free = λ e. free (sym first ∙ e);
        held = λ e. held (λ z. e (first ∙ z));
        right = λ seat u e l. subst (λ (x : ℕ). IsRight worker (grown c past sc) x (get_or ws 1 0) u) (sym first)
            (subst (λ (x : ℕ). IsRight worker (grown c past sc) n x u) (sym second)
            (⊎_elim (λ (p : (seat ≡ id) × (w ≡ u)). subst (IsRight worker (grown c past sc) n m) p.1 mine)
            (λ (p : (seat ≢ id) × (get_elem? s.views seat ≡ some u)). others u (k.right seat u p.1 l) (λ same. p.0 (k.apart seat id u v p.1 at l live same)))
            (at_set s.views id seat w u e)));
        apart = λ i j x y ei ej lx ly same.
            ⊎_elim
            (λ (p : (i ≡ id) × (x.number ≡ v.number)). ⊎_elim (λ (q : (j ≡ id) × (y.number ≡ v.number)). p.0 ∙ sym q.0)
            (λ (q : (j ≢ id) × (get_elem? s.views j ≡ some y)). absurd (q.0 (k.apart j id y v q.1 at ly live (sym same ∙ p.1)))) (was s.views id v w j y num ej))
            (λ (p : (i ≢ id) × (get_elem? s.views i ≡ some x)). ⊎_elim (λ (q : (j ≡ id) × (y.number ≡ v.number)). absurd (p.0 (k.apart i id x v p.1 at lx live (same ∙ q.1))))
            (λ (q : (j ≢ id) × (get_elem? s.views j ≡ some y)). k.apart i j x y p.1 q.1 lx ly same) (was s.views id v w j y num ej))
            (was s.views id v w i x num ei);
        marked = subst (λ (x : ℕ). mark_of x ≤ℤ sc) (sym second) marked;
        begins = starts_trans past c.history c.opening grows k.begins;
        never = λ number nz fresh. same number (λ e. fresh (subst (Contains c.split_off) (sym e) (before.other (λ z. nz (e ∙ z))).0)) ∙ k.never number nz fresh;
        unended = k.unended;
        unsplit = k.unsplit;
        ends = λ number xs e. same number (λ here. dite (ℕ_discrete v.number 0)
            (λ z. none-some xs (sym k.unended ∙ (ap (list_at c.ended) (sym (here ∙ z)) ∙ e)))
            (λ nz. none-some xs (sym (before.other nz).1 ∙ (ap (list_at c.ended) (sym here) ∙ e)))) ∙ k.ends number xs e;
      }

  -- the rule is kept where the first word stays, the second does not fall, and one view becomes w
  pub kept_word : (s : St) (k : Rule s) (id : ℕ) (v w : View E) (ws : List ℕ) (m : ℕ) → get_elem? s.views id ≡ some v → v.is_live ≡ true → w.number ≡ v.number
      → w.is_live ≡ true → (v.holds ≡ true → w.holds ≡ true)
      → length ws ≡ 2 → get_or ws 0 0 ≡ get_or s.words 0 0 → get_or ws 1 0 ≡ m
      → mark_of (get_or s.words 1 0) ≤ℤ mark_of m → mark_of m ≤ℤ k.actual.score
      → IsRight worker k.actual (get_or s.words 0 0) m w
      → Rule (table ws s.homes (set s.views id w))
  kept_word s k id v w ws m at live num alive keep long first second higher below mine =
      kept_after s k id v w ws (get_or s.words 0 0) m s.homes k.actual.history k.actual.score at live num long first second k.free
      (λ ne. let h = k.held ne in
      dite (ℕ_discrete h.seat id)
      (λ same. let is : h.view ≡ v = same_at s.views id h.view v (subst (λ (x : ℕ). get_elem? s.views x ≡ some h.view) same h.at) at in
      record { seat = id; view = w; at = set_here s.views id w (in_range s.views id v at); is_live = alive; holds = keep (ap (λ (x : View E). x.holds) (sym is) ∙ h.holds); away = h.away })
      (λ other. record { seat = h.seat; view = h.view; at = set_else s.views id h.seat w other ∙ h.at; is_live = h.is_live; holds = h.holds; away = h.away }))
      mine
      (λ u f _. right_still k.actual k.actual.history k.actual.score (get_or s.words 0 0) (get_or s.words 1 0) (get_or s.words 0 0) m u f (starts_same k.actual.history) refl (le_same k.actual.score) higher f.holds)
      below (starts_same k.actual.history) (λ _ _. refl)

  -- the rule is kept by a step on the first word that leaves it
  pub kept_unmoved : (s : St) (k : Rule s) (id : ℕ) (v w : View E) → get_elem? s.views id ≡ some v → v.is_live ≡ true → w.number ≡ v.number
      → w.is_live ≡ true → (v.holds ≡ true → w.holds ≡ true)
      → IsRight worker k.actual (get_or s.words 0 0) (get_or s.words 1 0) w
      → Rule (table (set s.words 0 (get_or s.words 0 0)) s.homes (set s.views id w))
  kept_unmoved s k id v w at live num alive keep mine =
      let same : set s.words 0 (get_or s.words 0 0) ≡ s.words = set-get_or s.words 0 0 in
      kept_word s k id v w (set s.words 0 (get_or s.words 0 0)) (get_or s.words 1 0) at live num alive keep (ap length same ∙ k.width) (ap (λ (l : List ℕ). get_or l 0 0) same) (ap (λ (l : List ℕ). get_or l 1 0) same)
      (le_same (mark_of (get_or s.words 1 0))) k.marked mine

  -- a try keeps the rule, whatever it finds
  pub tries : (slots id : ℕ) (m : Me (Option T) (View E)) (new : ℕ) → m.0.holds ≡ false → m.0.is_live ≡ true → new ≡ m.0.number + 1
      → Allows Rule slots id m 0 (λ n. either (eqb n 0) new n) (Tries history worker score fixed (step slots 0 0 new none) m)
  tries slots id m new idle live is s k wide me _ =
      let v : View E = m.0 in
      let c : Actual E = k.actual in
      let word : ℕ = get_or s.words 0 0 in
      let mark : ℕ = get_or s.words 1 0 in
      let mine : IsRight worker c word mark v = k.right id v me live in
      let long : length s.words ≡ 2 = k.width in
      exchanged word 0 new
      (λ n. (w : View E) × (a : Act (Option T)) × Valid s.homes m.1 a × Rule (stepped s 0 n id m.1 w a) × Tries history worker score fixed (step slots 0 0 new none) m word (w, carried_after m.1 a))
      (λ hit.
      let h = k.free hit in
      let w : View E = after_take v (history h.value) (score h.value) in
      let room : 0 < length s.homes = in_range s.homes 0 (some (Some h.value)) h.is in (
        w,
        takes 0 (Some h.value),
        h.is,
        kept_after s k id v w (set s.words 0 new) new mark (set s.homes 0 none) c.history c.score me live refl
            (length-set s.words 0 new ∙ long) (get_or-set_same s.words 0 new 0 (omega arith)) (get_or-set_other s.words 0 1 new 0 (λ z. omega arith))
            (λ z. absurd (omega arith))
            (λ _. record { seat = id; view = w; at = set_here s.views id w (in_range s.views id v me); is_live = live; holds = refl; away = set_here s.homes 0 none room })
            (record { small = mine.small; sees = mine.sees; opens = mine.opens; mine = mine.mine; fixed = mine.fixed; opening = mine.opening; holds = λ _. (is, h.history_is, h.score_is); floor = mine.floor; last_given = mine.last_given; first = mine.first; other = mine.other })
            (λ u f ne. right_still c c.history c.score word mark new mark u f (starts_same c.history) refl (le_same c.score) (le_same (mark_of mark)) (λ y. absurd (let z = (f.holds y).0 in omega arith)))
            k.marked (starts_same c.history) (λ _ _. refl),
        (
          (λ _. record {
            value = h.value;
            seat = refl;
            sees = subst (λ (x : List E). StartsWith x v.seen) (sym h.history_is) mine.sees;
            opens = subst (λ (x : List E). StartsWith (history h.value) x) (sym mine.opening) (subst (λ (x : List E). StartsWith x c.opening) (sym h.history_is) k.begins);
            mine = mine.mine ∙ ap (entries_by worker v.number) (sym h.history_is);
            fixed_is = mine.fixed ∙ sym h.fixed_is;
            floor = subst (λ (x : ℤ). v.floor ≤ℤ x) (sym h.score_is) (le_trans_ℤ v.floor (mark_of mark) c.score mine.floor k.marked);
          }),
          λ miss. absurd (miss hit),
        ),
      ))
      (λ miss.
      let h = k.held miss in
      let by : ℕ = word - 1 in
      let w : View E = after_refusal v by in
      let theirs : IsRight worker c word mark h.view = k.right h.seat h.view h.at h.is_live in
      let named : word ≡ h.view.number + 1 = (theirs.holds h.holds).0 in
      let small = theirs.small in (
        w,
        keeps,
        tt,
        kept_unmoved s k id v w me live refl live (λ y. y)
            (record { small = mine.small; sees = mine.sees; opens = mine.opens; mine = mine.mine; fixed = mine.fixed; opening = mine.opening; holds = mine.holds; floor = mine.floor; last_given = mine.last_given; first = mine.first; other = mine.other }),
        (
          (λ hit. absurd (miss hit)),
          λ _. record {
            seat = refl;
            other = λ same.
                let num : h.view.number ≡ v.number = omega arith in
                let seat : h.seat ≡ id = k.apart h.seat id h.view v h.at me h.is_live live num in
                let same_view : h.view ≡ v = same_at s.views id h.view v (subst (λ (x : ℕ). get_elem? s.views x ≡ some h.view) seat h.at) me in
                false≢true (sym idle ∙ (ap (λ (x : View E). x.holds) (sym same_view) ∙ h.holds));
            small = omega arith;
            exchange = (refl, refl, is);
          },
        ),
      ))

  -- announcing the number of the next pass keeps the rule
  pub announces : (slots id number : ℕ) (m : Me (Option T) (View E)) → m.0.is_live ≡ true
      → Allows Rule slots id m 0 (λ n. either (eqb n number) number n) (Announces history worker score fixed (step slots 0 number number none) m)
  announces slots id number m live s k wide me _ =
      let v : View E = m.0 in
      let word : ℕ = get_or s.words 0 0 in
      let mine = k.right id v me live in
      let w : View E = after_announcement v number in
      let same : either (eqb word number) number word ≡ word = exchanged word number number (λ x. x ≡ word) sym (λ _. refl) in (
        w,
        keeps,
        tt,
        subst (λ (n : ℕ). Rule (table (set s.words 0 n) s.homes (set s.views id w))) (sym same)
            (kept_unmoved s k id v w me live refl live (λ y. y)
            (record { small = mine.small; sees = mine.sees; opens = mine.opens; mine = mine.mine; fixed = mine.fixed; opening = mine.opening; holds = mine.holds; floor = mine.floor; last_given = mine.last_given; first = mine.first; other = mine.other })),
        refl,
      )

  -- raising the mark to the score that was given last keeps the rule
  pub raises : (slots id word : ℕ) (m : Me (Option T) (View E)) (v : View E) (given : ℤ) → m.0 ≡ v → v.is_live ≡ true → v.last_given ≡ Some given → mark_of word ≡ given
      → Allows Rule slots id m 1 (λ n. max n word) (Raises history worker score fixed (step slots 1 word 0 none) m)
  raises slots id word m v given is live gave code s k wide me _ =
      let me' : get_elem? s.views id ≡ some v = me ∙ ap (λ (x : View E). some x) is in
      let c : Actual E = k.actual in
      let mark : ℕ = get_or s.words 1 0 in
      let mine = k.right id v me' live in
      let w : View E = after_raise v (mark_of word) in
      let new : ℕ = max mark word in
      let up : mark_of mark ≤ℤ mark_of new = mark-mono mark new (omega arith) in
      let up' : mark_of word ≤ℤ mark_of new = mark-mono word new (omega arith) in (
        w,
        keeps,
        tt,
        kept_word s k id v w (set s.words 1 new) new me' live refl live (λ y. y) (length-set s.words 1 new ∙ k.width) (get_or-set_other s.words 1 0 new 0 (λ z. omega arith)) (get_or-set_same s.words 1 new 0 (omega (arith, k.width)))
            up (mark-max mark word c.score k.marked (subst (λ (x : ℤ). x ≤ℤ c.score) (sym code) (mine.last_given given gave)))
            (record { small = mine.small; sees = mine.sees; opens = mine.opens; mine = mine.mine; fixed = mine.fixed; opening = mine.opening; holds = mine.holds; floor = max-below v.floor (mark_of word) (mark_of new) (le_trans_ℤ v.floor (mark_of mark) (mark_of new) mine.floor up) up'; last_given = mine.last_given; first = mine.first; other = mine.other }),
        ap (λ (x : View E). (after_raise x (mark_of word), m.1)) (sym is),
      )

  -- reading the mark keeps the rule
  pub reads : (slots id : ℕ) (m : Me (Option T) (View E)) → m.0.is_live ≡ true
      → Allows Rule slots id m 1 (λ n. n) (Reads history worker score fixed (step slots 1 0 0 none) m)
  reads slots id m live s k wide me _ =
      let v : View E = m.0 in
      let mark : ℕ = get_or s.words 1 0 in
      let mine = k.right id v me live in
      let w : View E = after_reading v (mark_of mark) in
      let same : set s.words 1 mark ≡ s.words = set-get_or s.words 1 0 in (
        w,
        keeps,
        tt,
        kept_word s k id v w (set s.words 1 mark) mark me live refl live (λ y. y) (ap length same ∙ k.width) (ap (λ (l : List ℕ). get_or l 0 0) same) (ap (λ (l : List ℕ). get_or l 1 0) same)
            (le_same (mark_of mark)) k.marked
            (record { small = mine.small; sees = mine.sees; opens = mine.opens; mine = mine.mine; fixed = mine.fixed; opening = mine.opening; holds = mine.holds; floor = le_same (mark_of mark); last_given = mine.last_given; first = mine.first; other = mine.other }),
        (refl, mine.floor),
      )

  -- giving the turn keeps the rule: the value goes home, and the word to 0
  pub gives_back : (slots id : ℕ) (m : Me (Option T) (View E)) (v : View E) (value : T) (more : List E)
      → m ≡ (v, (0, Some value) ∷ []) → v.is_live ≡ true → v.holds ≡ true
      → history value ≡ v.taken ++ more → All (λ e. worker e ≡ v.number) more → fixed value ≡ v.fixed → v.taken_score ≤ℤ score value
      → Allows Rule slots id m 0 (λ _. 0) (λ _. Gives history worker score fixed (step slots 0 0 0 none) m 0)
  gives_back slots id m v value more is live holding grew others fixed_is better =
      subst (λ (x : Me (Option T) (View E)). Allows Rule slots id x 0 (λ _. 0) (λ _. Gives history worker score fixed (step slots 0 0 0 none) x 0)) (sym is)
      (λ s k wide me _.
      let c : Actual E = k.actual in
      let mark : ℕ = get_or s.words 1 0 in
      let mine = k.right id v me live in
      let held = mine.holds holding in
      let word : get_or s.words 0 0 ≡ v.number + 1 = held.0 in
      let away = (k.held (λ z. absurd (omega arith))).away in
      let room : 0 < length s.homes = in_range s.homes 0 none away in
      let past : List E = history value in
      let sc : ℤ = score value in
      let w : View E = after_give worker v past sc in
      let longer : past ≡ c.history ++ more = grew ∙ ap (λ (x : List E). x ++ more) held.1 in
      let grows : StartsWith past c.history = (more, longer) in
      let up : c.score ≤ℤ sc = subst (λ (x : ℤ). x ≤ℤ sc) held.2 better in
      let same : (n : ℕ) → n ≢ v.number → entries_by worker n past ≡ entries_by worker n c.history = λ n ne.
      ap (entries_by worker n) longer ∙ (entries_by-append worker n c.history more ∙ (ap (λ (x : List E). entries_by worker n c.history ++ x) (entries_by-none worker n v.number more others ne) ∙ append-nil (entries_by worker n c.history))) in (
        w,
        gives,
        tt,
        kept_after s k id v w (set s.words 0 0) 0 mark (set s.homes 0 (some (Some value))) past sc me live refl
            (length-set s.words 0 0 ∙ k.width) (get_or-set_same s.words 0 0 0 (omega (arith, k.width))) (get_or-set_other s.words 0 1 0 0 (λ z. omega arith))
            (λ _. record { value = value; is = set_here s.homes 0 (some (Some value)) room; history_is = refl; score_is = refl; fixed_is = fixed_is ∙ mine.fixed })
            (λ ne. absurd (ne refl))
            (record {
              small = mine.small;
              sees = starts_same past;
              opens = starts_trans past c.history c.opening grows k.begins;
              mine = refl;
              fixed = mine.fixed;
              opening = mine.opening;
              holds = λ y. absurd (false≢true y);
              floor = mine.floor;
              last_given = λ g e. subst (λ (x : ℤ). x ≤ℤ sc) (some-same sc g e) (le_same sc);
              first = mine.first;
              other = mine.other;
            })
            (λ u f ne. right_still c past sc (get_or s.words 0 0) mark 0 mark u f grows (same u.number ne) up (le_same (mark_of mark)) (λ y. absurd (let z = (f.holds y).0 in ne (omega arith))))
            (le_trans_ℤ (mark_of mark) c.score sc k.marked up) grows same,
        (λ x e. let one : value ≡ x = some-same value x (ap (λ (l : List (ℕ × Option T)). (get_or l 0 (0, Some value)).1) e) in (
          ap (λ (y : T). (after_give worker v (history y) (score y), [])) one,
          ap (entries_by worker v.number) held.1 ∙ sym mine.mine,
        )),
      ))

  -- the pass's own entries gain what it appended to the history that it took
  pub gives_more : (m n : Me (Option T) (View E)) (v : View E) (value : T) (more : List E) → m ≡ (v, (0, Some value) ∷ [])
      → history value ≡ v.taken ++ more → All (λ e. worker e ≡ v.number) more
      → Gives history worker score fixed (step 1 0 0 0 none) m 0 n
      → n.0.mine ≡ v.mine ++ drop (length v.taken) (history value)
  gives_more m n v value more is grew all told =
      let t = told value (ap (λ (x : Me (Option T) (View E)). x.1) is) in
      let own : entries_by worker v.number v.taken ≡ v.mine = subst (λ (x : Me (Option T) (View E)). entries_by worker x.0.number x.0.taken ≡ x.0.mine) is t.1 in
      ap (λ (x : Me (Option T) (View E)). x.0.mine) t.0
      ∙ (ap (λ (x : Me (Option T) (View E)). entries_by worker x.0.number (history value)) is
      ∙ entries_by-grown worker v.number v.taken more (history value) v.mine grew all own)
