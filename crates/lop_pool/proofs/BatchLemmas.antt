-- The parcels of a worker: what it has of them after a report, after a node was handed out, and after tickets were judged.
use Rattle.std.proofs.Common.{◌≡◌, ◌≢◌, ℕ, ◌+◌, ◌<◌, ◌≤◌, inl, inr, List, [], ◌∷◌, ◌++◌, length, get_or, set, take, drop, arith, refl, sym, ◌∙◌, ap, subst, zero, suc}
use Rattle.std.proofs.Math.Seq.{take-append_seam}
use Rattle.std.proofs.lemmas.List.{get_or-set_same, get_or-set_other}
use Rattle.std.proofs.lemmas.Bool.{cases_eq}
use Rattle.lop_model.specs.Matrix.{Matrix}
use Rattle.lop_leaf.specs.Ticket.{TicketFields}
use Rattle.lop_leaf.specs.Evaluated.{EvaluatedFields}
use Rattle.lop_leaf.specs.Sound.{IsSoundTicket}
use Rattle.lop_core.specs.Tree.{node_at, path_of}
use Rattle.lop_core.specs.Machine.{SearchState, IsOutTo}
use Rattle.lop_pool.specs.declared.parcel.Parcel.{Parcel}
use Rattle.lop_pool.specs.Judged.{Relation, IsJudgedResult}
use Rattle.lop_pool.specs.Holding.{HasNone, HasTicket, HasTickets, HasBeside, IsHanded, AreSoundTickets, AreJudgedParcels, IsLike}
use Rattle.lop_pool.proofs.HoldingLemmas.{judged_result}

element : (xs : List Parcel) (k : ℕ) → k < length xs → Parcel
element [] k lt = absurd (omega arith)
element (x ∷ xs) k lt = x

-- ---- one parcel in place of another

module _ (xs : List Parcel) (k : ℕ) (p : Parcel) (lt : k < length xs) where
  pub here : (P : Parcel → Type 0) (d : Parcel) → P p → P (get_or (set xs k p) k d)
  here P d h = subst P (sym (get_or-set_same xs k p d lt)) h

module _ (xs : List Parcel) (k : ℕ) (p : Parcel) where
  pub elsewhere : (P : Parcel → Type 0) (j : ℕ) (d : Parcel) → j ≢ k → P (get_or xs j d) → P (get_or (set xs k p) j d)
  elsewhere P j d ne h = subst P (sym (get_or-set_other xs k j p d ne)) h

module _ (xs : List Parcel) (k : ℕ) (p : Parcel) (lt : k < length xs) where
  -- what holds of the element at each place before the next holds of those before this one, and of the new one
  pub below_more : (P : Parcel → Type 0) → P p → ((j : ℕ) (d : Parcel) → j < k → P (get_or xs j d)) → (j : ℕ) (d : Parcel) → j < k + 1 → P (get_or (set xs k p) j d)
  below_more P h below j d lj = elim (cases_eq j k) [
    | inl same ↦ subst (λ (i : ℕ). P (get_or (set xs k p) i d)) (sym same) (here xs k p lt P d h)
    | inr other ↦ elsewhere xs k p P j d other (below j d (omega (arith, lj, other)))
  ]

  -- and of those after this one, where it held of them
  pub after_more : (P : Parcel → Type 0) (to : ℕ) → ((j : ℕ) (d : Parcel) → k ≤ j → j < to → P (get_or xs j d)) → (j : ℕ) (d : Parcel) → k + 1 ≤ j → j < to → P (get_or (set xs k p) j d)
  after_more P to after j d lo hi = elsewhere xs k p P j d (omega (arith, lo)) (after j d (omega (arith, lo)) hi)

-- the element at a place that is there is the same whatever stands for one that isn't
pub same_at : (xs : List Parcel) (k : ℕ) (a b : Parcel) → k < length xs → get_or xs k a ≡ get_or xs k b
same_at [] k a b lt = absurd (omega arith)
same_at (x ∷ xs) zero a b lt = refl
same_at (x ∷ xs) (suc k) a b lt = same_at xs k a b (omega arith)

-- ---- a report

-- a ticket beside that of the node
still_has : (worker node : ℕ) (t : TicketFields) (old new : SearchState) → t.node ≢ node → HasBeside worker node old new → HasTicket worker t old → HasTicket worker t new
still_has worker node t old new ne beside has =
    let still = beside.stands t.node ne has.is_out in
    record { is_out = beside.stays t.node ne has.is_out; bound = has.bound ∙ sym still.bound; path = has.path ∙ sym still.path }

pub after_report : (worker : ℕ) (parcels : List Parcel) (k held : ℕ) (found : EvaluatedFields) (old new : SearchState) → k < held → held ≤ length parcels → ((d : Parcel) → found.node ≡ (get_or parcels k d).ticket.node)
    → HasBeside worker found.node old new → ¬ (IsOutTo new worker found.node) → HasTickets worker parcels k held old → HasTickets worker parcels (k + 1) held new
after_report worker parcels k held found old new lt within is beside gone has =
    let one : Parcel = element parcels k (omega (arith, lt, within)) in
    record {
      each = λ j d lo hi.
          let ne : (get_or parcels j d).ticket.node ≢ found.node = λ e. has.apart k j d (omega arith) (omega (arith, lo)) hi (sym (is d) ∙ sym e) in
          still_has worker found.node (get_or parcels j d).ticket old new ne beside (has.each j d (omega (arith, lo)) hi);
      apart = λ i j d lo m hi. has.apart i j d (omega (arith, lo)) m hi;
      only = λ node out. elim (cases_eq node found.node) [
        | inl same ↦ absurd (gone (subst (IsOutTo new worker) same out))
        | inr other ↦
            let r = has.only node (beside.had node other out) in
            let ne : r.0 ≢ k = λ e. other (sym (r.3 one) ∙ (ap (λ (i : ℕ). (get_or parcels i one).ticket.node) e ∙ sym (is one))) in
            (r.0, omega (arith, r.1, ne), r.2, r.3)
      ];
    }

-- a parcel that is held has a result to report
pub held_result : (judged : Relation) (C : Matrix) (worker : ℕ) (parcels : List Parcel) (k held : ℕ) (d : Parcel) (s : SearchState) → k < held → HasTickets worker parcels k held s → AreJudgedParcels judged C parcels held
    → IsOutTo s worker (get_or parcels k d).found.node × IsJudgedResult judged C s (get_or parcels k d).found
held_result judged C worker parcels k held d s lt has results =
    let t = has.each k d (omega arith) lt in
    let r = results k d lt in
    (subst (IsOutTo s worker) (sym r.sound.node) t.is_out, judged_result judged C s (get_or parcels k d).ticket (get_or parcels k d).found t.bound t.path r.sound r.shown)

-- a result is of its ticket's node
pub held_node : (judged : Relation) (C : Matrix) (parcels : List Parcel) (k held : ℕ) (d : Parcel) → k < held → held ≤ length parcels → AreJudgedParcels judged C parcels held → (e : Parcel) → (get_or parcels k d).found.node ≡ (get_or parcels k e).ticket.node
held_node judged C parcels k held d lt within results e = (results k d lt).sound.node ∙ ap (λ (q : Parcel). q.ticket.node) (same_at parcels k d e (omega (arith, lt, within)))

pub none_left : (worker : ℕ) (parcels : List Parcel) (k held : ℕ) (s : SearchState) → held ≤ k → HasTickets worker parcels k held s → HasNone worker s
none_left worker parcels k held s le has = λ node out. let r = has.only node out in absurd (omega (arith, le, r.1, r.2))

-- ---- nodes that are handed out

pub no_tickets : (worker : ℕ) (parcels : List Parcel) (s : SearchState) → HasNone worker s → HasTickets worker parcels 0 0 s
no_tickets worker parcels s none = record {
  each = λ k d lo hi. absurd (omega (arith, hi));
  apart = λ j k d lo m hi. absurd (omega (arith, hi));
  only = λ node out. absurd (none node out);
}

pub after_hand : (worker : ℕ) (parcels : List Parcel) (k : ℕ) (p : Parcel) (old new : SearchState) → k < length parcels → IsHanded worker p.ticket old new → HasTickets worker parcels 0 k old → HasTickets worker (set parcels k p) 0 (k + 1) new
after_hand worker parcels k p old new lt handed has =
    let apart : (i : ℕ) (d : Parcel) → i < k → (get_or parcels i d).ticket.node ≢ p.ticket.node = λ i d li e. handed.fresh (subst (IsOutTo old worker) e (has.each i d (omega arith) li).is_out) in
    record {
      each = λ j d lo hi. elim (cases_eq j k) [
        | inl same ↦ subst (λ (i : ℕ). HasTicket worker (get_or (set parcels k p) i d).ticket new) (sym same) (here parcels k p lt (λ (q : Parcel). HasTicket worker q.ticket new) d handed.has)
        | inr other ↦
            let li : j < k = omega (arith, hi, other) in
            elsewhere parcels k p (λ (q : Parcel). HasTicket worker q.ticket new) j d other (still_has worker p.ticket.node (get_or parcels j d).ticket old new (apart j d li) handed.beside (has.each j d lo li))
      ];
      apart = λ i j d lo m hi.
          let ni : i ≢ k = omega (arith, m, hi) in
          elim (cases_eq j k) [
            | inl same ↦
                subst (λ (n : ℕ). (get_or (set parcels k p) i d).ticket.node ≢ (get_or (set parcels k p) n d).ticket.node) (sym same)
                (elsewhere parcels k p (λ (q : Parcel). q.ticket.node ≢ (get_or (set parcels k p) k d).ticket.node) i d ni
                (here parcels k p lt (λ (q : Parcel). (get_or parcels i d).ticket.node ≢ q.ticket.node) d (apart i d (omega (arith, m, same)))))
            | inr other ↦
                elsewhere parcels k p (λ (q : Parcel). q.ticket.node ≢ (get_or (set parcels k p) j d).ticket.node) i d ni
                (elsewhere parcels k p (λ (q : Parcel). (get_or parcels i d).ticket.node ≢ q.ticket.node) j d other (has.apart i j d lo m (omega (arith, hi, other))))
          ];
      only = λ node out. elim (cases_eq node p.ticket.node) [
        | inl same ↦ (k, omega arith, omega arith, λ d. here parcels k p lt (λ (q : Parcel). q.ticket.node ≡ node) d (sym same))
        | inr other ↦
            let r = has.only node (handed.beside.had node other out) in
            let ne : r.0 ≢ k = omega (arith, r.2) in
            (r.0, r.1, omega (arith, r.2), λ d. elsewhere parcels k p (λ (q : Parcel). q.ticket.node ≡ node) r.0 d ne (r.3 d))
      ];
    }

-- ---- tickets of the same nodes

pub like_itself : (t : TicketFields) → IsLike t t
like_itself t = record { node = refl; bound = refl; path = refl }

pub like_trans : (t u v : TicketFields) → IsLike t u → IsLike u v → IsLike t v
like_trans t u v a b = record { node = b.node ∙ a.node; bound = b.bound ∙ a.bound; path = b.path ∙ a.path }

like_ticket : (worker : ℕ) (t u : TicketFields) (s : SearchState) → IsLike t u → HasTicket worker t s → HasTicket worker u s
like_ticket worker t u s like has = record {
  is_out = subst (IsOutTo s worker) (sym like.node) has.is_out;
  bound = like.bound ∙ (has.bound ∙ ap (λ (k : ℕ). (node_at s.nodes k).bound) (sym like.node));
  path = like.path ∙ (has.path ∙ ap (λ (k : ℕ). path_of s.nodes k) (sym like.node));
}

pub like_tickets : (worker : ℕ) (parcels later : List Parcel) (to : ℕ) (s : SearchState) → ((k : ℕ) (d : Parcel) → k < to → IsLike (get_or parcels k d).ticket (get_or later k d).ticket) → HasTickets worker parcels 0 to s → HasTickets worker later 0 to s
like_tickets worker parcels later to s like has = record {
  each = λ k d lo hi. like_ticket worker (get_or parcels k d).ticket (get_or later k d).ticket s (like k d hi) (has.each k d lo hi);
  apart = λ j k d lo m hi e. has.apart j k d lo m hi (sym (like j d (omega (arith, m, hi))).node ∙ (e ∙ (like k d hi).node));
  only = λ node out. let r = has.only node out in (r.0, r.1, r.2, λ d. (like r.0 d r.2).node ∙ r.3 d);
}

-- another parcel behind them changes nothing
pub tickets_before : (worker : ℕ) (parcels : List Parcel) (k : ℕ) (p : Parcel) (s : SearchState) → HasTickets worker parcels 0 k s → HasTickets worker (set parcels k p) 0 k s
tickets_before worker parcels k p s has =
    like_tickets worker parcels (set parcels k p) k s
    (λ j d lt. elsewhere parcels k p (λ (q : Parcel). IsLike (get_or parcels j d).ticket q.ticket) j d (omega (arith, lt)) (like_itself (get_or parcels j d).ticket)) has

pub sound_before : (C : Matrix) (parcels : List Parcel) (k : ℕ) (p : Parcel) → AreSoundTickets C parcels k → AreSoundTickets C (set parcels k p) k
sound_before C parcels k p sound = λ j d lt. elsewhere parcels k p (λ (q : Parcel). IsSoundTicket C q.ticket) j d (omega (arith, lt)) (sound j d lt)

-- one ticket more that is like what it was
pub like_set : (first items : List Parcel) (k count : ℕ) (old p : Parcel) → k < length items → k < count → old ≡ get_or items k old → IsLike old.ticket p.ticket
    → ((j : ℕ) (d : Parcel) → j < count → IsLike (get_or first j d).ticket (get_or items j d).ticket) → (j : ℕ) (d : Parcel) → j < count → IsLike (get_or first j d).ticket (get_or (set items k p) j d).ticket
like_set first items k count old p within lk is one like j d lt = elim (cases_eq j k) [
  | inl same ↦
      let was : IsLike (get_or first k d).ticket old.ticket = subst (λ (q : Parcel). IsLike (get_or first k d).ticket q.ticket) (same_at items k d old within ∙ sym is) (like k d lk) in
      subst (λ (i : ℕ). IsLike (get_or first i d).ticket (get_or (set items k p) i d).ticket) (sym same)
      (here items k p within (λ (q : Parcel). IsLike (get_or first k d).ticket q.ticket) d (like_trans (get_or first k d).ticket old.ticket p.ticket was one))
  | inr other ↦ elsewhere items k p (λ (q : Parcel). IsLike (get_or first j d).ticket q.ticket) j d other (like j d lt)
]

-- parcels that were lent as a whole come back as a whole
pub own_back : (n : ℕ) (later items : List Parcel) → length later ≡ n → take n (later ++ drop (length later) items) ≡ later
own_back n later items e = subst (λ (m : ℕ). take m (later ++ drop (length later) items) ≡ later) e (take-append_seam later (drop (length later) items))
