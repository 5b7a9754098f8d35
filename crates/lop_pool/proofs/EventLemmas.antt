-- Journals and their events.
use Rattle.std.proofs.Common.{◌≡◌, ℕ, ◌<◌, ◌⊎◌, inl, inr, List, [], ◌∷◌, ◌++◌, length, get_or, arith, sym, ◌∙◌, refl, ap, subst, Bool, true, false, cond, zero, suc, append-nil, append_assoc, eq-eqb}
use Rattle.std.specs.Prelude.{All, Any, map, filter, ◌==◌}
use Rattle.std.proofs.lemmas.List.Elements.{filter-append}
use Rattle.std.proofs.lemmas.List.Quantifiers.{Any-push}
use Rattle.std.proofs.lemmas.Bool.{false≢true, eqb-true}
use Rattle.lop_core.specs.declared.journal.Entry.{Entry}
use Rattle.lop_core.specs.declared.journal.Entry.TheVariants.{Take, Report}
use Rattle.lop_core.specs.Journal.{worker_of, entries_of, takes, reports, HasTake, HasReport}
use Rattle.lop_turn.specs.Lists.{entries_by}
use Rattle.lop_pool.specs.declared.event.Event.{Event}
use Rattle.lop_pool.specs.Events.{events_after, events_of, event_worker, events_by, IsGrown}

-- ---- one more entry

pub events_after-push : (before journal : List Entry) (e : Entry) → events_after before (journal ++ e ∷ []) ≡ events_after before journal ++ record { before = before ++ journal; entry = e } ∷ []
events_after-push before [] e = ap (λ (b : List Entry). record { before = b; entry = e } ∷ []) (sym (append-nil before))
events_after-push before (x ∷ xs) e =
    let rest = events_after-push (before ++ x ∷ []) xs e in
    ap (λ (vs : List Event). record { before = before; entry = x } ∷ vs)
    (rest ∙ ap (λ (b : List Entry). events_after (before ++ x ∷ []) xs ++ record { before = b; entry = e } ∷ []) (append_assoc before (x ∷ []) xs))

pub events_of-push : (journal : List Entry) (e : Entry) → events_of (journal ++ e ∷ []) ≡ events_of journal ++ record { before = journal; entry = e } ∷ []
events_of-push journal e = events_after-push [] journal e

pub all_one : {X : Type 0} (P : X → Type 0) (x : X) → P x → All P (x ∷ [])
all_one P x p zero d lt = p
all_one P x p (suc k) d lt = absurd (omega arith)

pub grown_same : (worker : ℕ) (journal : List Entry) → IsGrown worker journal journal
grown_same worker journal = ([], sym (append-nil (events_of journal)), λ k d lt. absurd (omega arith))

pub grown_push : (worker : ℕ) (journal new : List Entry) (e : Entry) → new ≡ journal ++ e ∷ [] → worker_of e ≡ worker → IsGrown worker journal new
grown_push worker journal new e is by =
    (record { before = journal; entry = e } ∷ [], ap events_of is ∙ events_of-push journal e, all_one (λ (v : Event). event_worker v ≡ worker) (record { before = journal; entry = e }) by)

cons_all : {X : Type 0} (P : X → Type 0) (x : X) (xs : List X) → P x → All P xs → All P (x ∷ xs)
cons_all P x xs p all zero d lt = p
cons_all P x xs p all (suc k) d lt = all k d (omega arith)

pub all_append : {X : Type 0} (P : X → Type 0) (xs ys : List X) → All P xs → All P ys → All P (xs ++ ys)
all_append P [] ys a b = b
all_append P (x ∷ xs) ys a b = cons_all P x (xs ++ ys) (a zero x (omega arith)) (all_append P xs ys (λ k d lt. a (suc k) d (omega arith)) b)

pub grown_trans : (worker : ℕ) (a b c : List Entry) → IsGrown worker a b → IsGrown worker b c → IsGrown worker a c
grown_trans worker a b c p q =
    (p.0 ++ q.0, q.1 ∙ (ap (λ (vs : List Event). vs ++ q.0) p.1 ∙ append_assoc (events_of a) p.0 q.0), all_append (λ (v : Event). event_worker v ≡ worker) p.0 q.0 p.2 q.2)

-- ---- the entries of a worker and its events

cond_map : (b : Bool) (v : Event) (es : List Entry) (vs : List Event) → es ≡ map (λ (u : Event). u.entry) vs → cond b (v.entry ∷ es) es ≡ map (λ (u : Event). u.entry) (cond b (v ∷ vs) vs)
cond_map true v es vs e = ap (λ (x : List Entry). v.entry ∷ x) e
cond_map false v es vs e = e

entries_after : (worker : ℕ) (before journal : List Entry) → entries_of worker journal ≡ map (λ (u : Event). u.entry) (entries_by event_worker worker (events_after before journal))
entries_after worker before [] = refl
entries_after worker before (x ∷ xs) =
    cond_map (worker_of x == worker) (record { before = before; entry = x }) (entries_of worker xs) (entries_by event_worker worker (events_after (before ++ x ∷ []) xs)) (entries_after worker (before ++ x ∷ []) xs)

-- a worker's events tell its entries
pub entries_told : (worker : ℕ) (journal : List Entry) → entries_of worker journal ≡ map (λ (u : Event). u.entry) (events_by worker journal)
entries_told worker journal = entries_after worker [] journal

pub same_entries : (worker : ℕ) (h j : List Entry) → events_by worker h ≡ events_by worker j → entries_of worker h ≡ entries_of worker j
same_entries worker h j e = entries_told worker h ∙ (ap (map (λ (u : Event). u.entry)) e ∙ sym (entries_told worker j))

-- ---- an event that is there

-- the event is one of these
abbrev pub IsIn : Event → List Event → Type 0
IsIn v [] = ⊥
IsIn v (x ∷ xs) = (x ≡ v) ⊎ IsIn v xs

filter_step : (p : Event → Bool) (v x : Event) (xs : List Event) → (IsIn v (filter p xs) → IsIn v xs × (p v ≡ true)) → (b : Bool) → p x ≡ b → IsIn v (cond b (x ∷ filter p xs) (filter p xs)) → IsIn v (x ∷ xs) × (p v ≡ true)
filter_step p v x xs rest true e h = elim h [ inl same ↦ (inl same, ap p (sym same) ∙ e) | inr more ↦ let r = rest more in (inr r.0, r.1) ]
filter_step p v x xs rest false e h = let r = rest h in (inr r.0, r.1)

-- what a filter keeps was there, and passes
pub in_filter : (p : Event → Bool) (v : Event) (xs : List Event) → IsIn v (filter p xs) → IsIn v xs × (p v ≡ true)
in_filter p v [] h = absurd h
in_filter p v (x ∷ xs) h = filter_step p v x xs (λ q. in_filter p v xs q) (p x) refl h

-- an event that is there stands in the journal, behind the entries before it
pub in_prefix : (v : Event) (before journal : List Entry) → IsIn v (events_after before journal) → (rest : List Entry) × (before ++ journal ≡ (v.before ++ v.entry ∷ []) ++ rest)
in_prefix v before [] h = absurd h
in_prefix v before (x ∷ xs) h = elim h [
  | inl same ↦ (xs, subst (λ (u : Event). before ++ x ∷ xs ≡ (u.before ++ u.entry ∷ []) ++ xs) same (sym (append_assoc before (x ∷ []) xs)))
  | inr more ↦ let r = in_prefix v (before ++ x ∷ []) xs more in (r.0, sym (append_assoc before (x ∷ []) xs) ∙ r.1)
]

-- where the entries have a take of a node, one of the events is it
pub took_at : (node : ℕ) (vs : List Event) (k : ℕ) (x : Entry) → k < length (map (λ (u : Event). u.entry) vs) → get_or (map (λ (u : Event). u.entry) vs) k x ≡ x → takes node x ≡ true → (v : Event) × IsIn v vs × (takes node v.entry ≡ true)
took_at node [] k x lt is p = absurd (omega arith)
took_at node (u ∷ us) zero x lt is p = (u, inl refl, ap (takes node) is ∙ p)
took_at node (u ∷ us) (suc k) x lt is p = let r = took_at node us k x (omega arith) is p in (r.0, inr r.1, r.2)

pub is_take : (worker node : ℕ) (e : Entry) → worker_of e ≡ worker → takes node e ≡ true → e ≡ Take worker node
is_take worker node (Take w n) by t = ap (λ (k : ℕ). Take k n) by ∙ ap (λ (k : ℕ). Take worker k) (eqb-true n node t)
is_take worker node (Report w n bound pair value room) by t = absurd (false≢true t)

-- ---- one more entry, and what a worker took

any_cases : {X : Type 0} (P : X → Type 0) (xs ys : List X) (k : ℕ) (x : X) → k < length (xs ++ ys) → get_or (xs ++ ys) k x ≡ x → P x → Any P xs ⊎ Any P ys
any_cases P [] ys k x lt is p = inr (k, x, lt, is, p)
any_cases P (y ∷ xs) ys zero x lt is p = inl (0, x, omega arith, is, p)
any_cases P (y ∷ xs) ys (suc k) x lt is p = elim (any_cases P xs ys k x (omega arith) is p) [ inl a ↦ inl (suc a.0, a.1, (let l = a.2 in omega arith), a.3, a.4) | inr b ↦ inr b ]

one_at : {X : Type 0} (P : X → Type 0) (e : X) (k : ℕ) (x : X) → k < length (e ∷ []) → get_or (e ∷ []) k x ≡ x → P x → P e
one_at P e zero x lt is p = subst P (sym is) p
one_at P e (suc k) x lt is p = absurd (omega arith)

one_cond : (P : Entry → Type 0) (b : Bool) (e : Entry) → Any P (cond b (e ∷ []) []) → P e
one_cond P true e a = one_at P e a.0 a.1 a.2 a.3 a.4
one_cond P false e a = let l = a.2 in absurd (omega arith)

-- a worker that took a node by one more entry had taken it before, or the entry is the take
pub took_cases : (worker node : ℕ) (journal : List Entry) (e : Entry) → HasTake node (entries_of worker (journal ++ e ∷ [])) → HasTake node (entries_of worker journal) ⊎ (takes node e ≡ true)
took_cases worker node journal e h =
    let P : Entry → Type 0 = λ x. takes node x ≡ true in
    let split : Any (λ x. takes node x ≡ true) (entries_of worker journal ++ entries_of worker (e ∷ [])) = subst (Any (λ x. takes node x ≡ true)) (filter-append (λ x. worker_of x == worker) journal (e ∷ [])) h in
    elim (any_cases (λ x. takes node x ≡ true) (entries_of worker journal) (entries_of worker (e ∷ [])) split.0 split.1 split.2 split.3 split.4)
    [ inl a ↦ inl a | inr b ↦ inr (one_cond (λ x. takes node x ≡ true) (worker_of e == worker) e b) ]

-- a worker that reported a node by one more entry had reported it before, or the entry is the report
pub reported_cases : (worker node : ℕ) (journal : List Entry) (e : Entry) → HasReport node (entries_of worker (journal ++ e ∷ [])) → HasReport node (entries_of worker journal) ⊎ (reports node e ≡ true)
reported_cases worker node journal e h =
    let split : Any (λ x. reports node x ≡ true) (entries_of worker journal ++ entries_of worker (e ∷ [])) = subst (Any (λ x. reports node x ≡ true)) (filter-append (λ x. worker_of x == worker) journal (e ∷ [])) h in
    elim (any_cases (λ x. reports node x ≡ true) (entries_of worker journal) (entries_of worker (e ∷ [])) split.0 split.1 split.2 split.3 split.4)
    [ inl a ↦ inl a | inr b ↦ inr (one_cond (λ x. reports node x ≡ true) (worker_of e == worker) e b) ]

-- after its take of a node a worker has taken it
pub took_last : (worker node : ℕ) (before : List Entry) → HasTake node (entries_of worker (before ++ Take worker node ∷ []))
took_last worker node before =
    let one : entries_of worker (Take worker node ∷ []) ≡ Take worker node ∷ [] = ap (λ (b : Bool). cond b (Take worker node ∷ []) []) (eq-eqb worker worker refl) in
    let two : entries_of worker (before ++ Take worker node ∷ []) ≡ entries_of worker before ++ Take worker node ∷ [] =
    filter-append (λ x. worker_of x == worker) before (Take worker node ∷ []) ∙ ap (λ (es : List Entry). entries_of worker before ++ es) one in
    subst (Any (λ x. takes node x ≡ true)) (sym two) (Any-push (λ x. takes node x ≡ true) (entries_of worker before) (Take worker node) (eq-eqb node node refl))
