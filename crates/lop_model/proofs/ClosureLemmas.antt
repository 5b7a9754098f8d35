-- Closures of lists of pairs, and of one more pair.
use Rattle.std.proofs.Common.{◌≡◌, ◌≢◌, ℕ, ◌+◌, Bool, true, false, eqb, ◌&&◌, ◌||◌, List, [], ◌∷◌, ◌++◌, take, get_or, refl, sym, ◌∙◌, subst, inl, inr, ◌⊎◌, ◌↔◌, arith}
use Rattle.std.specs.Prelude.{IsTrue}
use Rattle.std.proofs.lemmas.Bool.{cases_lt}
use Rattle.std.proofs.lemmas.Bool.Decides.{nat_tests}
use Rattle.std.proofs.lemmas.List.Folds.{list_any-append}
use Rattle.lop_model.specs.declared.pair.Pair.{Pair}
use Rattle.lop_model.specs.Fixings.{has_pair, LeadsTo, one_pair, pair_then, IsClosure, IsUndecided, IsBranchingPrefix, HaveSameExtensions}
use Rattle.lop_model.proofs.FixingsLemmas.{chain-trans, IsLinearExtension-closure, IsLinearExtension-from_closure}

-- ---- tests

left_is : (p q : Bool) → IsTrue p → IsTrue (p || q)
left_is p q t = grind arith

right_is : (p q : Bool) → IsTrue q → IsTrue (p || q)
right_is true q t = refl
right_is false q t = t

or_cases : (p q : Bool) → IsTrue (p || q) → IsTrue p ⊎ IsTrue q
or_cases true q t = inl refl
or_cases false q t = inr t

and_parts : (p q : Bool) → IsTrue (p && q) → IsTrue p × IsTrue q
and_parts true true t = (refl, refl)
and_parts true false t = absurd (cc)
and_parts false q t = absurd (cc)

both_true : (p q : Bool) → IsTrue p → IsTrue q → IsTrue (p && q)
both_true p q t u = grind arith

same_from_test : (a b : ℕ) → IsTrue (eqb a b) → a ≡ b
same_from_test a b e = grind (arith, nat_tests)

test_from_same : (a b : ℕ) → a ≡ b → IsTrue (eqb a b)
test_from_same a b e = grind (arith, nat_tests)

-- ---- two lists one after the other

pub has_pair-append : (F G : List Pair) (x y : ℕ) → has_pair (F ++ G) x y ≡ (has_pair F x y || has_pair G x y)
has_pair-append F G x y = list_any-append (λ p. eqb p.before x && eqb p.after y) F G

pub has_pair-append_cases : (F G : List Pair) (x y : ℕ) → IsTrue (has_pair (F ++ G) x y) → IsTrue (has_pair F x y) ⊎ IsTrue (has_pair G x y)
has_pair-append_cases F G x y t = or_cases (has_pair F x y) (has_pair G x y) (sym (has_pair-append F G x y) ∙ t)

pub has_pair-append_left : (F G : List Pair) (x y : ℕ) → IsTrue (has_pair F x y) → IsTrue (has_pair (F ++ G) x y)
has_pair-append_left F G x y t = has_pair-append F G x y ∙ left_is (has_pair F x y) (has_pair G x y) t

pub has_pair-append_right : (F G : List Pair) (x y : ℕ) → IsTrue (has_pair G x y) → IsTrue (has_pair (F ++ G) x y)
has_pair-append_right F G x y t = has_pair-append F G x y ∙ right_is (has_pair F x y) (has_pair G x y) t

-- a chain of F is one of F and more pairs
pub chain-more : {F : List Pair} (G : List Pair) {x y : ℕ} → LeadsTo F x y → LeadsTo (F ++ G) x y
chain-more {F} G {x} {y} (one_pair h) = one_pair (has_pair-append_left F G x y h)
chain-more {F} G {x} {y} (pair_then {b = m} h r) = pair_then (has_pair-append_left F G x m h) (chain-more G r)

-- ---- one more pair

one_more : (h : Bool) (a b x y : ℕ) → IsTrue (h || ((eqb a x && eqb b y) || false)) → IsTrue h ⊎ ((x ≡ a) × (y ≡ b))
one_more true a b x y t = inl refl
one_more false a b x y t = inr (grind (arith, nat_tests))

pub has_pair-more_cases : (F : List Pair) (p : Pair) (x y : ℕ) → IsTrue (has_pair (F ++ p ∷ []) x y) → IsTrue (has_pair F x y) ⊎ ((x ≡ p.before) × (y ≡ p.after))
has_pair-more_cases F p x y t = one_more (has_pair F x y) p.before p.after x y (sym (has_pair-append F (p ∷ []) x y) ∙ t)

itself : (a b : ℕ) → IsTrue ((eqb a a && eqb b b) || false)
itself a b = grind (arith, nat_tests)

pub has_pair-more_new : (F : List Pair) (p : Pair) → IsTrue (has_pair (F ++ p ∷ []) p.before p.after)
has_pair-more_new F p = has_pair-append_right F (p ∷ []) p.before p.after (itself p.before p.after)

-- ---- what is related after the pair (a, b) joined

module _ (h : ℕ → ℕ → Bool) (a b : ℕ) where
  -- x and y were related, or a stands at x or after it, and y at b or after it
  abbrev Related : ℕ → ℕ → Type 0
  Related x y = IsTrue (h x y) ⊎ (((x ≡ a) ⊎ IsTrue (h x a)) × ((y ≡ b) ⊎ IsTrue (h b y)))

  end_cases : (p q : ℕ) (t : Bool) → IsTrue (eqb p q || t) → (p ≡ q) ⊎ IsTrue t
  end_cases p q t w = elim (or_cases (eqb p q) t w) [ inl e ↦ inl (same_from_test p q e) | inr k ↦ inr k ]

  end_test : (p q : ℕ) (t : Bool) → (p ≡ q) ⊎ IsTrue t → IsTrue (eqb p q || t)
  end_test p q t (inl e) = left_is (eqb p q) t (test_from_same p q e)
  end_test p q t (inr k) = right_is (eqb p q) t k

  related_from_test : (x y : ℕ) → IsTrue (h x y || ((eqb x a || h x a) && (eqb y b || h b y))) → Related x y
  related_from_test x y t = elim (or_cases (h x y) ((eqb x a || h x a) && (eqb y b || h b y)) t) [
    | inl k ↦ inl k
    | inr w ↦ let parts = and_parts (eqb x a || h x a) (eqb y b || h b y) w in inr (end_cases x a (h x a) parts.0, end_cases y b (h b y) parts.1)
  ]

  test_from_related : (x y : ℕ) → Related x y → IsTrue (h x y || ((eqb x a || h x a) && (eqb y b || h b y)))
  test_from_related x y (inl k) = left_is (h x y) ((eqb x a || h x a) && (eqb y b || h b y)) k
  test_from_related x y (inr w) = right_is (h x y) ((eqb x a || h x a) && (eqb y b || h b y)) (both_true (eqb x a || h x a) (eqb y b || h b y) (end_test x a (h x a) w.0) (end_test y b (h b y) w.1))

-- h is the test of a list that is closed under F, and k relates what h does and what the pair p joins
module _ (h k : ℕ → ℕ → Bool) (p : Pair) (F : List Pair) (closed : (x y : ℕ) → IsTrue (h x y) ↔ LeadsTo F x y) (joined : (x y : ℕ) → k x y ≡ (h x y || ((eqb x p.before || h x p.before) && (eqb y p.after || h p.after y)))) where
  trans : {x m y : ℕ} → IsTrue (h x m) → IsTrue (h m y) → IsTrue (h x y)
  trans {x} {m} {y} t u = (closed x y).1 (chain-trans ((closed x m).0 t) ((closed m y).0 u))

  chain_from_related : (x y : ℕ) → Related h p.before p.after x y → LeadsTo (F ++ p ∷ []) x y
  chain_from_related x y (inl t) = chain-more (p ∷ []) ((closed x y).0 t)
  chain_from_related x y (inr w) =
      let G = p ∷ [] in
      let new : LeadsTo (F ++ G) p.before p.after = one_pair (has_pair-more_new F p) in
      let start : LeadsTo (F ++ G) x p.after = elim w.0 [
        | inl e ↦ subst (λ z. LeadsTo (F ++ G) z p.after) (sym e) new
        | inr t ↦ chain-trans (chain-more G ((closed x p.before).0 t)) new
      ] in
      elim w.1 [
        | inl e ↦ subst (λ z. LeadsTo (F ++ G) x z) (sym e) start
        | inr t ↦ chain-trans start (chain-more G ((closed p.after y).0 t))
      ]

  left_edge : (x m y : ℕ) → IsTrue (h x m) → Related h p.before p.after m y → Related h p.before p.after x y
  left_edge x m y t (inl u) = inl (trans t u)
  left_edge x m y t (inr w) = inr (elim w.0 [ inl e ↦ inr (subst (λ z. IsTrue (h x z)) e t) | inr u ↦ inr (trans t u) ], w.1)

  new_edge : (y : ℕ) → Related h p.before p.after p.after y → Related h p.before p.after p.before y
  new_edge y (inl u) = inr (inl refl, inr u)
  new_edge y (inr w) = inr (inl refl, w.1)

  related_from_chain : {x y : ℕ} → LeadsTo (F ++ p ∷ []) x y → Related h p.before p.after x y
  related_from_chain {x} {y} (one_pair t) = elim (has_pair-more_cases F p x y t) [
    | inl u ↦ inl ((closed x y).1 (one_pair u))
    | inr e ↦ inr (inl e.0, inl e.1)
  ]
  related_from_chain {x} {y} (pair_then {b = m} t r) =
      let rest : Related h p.before p.after m y = related_from_chain r in
      elim (has_pair-more_cases F p x m t) [
        | inl u ↦ left_edge x m y ((closed x m).1 (one_pair u)) rest
        | inr e ↦ subst (λ z. Related h p.before p.after z y) (sym e.0) (new_edge y (subst (λ z. Related h p.before p.after z y) e.1 rest))
      ]

  -- what is related now is what a chain of F and the new pair joins
  pub closed_more : (x y : ℕ) → IsTrue (k x y) ↔ LeadsTo (F ++ p ∷ []) x y
  closed_more x y = (
    λ t. chain_from_related x y (related_from_test h p.before p.after x y (sym (joined x y) ∙ t)),
    λ r. joined x y ∙ test_from_related h p.before p.after x y (related_from_chain r),
  )

  -- and there is no cycle, where there was none and the pair is of two objects of which the second didn't lead to the first
  pub no_cycle_more : p.before ≢ p.after → (IsTrue (h p.after p.before) → ⊥) → ((x : ℕ) → IsTrue (h x x) → ⊥) → (x : ℕ) → IsTrue (k x x) → ⊥
  no_cycle_more differ fresh none x t = elim (related_from_test h p.before p.after x x (sym (joined x x) ∙ t)) [
    | inl u ↦ none x u
    | inr w ↦ elim w.0 [
      | inl e ↦ elim w.1 [ inl f ↦ differ (sym e ∙ f) | inr u ↦ fresh (subst (λ z. IsTrue (h p.after z)) e u) ]
      | inr u ↦ elim w.1 [ inl f ↦ fresh (subst (λ z. IsTrue (h z p.before)) f u) | inr v ↦ fresh (trans v u) ]
    ]
  ]

-- ---- closures of closures

chain_through : {F G : List Pair} (H : List Pair) → IsClosure F G → {x y : ℕ} → LeadsTo (G ++ H) x y → LeadsTo (F ++ H) x y
chain_through {F} {G} H c {x} {y} (one_pair t) = elim (has_pair-append_cases G H x y t) [
  | inl u ↦ chain-more H ((c.each x y).0 u)
  | inr u ↦ one_pair (has_pair-append_right F H x y u)
]
chain_through {F} {G} H c {x} {y} (pair_then {b = m} t r) = elim (has_pair-append_cases G H x m t) [
  | inl u ↦ chain-trans (chain-more H ((c.each x m).0 u)) (chain_through H c r)
  | inr u ↦ pair_then (has_pair-append_right F H x m u) (chain_through H c r)
]

edge_back : {F G : List Pair} (H : List Pair) → IsClosure F G → (x y : ℕ) → IsTrue (has_pair (F ++ H) x y) → IsTrue (has_pair (G ++ H) x y)
edge_back {F} {G} H c x y t = elim (has_pair-append_cases F H x y t) [
  | inl u ↦ has_pair-append_left G H x y ((c.each x y).1 (one_pair u))
  | inr u ↦ has_pair-append_right G H x y u
]

chain_back : {F G : List Pair} (H : List Pair) → IsClosure F G → {x y : ℕ} → LeadsTo (F ++ H) x y → LeadsTo (G ++ H) x y
chain_back H c {x} {y} (one_pair t) = one_pair (edge_back H c x y t)
chain_back H c {x} {y} (pair_then {b = m} t r) = pair_then (edge_back H c x m t) (chain_back H c r)

-- a closure of a closure of F and more pairs is a closure of F and those
pub IsClosure-through : (F G H K : List Pair) → IsClosure F G → IsClosure (G ++ H) K → IsClosure (F ++ H) K
IsClosure-through F G H K c d = record { each = λ x y. (λ t. chain_through H c ((d.each x y).0 t), λ r. (d.each x y).1 (chain_back H c r)); rising = d.rising }

chain_inside : {F G : List Pair} → IsClosure F G → {x y : ℕ} → LeadsTo G x y → LeadsTo F x y
chain_inside c {x} {y} (one_pair t) = (c.each x y).0 t
chain_inside c {x} {y} (pair_then {b = m} t r) = chain-trans ((c.each x m).0 t) (chain_inside c r)

-- a closure is closed itself
pub IsClosure-itself : (F G : List Pair) → IsClosure F G → IsClosure G G
IsClosure-itself F G c = record { each = λ x y. (λ t. one_pair t, λ r. (c.each x y).1 (chain_inside c r)); rising = c.rising }

-- no pairs make no chain
pub no_chain : {a b : ℕ} → LeadsTo [] a b → ⊥
no_chain (one_pair t) = absurd (cc)
no_chain (pair_then t r) = absurd (cc)

-- no pairs are the closure of no pairs
pub IsClosure-none : IsClosure [] []
IsClosure-none = record { each = λ a b. (λ t. absurd (cc), λ r. absurd (no_chain r)); rising = λ i j d l m. absurd (omega arith) }

-- the orders that extend F are those that extend its closure
pub HaveSameExtensions-closure : (F G : List Pair) → IsClosure F G → HaveSameExtensions F G
HaveSameExtensions-closure F G c = record { each = λ s. (IsLinearExtension-closure s F G c, IsLinearExtension-from_closure s F G c) }

-- ---- between chains of F and its closure

pub IsUndecided-closure : (n : ℕ) (F G : List Pair) (a b : ℕ) → IsClosure F G → IsUndecided n G a b → IsUndecided n F a b
IsUndecided-closure n F G a b c u = record {
  first = u.first;
  second = u.second;
  differ = u.differ;
  not_before = λ r. u.not_before (one_pair ((c.each a b).1 r));
  not_after = λ r. u.not_after (one_pair ((c.each b a).1 r));
}

-- ---- paths

pub IsBranchingPrefix-more : (n : ℕ) (path : List Pair) (k : ℕ) → IsBranchingPrefix n path k → ((p : Pair) → IsUndecided n (take k path) (get_or path k p).before (get_or path k p).after) → IsBranchingPrefix n path (k + 1)
IsBranchingPrefix-more n path k h u = record {
  each = λ i p l. elim (cases_lt i k) [
    | inl before ↦ h.each i p before
    | inr here ↦ let e : k ≡ i = omega arith in subst (λ j. IsUndecided n (take j path) (get_or path j p).before (get_or path j p).after) e (u p)
  ];
}
