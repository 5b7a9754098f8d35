-- A trail that goes one pair down, and back.
use Rattle.std.proofs.Common.{◌≡◌, ◌↔◌, ℕ, ◌+◌, ◌-◌, ◌*◌, ◌/◌, ◌<◌, ◌≤◌, Bool, true, false, not, cond, eqb, ltb, ◌&&◌, ◌||◌, List, [], ◌∷◌, ◌++◌, length, take, drop, get_or, inl, inr, refl, sym, ◌∙◌, ap, subst, arith}
use Rattle.std.specs.Prelude.{IsTrue}
use Rattle.std.proofs.lemmas.Bool.{cases_lt}
use Rattle.std.proofs.lemmas.Bool.Decides.{nat_tests}
use Rattle.std.proofs.lemmas.List.{length_push, take-append-le, take_at, take_all, get_or_append_left, get_or_push}
use Rattle.lop_model.specs.declared.pair.Pair.{Pair}
use Rattle.lop_model.specs.Cells.{cell}
use Rattle.lop_model.specs.Related.{pairs_of}
use Rattle.lop_model.specs.Closing.{linked, closed}
use Rattle.lop_model.specs.Fixings.{has_pair, LeadsTo, IsClosure, IsUndecided, IsBranchingPath}
use Rattle.lop_model.proofs.ClosureLemmas.{closed_more, no_chain}
use Rattle.lop_model.proofs.BranchingLength.{length-branching}
use Rattle.lop_model.proofs.CellLemmas.{place_within, put_back}
use Rattle.lop_model.proofs.Closings.{IsClosure-closed, chain_below-path}
use Rattle.lop_model.proofs.RelatedPairs.{has_pair-inside, has_pair-below, related-has_pair, pairs_of-none}
use Rattle.lop_model.proofs.RisingPairs.{pairs_of-rising}
use Rattle.lop_check.specs.Trail.{is_fixed, is_within, is_new, is_from, IsTrail, Notes, Takes}

same_tests : (f g : Bool) → (IsTrue f → IsTrue g) → (IsTrue g → IsTrue f) → f ≡ g
same_tests true g p q = sym (p refl)
same_tests false true p q = q refl
same_tests false false p q = refl

-- ---- the last pair of a path

front_is : (front : List Pair) (p : Pair) → take (length front) (front ++ p ∷ []) ≡ front
front_is front p = take_at front (p ∷ []) (length front) refl

last_is : (front : List Pair) (p d : Pair) → get_or (front ++ p ∷ []) (length front) d ≡ p
last_is front p d = get_or_push front p d (length front) refl

pub IsBranchingPath-push : (n : ℕ) (path : List Pair) (p : Pair) → IsBranchingPath n path → IsUndecided n path p.before p.after → IsBranchingPath n (path ++ p ∷ [])
IsBranchingPath-push n path p was u = record {
  each = λ i d l. elim (cases_lt i (length path)) [
    | inl before ↦ rw (take-append-le i path (p ∷ []) (omega arith), get_or_append_left path (p ∷ []) d i before) (was.each i d before)
    | inr last ↦
        let here : i ≡ length path = omega (arith, length_push path p) in
        rw (here, front_is path p, last_is path p d) u
  ];
}

pub IsBranchingPath-front : (n : ℕ) (front : List Pair) (p : Pair) → IsBranchingPath n (front ++ p ∷ []) → IsBranchingPath n front
IsBranchingPath-front n front p was = record {
  each = λ i d l.
      let u = was.each i d (omega (arith, length_push front p)) in
      rw (take-append-le i front (p ∷ []) (omega arith), get_or_append_left front (p ∷ []) d i l) at u;
}

pub last_undecided : (n : ℕ) (front : List Pair) (p : Pair) → IsBranchingPath n (front ++ p ∷ []) → IsUndecided n front p.before p.after
last_undecided n front p was =
    let u = was.each (length front) p (omega (arith, length_push front p)) in
    rw (front_is front p, last_is front p p) at u

-- ---- what a trail fixes

positive_within : (c k : ℕ) → c ≤ k → is_within k c ≡ ltb 0 c
positive_within c k l = grind (arith, nat_tests)

module _ (n : ℕ) (path : List Pair) (capacity : ℕ) (t : List ℕ) (is : IsTrail n path capacity t) where
  fixed_chain : (x y : ℕ) → x < n → y < n → IsTrue (is_fixed t n x y) ↔ LeadsTo path x y
  fixed_chain x y l m =
      let same : is_within (length path) (cell t n x y) ≡ is_fixed t n x y = positive_within (cell t n x y) (length path) (is.most x y l m) in
      let all : take (length path) path ≡ path = take_all (length path) path (omega arith) in
      let each = is.each (length path) x y (omega arith) l m in (
        λ u. subst (λ (F : List Pair). LeadsTo F x y) all (each.0 (same ∙ u)),
        λ r. sym same ∙ each.1 (subst (λ (F : List Pair). LeadsTo F x y) (sym all) r),
      )

  pub closure_of : IsClosure path (pairs_of n (is_fixed t n))
  closure_of = record {
    each = λ a b. (
      λ u. let within = has_pair-below n (is_fixed t n) a b u in (fixed_chain a b within.0 within.1).0 (related-has_pair n (is_fixed t n) a b u),
      λ r. let within = chain_below-path n path is.branching a b r in has_pair-inside n (is_fixed t n) a b within.0 within.1 ∙ (fixed_chain a b within.0 within.1).1 r,
    );
    rising = pairs_of-rising n (is_fixed t n);
  }

  fixed_is : (x y : ℕ) → x < n → y < n → is_fixed t n x y ≡ has_pair (closed path) x y
  fixed_is x y l m =
      let c = (IsClosure-closed path).each x y in
      let f = fixed_chain x y l m in
      same_tests (is_fixed t n x y) (has_pair (closed path) x y) (λ u. c.1 (f.0 u)) (λ u. f.1 (c.0 u))

  -- an undecided pair isn't fixed the other way round
  pub not_fixed_back : (a b : ℕ) → IsUndecided n path a b → is_fixed t n b a ≡ false
  not_fixed_back a b u = none (is_fixed t n b a) (λ e. u.not_after ((fixed_chain b a u.second u.first).0 e))
    where
      none : (s : Bool) → (IsTrue s → ⊥) → s ≡ false
      none true h = absurd (h refl)
      none false h = refl

-- ---- the empty path

pub IsTrail-none : (n capacity : ℕ) (t : List ℕ) → n * (n - 1) / 2 ≤ capacity → length t ≡ n * n → ((k : ℕ) → k < length t → get_or t k 0 ≡ 0) → IsTrail n [] capacity t
IsTrail-none n capacity t enough square zeros =
    let none : (a b : ℕ) → a < n → b < n → cell t n a b ≡ 0 = λ a b l m. zeros (a * n + b) (omega (arith, square, place_within n a b l m)) in
    record {
      branching = record { each = λ i d l. absurd (omega arith) };
      fits = enough;
      square = square;
      most = λ a b l m. omega (arith, none a b l m);
      each = λ k a b h l m. (λ u. absurd (nowhere (cell t n a b) k (none a b l m) u), λ r. absurd (no_pairs k a b r));
    }
  where
    nowhere : (c k : ℕ) → c ≡ 0 → IsTrue (is_within k c) → ⊥
    nowhere c k e u = grind (arith, nat_tests)

    no_pairs : (k a b : ℕ) → LeadsTo (take k []) a b → ⊥
    no_pairs k a b r = let empty : take k [] ≡ [] = take_all k [] (omega arith) in no_chain (subst (λ (F : List Pair). LeadsTo F a b) empty r)

pub fixed-none : (n : ℕ) (t : List ℕ) → length t ≡ n * n → ((k : ℕ) → k < length t → get_or t k 0 ≡ 0) → pairs_of n (is_fixed t n) ≡ []
fixed-none n t square zeros = pairs_of-none n (is_fixed t n) (λ a b l m. ap (λ (c : ℕ). ltb 0 c) (zeros (a * n + b) (omega (arith, square, place_within n a b l m))))

-- ---- one pair down

new_within : (o len : ℕ) (s q : Bool) → o ≤ len → is_within (len + 1) (cond (s && (not (ltb 0 o) && q)) (len + 1) o) ≡ (ltb 0 o || (s && q))
new_within o len s q l = grind (arith, nat_tests)

old_within : (o k len : ℕ) (s q : Bool) → k ≤ len → o ≤ len → is_within k (cond (s && (not (ltb 0 o) && q)) (len + 1) o) ≡ is_within k o
old_within o k len s q h l = grind (arith, nat_tests)

most_after : (o len : ℕ) (t : Bool) → o ≤ len → cond t (len + 1) o ≤ len + 1
most_after o len true l = omega arith
most_after o len false l = omega arith

module _ (n : ℕ) (path : List Pair) (capacity : ℕ) (old new : List ℕ) (p : Pair) (is : IsTrail n path capacity old) (u : IsUndecided n path p.before p.after) (notes : Notes old new n p.before p.after (length path + 1)) where
  h : ℕ → ℕ → Bool
  h = has_pair (closed path)

  linked_is : (x y : ℕ) → x < n → y < n → is_within (length path + 1) (cell new n x y) ≡ linked (has_pair (closed path)) p x y
  linked_is x y l m =
      ap (is_within (length path + 1)) (notes.each x y l m)
      ∙ new_within (cell old n x y) (length path) (is_from old n p.before x) (eqb y p.after || is_fixed old n p.after y) (is.most x y l m)
      ∙ ap (λ (s : Bool). s || (is_from old n p.before x && (eqb y p.after || is_fixed old n p.after y))) (fixed_is n path capacity old is x y l m)
      ∙ ap (λ (s : Bool). has_pair (closed path) x y || ((eqb x p.before || s) && (eqb y p.after || is_fixed old n p.after y))) (fixed_is n path capacity old is x p.before l u.first)
      ∙ ap (λ (s : Bool). has_pair (closed path) x y || ((eqb x p.before || has_pair (closed path) x p.before) && (eqb y p.after || s))) (fixed_is n path capacity old is p.after y u.second m)

  each_after : (k x y : ℕ) → k ≤ length (path ++ p ∷ []) → x < n → y < n → IsTrue (is_within k (cell new n x y)) ↔ LeadsTo (take k (path ++ p ∷ [])) x y
  each_after k x y short l m = elim (cases_lt k (length path + 1)) [
    | inl before ↦
        let same : is_within k (cell new n x y) ≡ is_within k (cell old n x y) = ap (is_within k) (notes.each x y l m) ∙ old_within (cell old n x y) k (length path) (is_from old n p.before x) (eqb y p.after || is_fixed old n p.after y) (omega arith) (is.most x y l m) in
        rw (same, take-append-le k path (p ∷ []) (omega arith)) (is.each k x y (omega arith) l m)
    | inr last ↦
        let here : k ≡ length path + 1 = omega (arith, length_push path p) in
        let all : take (length path + 1) (path ++ p ∷ []) ≡ path ++ p ∷ [] = take_all (length path + 1) (path ++ p ∷ []) (omega (arith, length_push path p)) in
        rw (here, all, linked_is x y l m) (closed_more (has_pair (closed path)) (linked (has_pair (closed path)) p) p path (IsClosure-closed path).each (λ _ _. refl) x y)
  ]

  pub IsTrail-descend : (space : ℕ) → n * (n - 1) / 2 ≤ space → IsTrail n (path ++ p ∷ []) space new
  IsTrail-descend space enough = record {
    branching = IsBranchingPath-push n path p is.branching u;
    fits = enough;
    square = notes.same_length ∙ is.square;
    most = λ a b l m. let e = notes.each a b l m in let f = most_after (cell old n a b) (length path) (is_from old n p.before a && is_new old n p.after a b) (is.most a b l m) in omega (arith, e, f, length_push path p);
    each = each_after;
  }

-- ---- and back

back_within : (o k d : ℕ) (s : Bool) → k < d → is_within k (cond (s && eqb o d) 0 o) ≡ is_within k o
back_within o k d s l = grind (arith, nat_tests)

back_most : (o d : ℕ) (s : Bool) → o ≤ d + 1 → (o ≡ d + 1 → s ≡ true) → cond (s && eqb o (d + 1)) 0 o ≤ d
back_most o d s l h = grind (arith, nat_tests)

from_or : (p s q : Bool) → p ≡ false → IsTrue (p || (s && q)) → s ≡ true
from_or p true q e u = refl
from_or p false q e u = absurd (by p q e u)
  where
    by : (p q : Bool) → p ≡ false → IsTrue (p || (false && q)) → ⊥
    by p q e u = grind arith

module _ (n : ℕ) (front : List Pair) (capacity : ℕ) (old new : List ℕ) (p : Pair) (is : IsTrail n (front ++ p ∷ []) capacity old) (takes : Takes old new n p.before (length front + 1)) where
  longer : length (front ++ p ∷ []) ≡ length front + 1
  longer = length_push front p

  u : IsUndecided n front p.before p.after
  u = last_undecided n front p is.branching

  front_chain : (x y : ℕ) → x < n → y < n → IsTrue (is_within (length front) (cell old n x y)) ↔ LeadsTo front x y
  front_chain x y l m = subst (λ (F : List Pair). IsTrue (is_within (length front) (cell old n x y)) ↔ LeadsTo F x y) (front_is front p) (is.each (length front) x y (omega (arith, longer)) l m)

  -- what the last pair fixed stands in a row from which its first object is reached
  from_row : (x y : ℕ) → x < n → y < n → cell old n x y ≡ length front + 1 → is_from old n p.before x ≡ true
  from_row x y l m last =
      let all : take (length front + 1) (front ++ p ∷ []) ≡ front ++ p ∷ [] = take_all (length front + 1) (front ++ p ∷ []) (omega (arith, longer)) in
      let chain : LeadsTo (front ++ p ∷ []) x y = subst (λ (F : List Pair). LeadsTo F x y) all ((is.each (length front + 1) x y (omega (arith, longer)) l m).0 (at_depth (cell old n x y) (length front + 1) last (omega arith))) in
      let test : IsTrue (linked (has_pair (closed front)) p x y) = (closed_more (has_pair (closed front)) (linked (has_pair (closed front)) p) p front (IsClosure-closed front).each (λ _ _. refl) x y).1 chain in
      let not_before : has_pair (closed front) x y ≡ false = none (has_pair (closed front) x y) (λ t. too_deep (cell old n x y) (length front) last ((front_chain x y l m).1 (((IsClosure-closed front).each x y).0 t))) in
      reached (has_pair (closed front) x p.before) (from_or (has_pair (closed front) x y) (eqb x p.before || has_pair (closed front) x p.before) (eqb y p.after || has_pair (closed front) p.after y) not_before test)
      (λ t. positive (cell old n x p.before) (length front) ((front_chain x p.before l u.first).1 (((IsClosure-closed front).each x p.before).0 t)))
    where
      at_depth : (c d : ℕ) → c ≡ d → 0 < d → IsTrue (is_within d c)
      at_depth c d e l = grind (arith, nat_tests)

      too_deep : (c k : ℕ) → c ≡ k + 1 → IsTrue (is_within k c) → ⊥
      too_deep c k e t = grind (arith, nat_tests)

      positive : (c k : ℕ) → IsTrue (is_within k c) → IsTrue (ltb 0 c)
      positive c k t = grind (arith, nat_tests)

      none : (s : Bool) → (IsTrue s → ⊥) → s ≡ false
      none true g = absurd (g refl)
      none false g = refl

      reached : (s : Bool) → (eqb x p.before || s) ≡ true → (IsTrue s → IsTrue (is_fixed old n x p.before)) → (eqb x p.before || is_fixed old n x p.before) ≡ true
      reached true e g = right (eqb x p.before) (is_fixed old n x p.before) (g refl)
        where
          right : (a b : Bool) → IsTrue b → (a || b) ≡ true
          right a b t = grind arith
      reached false e g = left (eqb x p.before) (is_fixed old n x p.before) e
        where
          left : (a b : Bool) → (a || false) ≡ true → (a || b) ≡ true
          left true b e = refl
          left false b e = absurd (cc)

  pub IsTrail-ascend : (space : ℕ) → n * (n - 1) / 2 ≤ space → IsTrail n front space new
  IsTrail-ascend space enough = record {
    branching = IsBranchingPath-front n front p is.branching;
    fits = enough;
    square = takes.same_length ∙ is.square;
    most = λ a b l m.
        rw (takes.each a b l m) (back_most (cell old n a b) (length front) (is_from old n p.before a) (omega (arith, is.most a b l m, longer)) (from_row a b l m));
    each = λ k a b short l m.
        let same : is_within k (cell new n a b) ≡ is_within k (cell old n a b) = ap (is_within k) (takes.each a b l m) ∙ back_within (cell old n a b) k (length front + 1) (is_from old n p.before a) (omega arith) in
        let was = is.each k a b (omega (arith, longer)) l m in
        rw same (subst (λ (F : List Pair). IsTrue (is_within k (cell old n a b)) ↔ LeadsTo F a b) (take-append-le k front (p ∷ []) (omega arith)) was);
  }

-- ---- with the table lent and put back

-- a path that an undecided pair extends has room for it
pub capacity_left : (n : ℕ) (path : List Pair) (capacity : ℕ) (t : List ℕ) (p : Pair) → IsTrail n path capacity t → IsUndecided n path p.before p.after → length path < capacity
capacity_left n path capacity t p is u =
    let most = length-branching n (path ++ p ∷ []) (IsBranchingPath-push n path p is.branching u) in
    omega (arith, length_push path p, is.fits)

pub descended : (n : ℕ) (path items : List Pair) (capacity space depth : ℕ) (old lent new : List ℕ) (len : ℕ) (p : Pair) → IsTrail n path capacity old → IsUndecided n path p.before p.after → items ≡ path ++ p ∷ [] → capacity ≤ space → depth ≡ length path + 1 → lent ≡ old → len ≡ length old
    → Notes lent new n p.before p.after depth → IsTrail n items space (take len (new ++ drop (length new) old))
descended n path items capacity space depth old lent new len p is u pushed more at same size notes =
    let noted : Notes old new n p.before p.after (length path + 1) = subst (λ (d : ℕ). Notes old new n p.before p.after d) at (subst (λ (t : List ℕ). Notes t new n p.before p.after depth) same notes) in
    rw (pushed, put_back new old len noted.same_length size) (IsTrail-descend n path capacity old new p is u noted space (omega (arith, is.fits)))

pub ascended : (n : ℕ) (path front : List Pair) (capacity space depth : ℕ) (old lent new : List ℕ) (len : ℕ) (p : Pair) → IsTrail n path capacity old → path ≡ front ++ p ∷ [] → capacity ≤ space → depth ≡ length path → lent ≡ old → len ≡ length old
    → Takes lent new n p.before depth → IsTrail n front space (take len (new ++ drop (length new) old))
ascended n path front capacity space depth old lent new len p is popped more at same size takes =
    let there : IsTrail n (front ++ p ∷ []) capacity old = subst (λ (F : List Pair). IsTrail n F capacity old) popped is in
    let deep : depth ≡ length front + 1 = at ∙ ap length popped ∙ length_push front p in
    let taken : Takes old new n p.before (length front + 1) = subst (λ (d : ℕ). Takes old new n p.before d) deep (subst (λ (t : List ℕ). Takes t new n p.before depth) same takes) in
    rw (put_back new old len taken.same_length size) (IsTrail-ascend n front capacity old new p there taken space (omega (arith, is.fits)))

pub cleared : (n : ℕ) (path items : List Pair) (capacity space : ℕ) (old lent new : List ℕ) (len : ℕ) → IsTrail n path capacity old → items ≡ [] → capacity ≤ space → lent ≡ old → len ≡ length old → length new ≡ length lent → ((k : ℕ) → k < length new → get_or new k 0 ≡ 0)
    → IsTrail n items space (take len (new ++ drop (length new) old)) × (pairs_of n (is_fixed (take len (new ++ drop (length new) old)) n) ≡ [])
cleared n path items capacity space old lent new len is none more same size whole zeros =
    let long : length new ≡ length old = whole ∙ ap length same in
    let square : length new ≡ n * n = long ∙ is.square in
    rw (none, put_back new old len long size) (IsTrail-none n space new (omega (arith, is.fits)) square zeros, fixed-none n new square zeros)
