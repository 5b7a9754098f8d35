-- The fixings that a table stands for.
use Rattle.std.proofs.Common.{◌≡◌, ◌≢◌, ℕ, ◌*◌, ◌<◌, ◌≤◌, Bool, true, false, eqb, ◌&&◌, ◌||◌, List, [], ◌∷◌, ◌++◌, length, get_or, refl, sym, ◌∙◌, subst, inl, inr, arith}
use Rattle.std.specs.Prelude.{IsTrue}
use Rattle.std.proofs.lemmas.Bool.{cases_lt}
use Rattle.std.proofs.lemmas.Bool.Decides.{nat_tests}
use Rattle.lop_model.specs.declared.pair.Pair.{Pair}
use Rattle.lop_model.specs.Fixings.{has_pair, LeadsTo, one_pair, IsClosure, IsUndecided}
use Rattle.lop_fix.specs.Table.{row_words, at, Links, IsClosedTable}
use Rattle.lop_model.specs.Related.{pairs_of}
use Rattle.lop_model.specs.Related.{pair}
use Rattle.lop_fix.specs.PartialOrder.{FixedPairs, IsPartialOrder}
use Rattle.lop_model.proofs.RisingPairs.{pairs_of-rising}
use Rattle.lop_model.proofs.RelatedPairs.{pairs_of-none, has_pair-outside}
pub use Rattle.lop_model.proofs.RelatedPairs.{has_pair-inside, has_pair-below}
use Rattle.lop_fix.proofs.TableLemmas.{at-zeros}
use Rattle.lop_model.proofs.ClosureLemmas.{closed_more, no_cycle_more, IsClosure-itself, IsClosure-none, no_chain}

pub false_from_not : (b : Bool) → (IsTrue b → ⊥) → b ≡ false
false_from_not true h = absurd (h refl)
false_from_not false h = refl

row_past : (x y a b n : ℕ) (s : Bool) → n ≤ x → a < n → false ≡ (false || ((eqb x a || false) && s))
row_past x y a b n s h l = grind (arith, nat_tests)

column_past : (y b n : ℕ) (s : Bool) → n ≤ y → b < n → false ≡ (false || (s && (eqb y b || false)))
column_past y b n s h m = grind (arith, nat_tests)

joined : (n : ℕ) (r k : ℕ → ℕ → Bool) (a b : ℕ) → a < n → b < n → ((x y : ℕ) → x < n → y < n → k x y ≡ (r x y || ((eqb x a || r x a) && (eqb y b || r b y)))) → (x y : ℕ) → has_pair (pairs_of n k) x y ≡ (has_pair (pairs_of n r) x y || ((eqb x a || has_pair (pairs_of n r) x a) && (eqb y b || has_pair (pairs_of n r) b y)))
joined n r k a b first second each x y =
    elim (cases_lt x n) [
      | inr past ↦ rw (has_pair-outside n k x y (inl past), has_pair-outside n r x y (inl past), has_pair-outside n r x a (inl past)) (row_past x y a b n (eqb y b || has_pair (pairs_of n r) b y) past first)
      | inl l ↦ elim (cases_lt y n) [
        | inr past ↦ rw (has_pair-outside n k x y (inr past), has_pair-outside n r x y (inr past), has_pair-outside n r b y (inr past)) (column_past y b n (eqb x a || has_pair (pairs_of n r) x a) past second)
        | inl m ↦ rw (has_pair-inside n k x y l m, has_pair-inside n r x y l m, has_pair-inside n r x a l first, has_pair-inside n r b y second m) (each x y l m)
      ]
    ]

no_cycle_of : (n : ℕ) (t : List ℕ) → IsClosedTable n t → (x : ℕ) → IsTrue (has_pair (pairs_of n (at t n)) x x) → ⊥
no_cycle_of n t was x u =
    let l = (has_pair-below n (at t n) x x u).0 in
    let e : false ≡ true = sym (was.no_cycle x l) ∙ sym (has_pair-inside n (at t n) x x l l) ∙ u in
    cc

-- what a table stands for is a partial order
pub IsPartialOrder-table : (n : ℕ) (t : List ℕ) → IsClosedTable n t → IsPartialOrder (record { size = n; pairs = pairs_of n (at t n) })
IsPartialOrder-table n t was = record { closed = was.closed; below = has_pair-below n (at t n); no_cycle = λ a r. no_cycle_of n t was a ((was.closed.each a a).1 r) }

module _ (n : ℕ) (old new : List ℕ) (a b : ℕ) (was : IsClosedTable n old) (fresh : IsUndecided n (pairs_of n (at old n)) a b) (links : Links old new n a b) where
  pub closure_after : IsClosure (pairs_of n (at old n) ++ pair a b ∷ []) (pairs_of n (at new n))
  closure_after = record { each = closed_more (has_pair (pairs_of n (at old n))) (has_pair (pairs_of n (at new n))) (pair a b) (pairs_of n (at old n)) was.closed.each (joined n (at old n) (at new n) a b fresh.first fresh.second links.each); rising = pairs_of-rising n (at new n) }

  pub IsClosedTable-link : IsClosedTable n new
  IsClosedTable-link = record {
    square = links.same_length ∙ was.square;
    closed = IsClosure-itself (pairs_of n (at old n) ++ pair a b ∷ []) (pairs_of n (at new n)) closure_after;
    no_cycle = λ x l. false_from_not (at new n x x) (λ t.
        no_cycle_more (has_pair (pairs_of n (at old n))) (has_pair (pairs_of n (at new n))) (pair a b) (pairs_of n (at old n)) was.closed.each (joined n (at old n) (at new n) a b fresh.first fresh.second links.each)
        fresh.differ (λ u. fresh.not_after (one_pair u)) (no_cycle_of n old was) x (has_pair-inside n (at new n) x x l l ∙ t));
  }

-- ---- the table with nothing in it

pub none-fixed : (n : ℕ) (t : List ℕ) → ((k : ℕ) → k < n * row_words n → get_or t k 0 ≡ 0) → pairs_of n (at t n) ≡ []
none-fixed n t zeros = pairs_of-none n (at t n) (λ a b l m. at-zeros t n a b zeros l m)

pub IsClosedTable-none : (n : ℕ) (t : List ℕ) → length t ≡ n * row_words n → ((k : ℕ) → k < n * row_words n → get_or t k 0 ≡ 0) → IsClosedTable n t
IsClosedTable-none n t square zeros = record {
  square = square;
  closed = rw (none-fixed n t zeros) IsClosure-none;
  no_cycle = λ a l. at-zeros t n a a zeros l l;
}

-- ---- between a table and chains

pub IsUndecided-tests : (f : FixedPairs) (a b : ℕ) → IsPartialOrder f → a < f.size → b < f.size → a ≢ b → has_pair f.pairs a b ≡ false → has_pair f.pairs b a ≡ false → IsUndecided f.size f.pairs a b
IsUndecided-tests f a b was l m ne d e = record {
  first = l;
  second = m;
  differ = ne;
  not_before = λ r. let u : false ≡ true = sym d ∙ (was.closed.each a b).1 r in cc;
  not_after = λ r. let u : false ≡ true = sym e ∙ (was.closed.each b a).1 r in cc;
}

pub at-fresh : (n : ℕ) (t : List ℕ) (a b : ℕ) → IsUndecided n (pairs_of n (at t n)) a b → at t n b a ≡ false
at-fresh n t a b fresh = false_from_not (at t n b a) (λ u. fresh.not_after (one_pair (has_pair-inside n (at t n) b a fresh.second fresh.first ∙ u)))

-- with nothing fixed there is a partial order
pub IsPartialOrder-none : (f : FixedPairs) → f.pairs ≡ [] → IsPartialOrder f
IsPartialOrder-none f none = record {
  closed = rw none IsClosure-none;
  below = λ a b t. let u : IsTrue (has_pair [] a b) = subst (λ (F : List Pair). IsTrue (has_pair F a b)) none t in absurd (cc);
  no_cycle = λ a r. no_chain (subst (λ (F : List Pair). LeadsTo F a a) none r);
}
