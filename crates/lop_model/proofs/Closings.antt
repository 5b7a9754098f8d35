-- There is a function that gives each list of pairs its closure.
use Rattle.std.proofs.Common.{◌≡◌, ℕ, suc, ◌+◌, ◌<◌, Bool, true, false, eqb, ◌&&◌, ◌||◌, List, [], ◌∷◌, ◌++◌, length, get_or, append_assoc, append-nil, refl, sym, ◌∙◌, subst, ◌↔◌, arith}
use Rattle.std.specs.Prelude.{IsTrue, fold}
use Rattle.std.proofs.lemmas.Bool.{eqb-true}
use Rattle.lop_model.specs.declared.pair.Pair.{Pair}
use Rattle.lop_model.specs.Fixings.{has_pair, LeadsTo, one_pair, pair_then, IsClosure, IsBranchingPath}
use Rattle.lop_model.specs.Closing.{AreClosures, linked, leads, above_all, closed}
use Rattle.lop_model.proofs.ClosureLemmas.{closed_more, no_chain}
use Rattle.lop_model.proofs.RelatedPairs.{has_pair-inside, related-has_pair}
use Rattle.lop_model.proofs.RisingPairs.{pairs_of-rising}

-- the test tells where chains of F lead
abbrev IsTestOf : List Pair → (ℕ → ℕ → Bool) → Type 0
IsTestOf F h = (x y : ℕ) → IsTrue (h x y) ↔ LeadsTo F x y

tested : (G F : List Pair) (h : ℕ → ℕ → Bool) → IsTestOf F h → IsTestOf (F ++ G) (fold linked h G)
tested [] F h so = subst (λ (l : List Pair). IsTestOf l h) (sym (append-nil F)) so
tested (p ∷ G) F h so =
    subst (λ (l : List Pair). IsTestOf l (fold linked (linked h p) G)) (append_assoc F (p ∷ []) G)
    (tested G (F ++ p ∷ []) (linked h p) (λ x y. closed_more h (linked h p) p F so (λ _ _. refl) x y))

-- the pairs of a list relate what a chain of them joins
pub leads-chain : (F : List Pair) (x y : ℕ) → IsTrue (leads F x y) ↔ LeadsTo F x y
leads-chain F = tested F [] (λ _ _. false) (λ x y. (λ t. absurd (cc), λ r. absurd (no_chain r)))

below_cases : (n : ℕ) (p : Pair) (a b : ℕ) (F : List Pair) (s u : Bool) → (p.before < n) × (p.after < n) → (IsTrue (has_pair F a b) → (a < n) × (b < n)) → eqb p.before a ≡ s → eqb p.after b ≡ u → IsTrue ((s && u) || has_pair F a b) → (a < n) × (b < n)
below_cases n p a b F true true h rest e f t =
    let first : p.before ≡ a = eqb-true p.before a e in
    let second : p.after ≡ b = eqb-true p.after b f in
    (omega (arith, h.0), omega (arith, h.1))
below_cases n p a b F true false h rest e f t = rest t
below_cases n p a b F false true h rest e f t = rest t
below_cases n p a b F false false h rest e f t = rest t

-- a pair of a list has objects below the number above all
pair_below : (F : List Pair) (a b : ℕ) → IsTrue (has_pair F a b) → (a < above_all F) × (b < above_all F)
pair_below [] a b t = absurd (cc)
pair_below (p ∷ F) a b t =
    below_cases (above_all F + p.before + p.after + 1) p a b F (eqb p.before a) (eqb p.after b) (omega arith, omega arith)
    (λ u. let l = pair_below F a b u in (omega (arith, l.0), omega (arith, l.1))) refl refl t

chain_below : (F : List Pair) (a b : ℕ) → LeadsTo F a b → (a < above_all F) × (b < above_all F)
chain_below F a b (one_pair t) = pair_below F a b t
chain_below F a b (pair_then {c = c} t r) = ((pair_below F a _ t).0, (chain_below F _ b r).1)

-- a chain of a path of branching decisions has objects below n
path_pair_below : (n : ℕ) (path : List Pair) (a b : ℕ) → ((i : ℕ) (d : Pair) → i < length path → ((get_or path i d).before < n) × ((get_or path i d).after < n)) → IsTrue (has_pair path a b) → (a < n) × (b < n)
path_pair_below n [] a b below t = absurd (cc)
path_pair_below n (p ∷ path) a b below t =
    below_cases n p a b path (eqb p.before a) (eqb p.after b) (below 0 p (omega arith)) (path_pair_below n path a b (λ i d l. below (suc i) d (omega arith))) refl refl t

path_chain_below : (n : ℕ) (path : List Pair) → ((i : ℕ) (d : Pair) → i < length path → ((get_or path i d).before < n) × ((get_or path i d).after < n)) → (a b : ℕ) → LeadsTo path a b → (a < n) × (b < n)
path_chain_below n path below a b (one_pair t) = path_pair_below n path a b below t
path_chain_below n path below a b (pair_then {c = c} t r) = ((path_pair_below n path a _ below t).0, (path_chain_below n path below _ b r).1)

pub chain_below-path : (n : ℕ) (path : List Pair) → IsBranchingPath n path → (a b : ℕ) → LeadsTo path a b → (a < n) × (b < n)
chain_below-path n path h = path_chain_below n path (λ i d l. let u = h.each i d l in (u.first, u.second))

pub IsClosure-closed : (F : List Pair) → IsClosure F (closed F)
IsClosure-closed F = record {
  each = λ a b. (
    λ t. (leads-chain F a b).0 (related-has_pair (above_all F) (leads F) a b t),
    λ r. let within = chain_below F a b r in has_pair-inside (above_all F) (leads F) a b within.0 within.1 ∙ (leads-chain F a b).1 r,
  );
  rising = pairs_of-rising (above_all F) (leads F);
}

pub AreClosures-closed : AreClosures closed
AreClosures-closed = record { each = IsClosure-closed }
