-- Charges that are cleared at the arcs of cuts.
use Rattle.std.proofs.Common.{◌≡◌, ◌⊎◌, ℕ, ◌+◌, ◌*◌, ◌<◌, ◌≤◌, Bool, true, false, cond, eqb, ◌&&◌, ◌||◌, List, length, take, get_or, set, refl, sym, ◌∙◌, ap, inl, inr, arith}
use Rattle.std.proofs.lemmas.Bool.Decides.{nat_tests}
use Rattle.std.proofs.lemmas.List.{take_all}
use Rattle.std.proofs.lemmas.List.Folds.{list_any_more}
use Rattle.std.proofs.lemmas.List.Sums.{sum_by_more}
use Rattle.lop_model.specs.declared.pair.Pair.{Pair}
use Rattle.lop_model.specs.Cells.{cell}
use Rattle.lop_model.specs.Fixings.{has_pair}
use Rattle.lop_model.proofs.CellLemmas.{read-set}
use Rattle.lop_cuts.specs.Kind.{arcs_of}
use Rattle.lop_cuts.specs.Lagrangian.{Term, charge}

chosen : (p q r : Bool) (v : ℕ) → p ≡ q → cond p 0 (cond r 0 v) ≡ cond (r || q) 0 v
chosen true true true v e = refl
chosen true true false v e = refl
chosen false false true v e = refl
chosen false false false v e = refl
chosen true false r v e = absurd (cc)
chosen false true r v e = absurd (cc)

flipped : (a b c d : ℕ) → (eqb a c && eqb b d) ≡ (eqb c a && eqb d b)
flipped a b c d = grind (arith, nat_tests)

-- one more arc is cleared
pub clear_more : (t : List ℕ) (n : ℕ) (arcs : List Pair) (i a b v : ℕ) (x : Pair) → length t ≡ n * n → i < length arcs → (get_or arcs i x).before < n → (get_or arcs i x).after < n → b < n
    → cell t n a b ≡ cond (has_pair (take i arcs) a b) 0 v
    → cell (set t ((get_or arcs i x).before * n + (get_or arcs i x).after) 0) n a b ≡ cond (has_pair (take (i + 1) arcs) a b) 0 v
clear_more t n arcs i a b v x whole l row column within e =
    let y = get_or arcs i x in
    let before : Bool = has_pair (take i arcs) a b in
    let counted : has_pair (take (i + 1) arcs) a b ≡ (before || (eqb y.before a && eqb y.after b)) = list_any_more (λ p. eqb p.before a && eqb p.after b) arcs i x l in
    read-set t n y.before y.after a b 0 0 whole row column within
    ∙ ap (λ w. cond (eqb a y.before && eqb b y.after) 0 w) e
    ∙ chosen (eqb a y.before && eqb b y.after) (eqb y.before a && eqb y.after b) before v (flipped a b y.before y.after)
    ∙ ap (λ p. cond p 0 v) (sym counted)

step_cases : (p : Bool) (old new whole before after m : ℕ) → new ≡ cond p 0 old → after ≡ before + cond p m 0 → (old ≡ 0) ⊎ ((old ≡ whole) × (before ≡ 0)) → (new ≡ 0) ⊎ ((new ≡ whole) × (after ≡ 0))
step_cases true old new whole before after m e f h = inl e
step_cases false old new whole before after m e f (inl z) = inl (e ∙ z)
step_cases false old new whole before after m e f (inr h) = inr ((e ∙ h.0), omega (arith, f, h.1))

-- the arcs of one more term are cleared
pub clear_step : (terms : List Term) (i a b old new : ℕ) (d : Term) → i < length terms → new ≡ cond (has_pair (arcs_of (get_or terms i d).cut) a b) 0 old → (old ≡ 0) ⊎ ((old ≡ charge terms a b) × (charge (take i terms) a b ≡ 0))
    → (new ≡ 0) ⊎ ((new ≡ charge terms a b) × (charge (take (i + 1) terms) a b ≡ 0))
clear_step terms i a b old new d l e h =
    step_cases (has_pair (arcs_of (get_or terms i d).cut) a b) old new (charge terms a b) (charge (take i terms) a b) (charge (take (i + 1) terms) a b) (get_or terms i d).multiplier e
    (sum_by_more (λ t. cond (has_pair (arcs_of t.cut) a b) t.multiplier 0) terms i d l) h

-- where those of all terms are, nothing is charged any more
pub cleared : (terms : List Term) (i a b v : ℕ) → length terms ≤ i → (v ≡ 0) ⊎ ((v ≡ charge terms a b) × (charge (take i terms) a b ≡ 0)) → v ≡ 0
cleared terms i a b v l (inl z) = z
cleared terms i a b v l (inr h) = h.0 ∙ ap (λ ts. charge ts a b) (sym (take_all i terms l)) ∙ h.1
