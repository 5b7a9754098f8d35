-- The Lagrangian value bounds every order that extends the closed pairs.
use Rattle.std.proofs.Common.{◌≡◌, ℕ, zero, suc, ◌+◌, ◌*◌, ◌<◌, ◌≤◌, Bool, true, false, cond, eqb, ltb, ◌&&◌, ◌||◌, List, [], ◌∷◌, length, take, get_or, ℤ, pos, ◌+ℤ◌, ◌-ℤ◌, ◌*ℤ◌, ◌≤ℤ◌, ◌<ℤ◌, refl, sym, ◌∙◌, ap, inl, inr, arith, rules}
use Rattle.std.specs.Prelude.{IsTrue}
use Rattle.std.specs.List.{All}
use Rattle.std.specs.Int.{int_max}
use Rattle.std.proofs.Math.IntN.{suc_ℤ-*ℤ, zero-*ℤ, pos-*ℤ-pos}
use Rattle.std.proofs.lemmas.Int.{ints, clamps, by_lt_z}
use Rattle.std.proofs.lemmas.Bool.{cases_lt}
use Rattle.std.proofs.lemmas.Bool.Decides.{nat_tests}
use Rattle.std.proofs.lemmas.List.Sums.{sum_by-cons, sum_by_more}
use Rattle.lop_model.specs.declared.pair.Pair.{Pair}
use Rattle.lop_model.specs.Sums.{pair_sum}
use Rattle.lop_model.specs.Order.{IsOrder, place_of, stands_before}
use Rattle.lop_model.specs.Matrix.{Matrix, entry, weight}
use Rattle.lop_model.specs.Fixings.{has_pair, IsLinearExtension}
use Rattle.lop_model.specs.Bound.{pair_value, pair_bound}
use Rattle.lop_model.proofs.SumLemmas.{pair_sum-same, pair_sum-add, pair_sum-scale, pair_sum-le, pair_sum-none, pair_sum-one}
use Rattle.lop_model.proofs.OrderLemmas.{place_of-at, pair_sum-order}
use Rattle.lop_model.proofs.BoundLemmas.{choice-le-value}
use Rattle.lop_cuts.specs.Arcs.{arc, kept_count}
use Rattle.lop_cuts.specs.Kind.{IsCut, IsValidCut, arcs_of, right_side_of}
use Rattle.lop_cuts.specs.Lagrangian.{Term, charge, right_sides, reduced_entry, lagrangian_value, Certifies}
use Rattle.lop_cuts.proofs.CycleLemmas.{one_if, kept_count-cons}
use Rattle.lop_cuts.proofs.ArcLemmas.{times, times-distinct}
use Rattle.lop_cuts.proofs.DistinctLemmas.{arcs_distinct}
use Rattle.lop_cuts.proofs.KindLemmas.{IsValidCut-IsCut}

-- two inequalities added up
add-le : {a b c d : ℤ} → a ≤ℤ b → c ≤ℤ d → (a +ℤ c) ≤ℤ (b +ℤ d)
add-le h k = omega (arith, ints)

-- two inequalities in a row
le-trans : {a b c : ℤ} → a ≤ℤ b → b ≤ℤ c → a ≤ℤ c
le-trans h k = omega (arith, ints)

-- what is taken away and added again
less_and_more : (x y : ℤ) → x ≡ y +ℤ (x -ℤ y)
less_and_more x y = omega (arith, ints)

-- ---- the arcs of a cut at the places of an order

-- an arc is not met where one of its objects isn't
no_hit : (a x b y : ℕ) → (x ≡ a → y ≡ b → ⊥) → pos (cond (eqb a x && eqb b y) 1 0) ≡ pos 0
no_hit a x b y h = grind (arith, nat_tests)

-- an arc that is met at places p < q is kept
hit_within : (b : Bool) (p q : ℕ) → p < q → pos (cond b 1 0) ≤ℤ pos (cond (ltb p q) 1 0)
hit_within b p q l = grind (arith, ints, nat_tests)

-- nothing is met at most as often as anything
none_within : (b : Bool) → pos 0 ≤ℤ pos (cond b 1 0)
none_within true = omega (arith, ints)
none_within false = omega (arith, ints)

-- an arc (a, b) is met at the places of an order once, if a stands before b, and otherwise never
one_arc : (n : ℕ) (s : List ℕ) (a b : ℕ) → IsOrder n s → pair_sum n (λ p q. pos (cond (eqb a (get_or s p 0) && eqb b (get_or s q 0)) 1 0)) ≤ℤ pos (cond (stands_before s a b) 1 0)
one_arc n s a b o =
    let f : ℕ → ℕ → ℤ = λ p q. pos (cond (eqb a (get_or s p 0) && eqb b (get_or s q 0)) 1 0) in
    let place : (p c : ℕ) → p < n → get_or s p 0 ≡ c → place_of s c ≡ p = λ p c l e. ap (place_of s) (sym e) ∙ place_of-at n s p o l in
    let none : ((p q : ℕ) → p < q → q < n → get_or s p 0 ≡ a → get_or s q 0 ≡ b → ⊥) → pair_sum n f ≤ℤ pos (cond (stands_before s a b) 1 0) = λ h. rw (pair_sum-none n f (λ p q l m. no_hit a (get_or s p 0) b (get_or s q 0) (h p q l m))) (none_within (stands_before s a b)) in
    elim (cases_lt (place_of s a) (place_of s b)) [
      | inr after ↦ none (λ p q l m x y. let at_p : place_of s a ≡ p = place p a (omega arith) x in let at_q : place_of s b ≡ q = place q b m y in omega arith)
      | inl before ↦ elim (cases_lt (place_of s b) n) [
        | inr past ↦ none (λ p q l m x y. let at_q : place_of s b ≡ q = place q b m y in omega arith)
        | inl in_s ↦
            rw (pair_sum-one n (place_of s a) (place_of s b) f before in_s
            (λ p q l m other. no_hit a (get_or s p 0) b (get_or s q 0) (λ x y. elim other [ inl ne ↦ ne (sym (place p a (omega arith) x)) | inr ne ↦ ne (sym (place q b m y)) ])))
            (hit_within (eqb a (get_or s (place_of s a) 0) && eqb b (get_or s (place_of s b) 0)) (place_of s a) (place_of s b) before)
      ]
    ]

-- one of two tests holds at most as often as each
either_one : (b c : Bool) → pos (one_if (b || c)) ≤ℤ (pos (one_if b) +ℤ pos (one_if c))
either_one true c = omega (arith, ints)
either_one false c = omega (arith, ints)

-- so at most as many places hold an arc of a list as arcs are kept
arcs_met : (n : ℕ) (s : List ℕ) (arcs : List Pair) → IsOrder n s → pair_sum n (λ p q. pos (one_if (has_pair arcs (get_or s p 0) (get_or s q 0)))) ≤ℤ pos (kept_count s arcs)
arcs_met n s [] o = rw (pair_sum-none n (λ _ _. pos 0) (λ _ _ _ _. refl)) (omega (arith, ints))
arcs_met n s (x ∷ xs) o =
    let hit : ℕ → ℕ → ℤ = λ p q. pos (one_if (eqb x.before (get_or s p 0) && eqb x.after (get_or s q 0))) in
    let others : ℕ → ℕ → ℤ = λ p q. pos (one_if (has_pair xs (get_or s p 0) (get_or s q 0))) in
    let met : pair_sum n (λ p q. pos (one_if (has_pair (x ∷ xs) (get_or s p 0) (get_or s q 0)))) ≤ℤ pair_sum n (λ p q. hit p q +ℤ others p q) =
    pair_sum-le n (λ p q. pos (one_if (has_pair (x ∷ xs) (get_or s p 0) (get_or s q 0)))) (λ p q. hit p q +ℤ others p q)
    (λ p q _ _. either_one (eqb x.before (get_or s p 0) && eqb x.after (get_or s q 0)) (has_pair xs (get_or s p 0) (get_or s q 0))) in
    rw (kept_count-cons s x xs) (le-trans met (rw (pair_sum-add n hit others) (add-le (one_arc n s x.before x.after o) (arcs_met n s xs o))))

-- ---- the charges of all terms

-- an inequality multiplied by m
pos_scale_le : (m k : ℕ) (x : ℤ) → x ≤ℤ pos k → (pos m *ℤ x) ≤ℤ pos (m * k)
pos_scale_le zero k x h = rw (zero-*ℤ x) (omega (arith, ints))
pos_scale_le (suc m) k x h =
    let here : (pos m *ℤ x) ≤ℤ pos (m * k) = pos_scale_le m k x h in
    let more : pos (suc m) *ℤ x ≡ pos m *ℤ x +ℤ x = suc_ℤ-*ℤ (pos m) x in
    omega (arith, ints)

-- m where a test holds is m times its 1 or 0
times_one : (b : Bool) (m : ℕ) → cond b m 0 ≡ m * one_if b
times_one true m = omega arith
times_one false m = omega arith

-- a term charges its multiplier where its cut has the arc
one_charge : (t : Term) (ts : List Term) (a b : ℕ) → pos (charge (t ∷ ts) a b) ≡ pos t.multiplier *ℤ pos (one_if (has_pair (arcs_of t.cut) a b)) +ℤ pos (charge ts a b)
one_charge t ts a b =
    ap pos (sum_by-cons (λ u. cond (has_pair (arcs_of u.cut) a b) u.multiplier 0) t ts)
    ∙ ap (λ k. pos (k + charge ts a b)) (times_one (has_pair (arcs_of t.cut) a b) t.multiplier)
    ∙ ap (λ x. x +ℤ pos (charge ts a b)) (sym (pos-*ℤ-pos t.multiplier (one_if (has_pair (arcs_of t.cut) a b))))

-- the charge of one more term, counted over the list of its cut's arcs
pub charge_more : (terms : List Term) (i : ℕ) (d : Term) (a b : ℕ) → i < length terms → IsCut (get_or terms i d).cut → charge (take (i + 1) terms) a b ≡ charge (take i terms) a b + (get_or terms i d).multiplier * times (arc a b) (arcs_of (get_or terms i d).cut)
charge_more terms i d a b l right =
    let t = get_or terms i d in
    sum_by_more (λ u. cond (has_pair (arcs_of u.cut) a b) u.multiplier 0) terms i d l
    ∙ ap (λ k. charge (take i terms) a b + k) (times_one (has_pair (arcs_of t.cut) a b) t.multiplier
    ∙ ap (λ k. t.multiplier * k) (sym (times-distinct (arc a b) (arcs_of t.cut) (arcs_distinct t.cut right))))

-- an order is charged at most the multiplied right sides of valid cuts
pub charge-le-right_sides : (n : ℕ) (s : List ℕ) (terms : List Term) → IsOrder n s → All (λ t. IsValidCut n t.cut) terms → pair_sum n (λ p q. pos (charge terms (get_or s p 0) (get_or s q 0))) ≤ℤ pos (right_sides terms)
charge-le-right_sides n s [] o h = rw (pair_sum-none n (λ _ _. pos 0) (λ _ _ _ _. refl)) (omega (arith, ints))
charge-le-right_sides n s (t ∷ ts) o h =
    let held : ℕ → ℕ → ℤ = λ p q. pos (one_if (has_pair (arcs_of t.cut) (get_or s p 0) (get_or s q 0))) in
    let others : ℕ → ℕ → ℤ = λ p q. pos (charge ts (get_or s p 0) (get_or s q 0)) in
    let valid : IsValidCut n t.cut = h 0 t (omega arith) in
    let most : kept_count s (arcs_of t.cut) ≤ right_side_of t.cut = valid.each s o in
    let met : pair_sum n held ≤ℤ pos (kept_count s (arcs_of t.cut)) = arcs_met n s (arcs_of t.cut) o in
    let within : pair_sum n held ≤ℤ pos (right_side_of t.cut) = omega (arith, ints) in
    let split : pair_sum n (λ p q. pos (charge (t ∷ ts) (get_or s p 0) (get_or s q 0))) ≡ pos t.multiplier *ℤ pair_sum n held +ℤ pair_sum n others =
    pair_sum-same n (λ p q. pos (charge (t ∷ ts) (get_or s p 0) (get_or s q 0))) (λ p q. pos t.multiplier *ℤ held p q +ℤ others p q)
    (λ p q _ _. one_charge t ts (get_or s p 0) (get_or s q 0))
    ∙ pair_sum-add n (λ p q. pos t.multiplier *ℤ held p q) others
    ∙ ap (λ x. x +ℤ pair_sum n others) (pair_sum-scale n t.multiplier held) in
    let sides : right_sides (t ∷ ts) ≡ t.multiplier * right_side_of t.cut + right_sides ts = sum_by-cons (λ u. u.multiplier * right_side_of u.cut) t ts in
    rw (split, sides) (add-le (pos_scale_le t.multiplier (right_side_of t.cut) (pair_sum n held) within) (charge-le-right_sides n s ts o (λ k d l. h (suc k) d (omega arith))))

-- ---- the bound

-- scale times the weight of an order that extends the closed pairs is at most the Lagrangian value
pub weight-le-lagrangian_value : (C : Matrix) (G : List Pair) (scale : ℕ) (terms : List Term) (s : List ℕ) → IsOrder C.size s → IsLinearExtension s G → All (λ t. IsValidCut C.size t.cut) terms → (pos scale *ℤ weight C s) ≤ℤ lagrangian_value C G scale terms
weight-le-lagrangian_value C G scale terms s o x valid =
    let r : ℕ → ℕ → ℤ = reduced_entry C scale terms in
    let charged : ℕ → ℕ → ℤ = λ p q. pos (charge terms (get_or s p 0) (get_or s q 0)) in
    let entries : ℕ → ℕ → ℤ = λ p q. entry C (get_or s p 0) (get_or s q 0) in
    let placed : ℕ → ℕ → ℤ = λ p q. r (get_or s p 0) (get_or s q 0) in
    let whole : weight C s ≡ pair_sum C.size entries = ap (λ n. pair_sum n entries) o.complete in
    let split : pos scale *ℤ pair_sum C.size entries ≡ pair_sum C.size charged +ℤ pair_sum C.size placed =
    sym (pair_sum-scale C.size scale entries)
    ∙ pair_sum-same C.size (λ p q. pos scale *ℤ entries p q) (λ p q. charged p q +ℤ placed p q) (λ p q _ _. less_and_more (pos scale *ℤ entries p q) (charged p q))
    ∙ pair_sum-add C.size charged placed in
    let values : pair_sum C.size placed ≤ℤ pair_sum C.size (pair_value G r) =
    rw (pair_sum-order C.size s r o) (pair_sum-le C.size (λ i j. cond (stands_before s i j) (r i j) (r j i)) (pair_value G r) (λ i j _ _. choice-le-value G r s i j x)) in
    rw (whole, split) (add-le (charge-le-right_sides C.size s terms o valid) values)

-- cuts are valid, whatever the number of objects
pub AreValid-AreCuts : (n : ℕ) (terms : List Term) → All (λ t. IsCut t.cut) terms → All (λ t. IsValidCut n t.cut) terms
AreValid-AreCuts n terms h = λ k d l. IsValidCut-IsCut n (get_or terms k d).cut (h k d l)

-- ---- more fixings

-- what two objects give only falls as they are fixed
value_falls : (f g h k : Bool) (x y : ℤ) → (IsTrue f → IsTrue h) → (IsTrue g → IsTrue k) → (IsTrue h → IsTrue k → ⊥) → cond h x (cond k y (int_max x y)) ≤ℤ cond f x (cond g y (int_max x y))
value_falls true g true k x y p q r = omega (arith, ints)
value_falls true g false k x y p q r = absurd (search rules)
value_falls false true true k x y p q r = absurd (search rules)
value_falls false true false true x y p q r = omega (arith, ints)
value_falls false true false false x y p q r = absurd (search rules)
value_falls false false true k x y p q r = omega (arith, ints, clamps)
value_falls false false false true x y p q r = omega (arith, ints, clamps)
value_falls false false false false x y p q r = omega (arith, ints)

-- more fixings never raise it: where F's pairs are among G's, and G has no pair both ways, G's value is at most F's
pub lagrangian_value-more : (C : Matrix) (F G : List Pair) (scale : ℕ) (terms : List Term) → ((a b : ℕ) → IsTrue (has_pair F a b) → IsTrue (has_pair G a b)) → ((a b : ℕ) → IsTrue (has_pair G a b) → IsTrue (has_pair G b a) → ⊥) → lagrangian_value C G scale terms ≤ℤ lagrangian_value C F scale terms
lagrangian_value-more C F G scale terms among no_cycle =
    let r : ℕ → ℕ → ℤ = reduced_entry C scale terms in
    let values : pair_sum C.size (pair_value G r) ≤ℤ pair_sum C.size (pair_value F r) =
    pair_sum-le C.size (pair_value G r) (pair_value F r)
    (λ i j _ _. value_falls (has_pair F i j) (has_pair F j i) (has_pair G i j) (has_pair G j i) (r i j) (r j i) (among i j) (among j i) (no_cycle i j)) in
    omega (arith, ints)

-- ---- the bound that a scale and terms certify

-- an inequality of whole numbers multiplied by m
pos_scale_mono : (m : ℕ) (x y : ℤ) → x ≤ℤ y → (pos m *ℤ x) ≤ℤ (pos m *ℤ y)
pos_scale_mono zero x y h = rw (zero-*ℤ x, zero-*ℤ y) (omega (arith, ints))
pos_scale_mono (suc m) x y h =
    let here : (pos m *ℤ x) ≤ℤ (pos m *ℤ y) = pos_scale_mono m x y h in
    let left : pos (suc m) *ℤ x ≡ pos m *ℤ x +ℤ x = suc_ℤ-*ℤ (pos m) x in
    let right : pos (suc m) *ℤ y ≡ pos m *ℤ y +ℤ y = suc_ℤ-*ℤ (pos m) y in
    omega (arith, ints)

-- scale times x below scale times b + 1 puts x at b or below
pub scaled_down : (scale : ℕ) (x u b : ℤ) → (pos scale *ℤ x) ≤ℤ u → u <ℤ (pos scale *ℤ (b +ℤ pos 1)) → x ≤ℤ b
scaled_down scale x u b h k =
    by_lt_z b x (λ l. let up : (pos scale *ℤ (b +ℤ pos 1)) ≤ℤ (pos scale *ℤ x) = pos_scale_mono scale (b +ℤ pos 1) x (omega (arith, ints)) in absurd (omega (arith, ints))) (λ l. l)

-- no order that extends the closed pairs weighs more than a number that is certified by valid cuts
pub weight-le-certified : (C : Matrix) (G : List Pair) (scale : ℕ) (terms : List Term) (b : ℤ) (s : List ℕ) → IsOrder C.size s → IsLinearExtension s G → All (λ t. IsValidCut C.size t.cut) terms → Certifies C G scale terms b → weight C s ≤ℤ b
weight-le-certified C G scale terms b s o x valid certified =
    scaled_down scale (weight C s) (lagrangian_value C G scale terms) b (weight-le-lagrangian_value C G scale terms s o x valid) certified

-- ---- scale 1, and no cut

-- an entry at scale 1 without a charge is itself
plain : (x : ℤ) → pos 1 *ℤ x -ℤ pos 0 ≡ x
plain x =
    let one : pos 1 *ℤ x ≡ pos 0 *ℤ x +ℤ x = suc_ℤ-*ℤ (pos 0) x in
    omega (arith, ints, zero-*ℤ x)

-- equal entries give equal values
same_value : (f g : Bool) {x y u v : ℤ} → x ≡ u → y ≡ v → cond f x (cond g y (int_max x y)) ≡ cond f u (cond g v (int_max u v))
same_value f g d e = cc

-- no right side adds nothing
nothing_more : (x : ℤ) → pos 0 +ℤ x ≡ x
nothing_more x = omega (arith, ints)

-- at scale 1 and without a cut the Lagrangian value is the pair bound
pub lagrangian_value-plain : (C : Matrix) (G : List Pair) → lagrangian_value C G 1 [] ≡ pair_bound C G
lagrangian_value-plain C G =
    nothing_more (pair_sum C.size (pair_value G (reduced_entry C 1 [])))
    ∙ pair_sum-same C.size (pair_value G (reduced_entry C 1 [])) (pair_value G (entry C)) (λ i j _ _. same_value (has_pair G i j) (has_pair G j i) (plain (entry C i j)) (plain (entry C j i)))
