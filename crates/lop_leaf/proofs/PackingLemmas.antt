-- The steps of packing, over a table of residuals.
use Rattle.std.proofs.Common.{◌≡◌, Option, Some, None, ◌≢◌, ◌⊎◌, ℕ, suc, ◌+◌, ◌-◌, ◌^◌, ◌<◌, ◌≤◌, min, Bool, true, false, cond, eqb, ◌&&◌, ◌||◌, List, [], ◌∷◌, ◌++◌, length, get_or, refl, sym, ◌∙◌, ap, subst, inl, inr, ℤ, pos, negsuc, neg_ℤ, ◌+ℤ◌, ◌-ℤ◌, ◌*ℤ◌, ◌≤ℤ◌, ◌<ℤ◌, arith}
use Rattle.std.specs.Prelude.{unsigned_abs}
use Rattle.std.proofs.Math.IntN.{suc_ℤ-*ℤ, zero-*ℤ}
use Rattle.std.proofs.lemmas.Int.{ints}
use Rattle.std.proofs.lemmas.Bool.{cases_lt}
use Rattle.std.proofs.lemmas.Bool.Decides.{nat_tests}
use Rattle.std.proofs.lemmas.List.Elements.{All-push}
use Rattle.lop_model.specs.declared.pair.Pair.{Pair}
use Rattle.lop_model.specs.Matrix.{Matrix, entry, IsWeights}
use Rattle.lop_model.specs.Fixings.{has_pair}
use Rattle.lop_model.proofs.MatrixLemmas.{unsigned_abs_bounds}
use Rattle.lop_cuts.specs.Arcs.{cycle_arcs}
use Rattle.lop_cuts.specs.Kind.{FitsCut}
use Rattle.lop_cuts.specs.declared.kind.CutKind.{CutKind}
use Rattle.lop_cuts.specs.declared.kind.CutKind.TheVariants.{Dicycle}
use Rattle.lop_cuts.specs.Lagrangian.{Term, reduced_entry}
use Rattle.lop_fix.specs.PartialOrder.{FixedPairs, IsPartialOrder}
use Rattle.lop_leaf.specs.Record.{ScaledTerms}
use Rattle.lop_leaf.specs.Packing.{positive_part, residual, lesser, residual_number, cycle_residual, IsExhausted, AreThree, dicycle, in_turn}
use Rattle.lop_leaf.specs.Table.{IsResidualWord, lowered, slack, HasResiduals, IsSpentCycle, IsSpent, IsPacking}
use Rattle.lop_leaf.proofs.ChargeLemmas.{entries_within}
use Rattle.lop_leaf.proofs.ResidualLemmas.{residual_of, word_step, least_word, limited, lowered-zero, lowered-limited, arc_cases, one_way, reduced-dicycle}

-- ---- first residuals

pub abs-positive : (x : ℤ) → pos 0 <ℤ x → unsigned_abs x ≡ positive_part x
abs-positive (pos n) h = refl
abs-positive (negsuc n) h = absurd (omega (arith, ints))

plain : (x : ℤ) → pos 1 *ℤ x -ℤ pos 0 ≡ x
plain x =
    let one : pos 1 *ℤ x ≡ pos 0 *ℤ x +ℤ x = suc_ℤ-*ℤ (pos 0) x in
    omega (arith, ints, zero-*ℤ x)

pub plain_entry : (C : Matrix) (a b : ℕ) → reduced_entry C 1 [] a b ≡ entry C a b
plain_entry C a b = plain (entry C a b)

part_le : (x : ℤ) (k : ℕ) → x ≤ℤ pos k → positive_part x ≤ k
part_le (pos m) k h = omega (arith, ints)
part_le (negsuc m) k h = omega arith

part-within : (x y : ℤ) (k : ℕ) → unsigned_abs x + unsigned_abs y ≤ k → positive_part (x -ℤ y) ≤ k
part-within x y k h =
    let high = unsigned_abs_bounds x in
    let low = unsigned_abs_bounds y in
    let most : x ≤ℤ pos (unsigned_abs x) = high.0 in
    let least : neg_ℤ (pos (unsigned_abs y)) ≤ℤ y = low.1 in
    part_le (x -ℤ y) k (omega (arith, ints))

-- the word of a free arc before the first step
pub free_word : (C : Matrix) (G : List Pair) (a b x : ℕ) → IsWeights C → a < C.size → b < C.size → a ≢ b → has_pair G a b ≡ false → has_pair G b a ≡ false → x ≡ positive_part (entry C a b -ℤ entry C b a) → IsResidualWord (residual G (reduced_entry C 1 []) a b) x
free_word C G a b x is l m differ f g e =
    let same : positive_part (reduced_entry C 1 [] a b -ℤ reduced_entry C 1 [] b a) ≡ positive_part (entry C a b -ℤ entry C b a) = ap (λ u. positive_part (u -ℤ reduced_entry C 1 [] b a)) (plain_entry C a b) ∙ ap (λ v. positive_part (entry C a b -ℤ v)) (plain_entry C b a) in
    let small : positive_part (entry C a b -ℤ entry C b a) ≤ 10 ^ 18 = part-within (entry C a b) (entry C b a) (10 ^ 18) (entries_within C a b is differ l m) in
    rw (f, g) (e ∙ sym same, omega (arith, same, small))

-- ---- lowering the residuals of a cycle

three_tests : (p q s p' q' s' : Bool) (m v v1 v2 v3 : ℕ) → p ≡ p' → q ≡ q' → s ≡ s' → (p ≡ true → q ≡ true → ⊥) → (q ≡ true → s ≡ true → ⊥) → (p ≡ true → s ≡ true → ⊥)
    → v1 ≡ cond p (lowered v m) v → v2 ≡ cond q (lowered v1 m) v1 → v3 ≡ cond s (lowered v2 m) v2 → v3 ≡ cond (p' || (q' || (s' || false))) (lowered v m) v
three_tests true true s p' q' s' m v v1 v2 v3 ep eq es pq qs ps e f g = absurd (pq refl refl)
three_tests true false true p' q' s' m v v1 v2 v3 ep eq es pq qs ps e f g = absurd (ps refl refl)
three_tests true false false p' q' s' m v v1 v2 v3 ep eq es pq qs ps e f g = rw (sym ep) (g ∙ f ∙ e)
three_tests false true true p' q' s' m v v1 v2 v3 ep eq es pq qs ps e f g = absurd (qs refl refl)
three_tests false true false p' q' s' m v v1 v2 v3 ep eq es pq qs ps e f g = rw (sym ep, sym eq) (g ∙ f ∙ ap (λ w. lowered w m) e)
three_tests false false true p' q' s' m v v1 v2 v3 ep eq es pq qs ps e f g = rw (sym ep, sym eq, sym es) (g ∙ ap (λ w. lowered w m) (f ∙ e))
three_tests false false false p' q' s' m v v1 v2 v3 ep eq es pq qs ps e f g = rw (sym ep, sym eq, sym es) (g ∙ f ∙ e)

flipped : (x a y b : ℕ) → (eqb x a && eqb y b) ≡ (eqb a x && eqb b y)
flipped x a y b = grind (arith, nat_tests)

apart : (x y a b c d : ℕ) → (a ≡ c → ⊥) → (eqb x a && eqb y b) ≡ true → (eqb x c && eqb y d) ≡ true → ⊥
apart x y a b c d h e f = grind (arith, nat_tests)

pub lowered_cycle : (n a b c x y m v v1 v2 v3 : ℕ) → AreThree n a b c → v1 ≡ cond (eqb x a && eqb y b) (lowered v m) v → v2 ≡ cond (eqb x b && eqb y c) (lowered v1 m) v1 → v3 ≡ cond (eqb x c && eqb y a) (lowered v2 m) v2
    → v3 ≡ cond (has_pair (cycle_arcs (a ∷ b ∷ c ∷ [])) x y) (lowered v m) v
lowered_cycle n a b c x y m v v1 v2 v3 three e f g =
    three_tests (eqb x a && eqb y b) (eqb x b && eqb y c) (eqb x c && eqb y a) (eqb a x && eqb b y) (eqb b x && eqb c y) (eqb c x && eqb a y) m v v1 v2 v3
    (flipped x a y b) (flipped x b y c) (flipped x c y a) (apart x y a b b c three.first_second) (apart x y b c c a three.second_third) (apart x y a b c a three.first_third) e f g

-- ---- a step

-- the least word of a cycle is its least residual
pub cycle_word : (C : Matrix) (G : List Pair) (terms : List Term) (t : List ℤ) (a b c : ℕ) → IsPartialOrder (record { size = C.size; pairs = G }) → AreThree C.size a b c → HasResiduals C G terms t
    → (cycle_residual G (reduced_entry C 1 terms) a b c ≡ min (slack t C.size a b) (min (slack t C.size b c) (slack t C.size c a))) × (min (slack t C.size a b) (min (slack t C.size b c) (slack t C.size c a)) < 2 ^ 62)
cycle_word C G terms t a b c order three has =
    let r : ℕ → ℕ → ℤ = reduced_entry C 1 terms in
    least_word (residual G r a b) (residual G r b c) (residual G r c a) (slack t C.size a b) (slack t C.size b c) (slack t C.size c a)
    (has.each a b three.first three.second three.first_second) (has.each b c three.second three.third three.second_third) (has.each c a three.third three.first (λ e. three.first_third (sym e)))
    (limited C.size G r a b c order)

-- what is known of the number that the code finds as the least word
pub record LeastWord (C : Matrix) (G : List Pair) (terms : List Term) (t : List ℤ) (a b c m : ℕ) : Type 0 where
  pub residual : cycle_residual G (reduced_entry C 1 terms) a b c ≡ m
  pub limit : m < 2 ^ 62
  pub least : m ≡ min (slack t C.size a b) (min (slack t C.size b c) (slack t C.size c a))

pub least_is : (C : Matrix) (f : FixedPairs) (terms : List Term) (t : List ℤ) (a b c n m : ℕ) → IsPartialOrder f → f.size ≡ C.size → AreThree C.size a b c → HasResiduals C f.pairs terms t → n ≡ C.size → m ≡ min (slack t n a b) (min (slack t n b c) (slack t n c a)) → LeastWord C f.pairs terms t a b c m
least_is C f terms t a b c n m is same three has size e =
    let order : IsPartialOrder (record { size = C.size; pairs = f.pairs }) = subst (λ (k : ℕ). IsPartialOrder (record { size = k; pairs = f.pairs })) same is in
    let word = cycle_word C f.pairs terms t a b c order three has in
    let least : m ≡ min (slack t C.size a b) (min (slack t C.size b c) (slack t C.size c a)) = e ∙ ap (λ k. min (slack t k a b) (min (slack t k b c) (slack t k c a))) size in
    record { residual = word.0 ∙ sym least; limit = subst (λ k. k < 2 ^ 62) (sym least) word.1; least = least }

arc_enough : (n a b c x y m : ℕ) (t : List ℤ) → m ≤ slack t n a b → m ≤ slack t n b c → m ≤ slack t n c a → has_pair (cycle_arcs (a ∷ b ∷ c ∷ [])) x y ≡ true → m ≤ slack t n x y
arc_enough n a b c x y m t h k l e = elim (arc_cases a b c x y e) [
  | inl p ↦ subst (λ v. m ≤ v) (ap (λ z. slack t n z b) p.0 ∙ ap (λ z. slack t n x z) p.1) h
  | inr rest ↦ elim rest [
    | inl p ↦ subst (λ v. m ≤ v) (ap (λ z. slack t n z c) p.0 ∙ ap (λ z. slack t n x z) p.1) k
    | inr p ↦ subst (λ v. m ≤ v) (ap (λ z. slack t n z a) p.0 ∙ ap (λ z. slack t n x z) p.1) l
  ]
]

-- the table has the residuals after the step
pub residuals_step : (C : Matrix) (G : List Pair) (terms : List Term) (t u : List ℤ) (a b c m : ℕ) → AreThree C.size a b c → HasResiduals C G terms t → 0 < m → m ≤ slack t C.size a b → m ≤ slack t C.size b c → m ≤ slack t C.size c a → length u ≡ length t
    → ((x y : ℕ) → x < C.size → y < C.size → slack u C.size x y ≡ cond (has_pair (cycle_arcs (a ∷ b ∷ c ∷ [])) x y) (lowered (slack t C.size x y) m) (slack t C.size x y))
    → HasResiduals C G (terms ++ dicycle a b c m ∷ []) u
residuals_step C G terms t u a b c m three has z h k l same each = record {
  square = same ∙ has.square;
  each = λ x y lx ly differ.
      let arcs = cycle_arcs (a ∷ b ∷ c ∷ []) in
      let p : Bool = has_pair arcs x y in
      let q : Bool = has_pair arcs y x in
      let f : ℤ = reduced_entry C 1 terms x y in
      let g : ℤ = reduced_entry C 1 terms y x in
      let step = word_step (has_pair G y x) (has_pair G x y) p q f g (slack t C.size x y) (slack t C.size y x) m (has.each x y lx ly differ) (has.each y x ly lx (λ e. differ (sym e))) z
      (arc_enough C.size a b c x y m t h k l) (arc_enough C.size a b c y x m t h k l) (one_way C.size a b c x y three) in
      let forth = reduced-dicycle C terms a b c m x y in
      let back = reduced-dicycle C terms a b c m y x in
      subst (λ (w : ℕ). IsResidualWord (residual G (reduced_entry C 1 (terms ++ dicycle a b c m ∷ [])) x y) w) (sym (each x y lx ly))
      (subst (λ (v : ℤ). IsResidualWord (residual_of (has_pair G y x) (has_pair G x y) (reduced_entry C 1 (terms ++ dicycle a b c m ∷ []) x y -ℤ v)) (cond p (lowered (slack t C.size x y) m) (slack t C.size x y))) (sym back)
      (subst (λ (v : ℤ). IsResidualWord (residual_of (has_pair G y x) (has_pair G x y) (v -ℤ (g -ℤ pos (cond q m 0)))) (cond p (lowered (slack t C.size x y) m) (slack t C.size x y))) (sym forth) step));
}

-- what is spent stays so
spent_step : (n : ℕ) (t u : List ℤ) (a b c m : ℕ) (cut : CutKind) → ((x y : ℕ) → x < n → y < n → slack u n x y ≡ cond (has_pair (cycle_arcs (a ∷ b ∷ c ∷ [])) x y) (lowered (slack t n x y) m) (slack t n x y)) → IsSpent n t cut → IsSpent n u cut
spent_step n t u a b c m cut each is =
    let stays : (x y : ℕ) → x < n → y < n → slack t n x y ≡ 0 → slack u n x y ≡ 0 = λ x y k l e. each x y k l ∙ lowered-zero (has_pair (cycle_arcs (a ∷ b ∷ c ∷ [])) x y) (slack t n x y) m e in
    record {
      a = is.a;
      b = is.b;
      c = is.c;
      is = is.is;
      three = is.three;
      none_left = elim is.none_left [
        | inl e ↦ inl (stays is.a is.b is.three.first is.three.second e)
        | inr rest ↦ elim rest [
          | inl e ↦ inr (inl (stays is.b is.c is.three.second is.three.third e))
          | inr e ↦ inr (inr (stays is.c is.a is.three.third is.three.first e))
        ]
      ];
    }

is_arc : (a b c x y : ℕ) → ((a ≡ x) × (b ≡ y)) ⊎ (((b ≡ x) × (c ≡ y)) ⊎ ((c ≡ x) × (a ≡ y))) → has_pair (cycle_arcs (a ∷ b ∷ c ∷ [])) x y ≡ true
is_arc a b c x y (inl e) = let k = e.0 in let l = e.1 in grind (arith, nat_tests)
is_arc a b c x y (inr (inl e)) = let k = e.0 in let l = e.1 in grind (arith, nat_tests)
is_arc a b c x y (inr (inr e)) = let k = e.0 in let l = e.1 in grind (arith, nat_tests)

pub which_least : (x y z : ℕ) → (min x (min y z) ≡ x) ⊎ ((min x (min y z) ≡ y) ⊎ (min x (min y z) ≡ z))
which_least x y z = elim (cases_lt x y) [
  | inl xy ↦ elim (cases_lt x z) [ inl xz ↦ inl (omega arith) | inr zx ↦ inr (inr (omega arith)) ]
  | inr yx ↦ elim (cases_lt y z) [ inl yz ↦ inr (inl (omega arith)) | inr zy ↦ inr (inr (omega arith)) ]
]

-- the cycle that was taken is spent
pub spent_cycle : (n : ℕ) (t u : List ℤ) (a b c m : ℕ) → AreThree n a b c → m ≡ min (slack t n a b) (min (slack t n b c) (slack t n c a)) → m < 2 ^ 62
    → ((x y : ℕ) → x < n → y < n → slack u n x y ≡ cond (has_pair (cycle_arcs (a ∷ b ∷ c ∷ [])) x y) (lowered (slack t n x y) m) (slack t n x y))
    → IsSpentCycle n u a b c
spent_cycle n t u a b c m three e l each =
    let gone : (x y : ℕ) → x < n → y < n → has_pair (cycle_arcs (a ∷ b ∷ c ∷ [])) x y ≡ true → m ≡ slack t n x y → slack u n x y ≡ 0 = λ x y lx ly on f.
    each x y lx ly ∙ taken (has_pair (cycle_arcs (a ∷ b ∷ c ∷ [])) x y) (slack t n x y) m on f l in
    elim (which_least (slack t n a b) (slack t n b c) (slack t n c a)) [
      | inl f ↦ inl (gone a b three.first three.second (is_arc a b c a b (inl (refl, refl))) (e ∙ f))
      | inr rest ↦ elim rest [
        | inl f ↦ inr (inl (gone b c three.second three.third (is_arc a b c b c (inr (inl (refl, refl)))) (e ∙ f)))
        | inr f ↦ inr (inr (gone c a three.third three.first (is_arc a b c c a (inr (inr (refl, refl)))) (e ∙ f)))
      ]
    ]
  where
    taken : (p : Bool) (w m : ℕ) → p ≡ true → m ≡ w → m < 2 ^ 62 → cond p (lowered w m) w ≡ 0
    taken true w m on f l = lowered-limited w m (omega (arith, f)) ∙ omega (arith, f)
    taken false w m on f l = absurd (cc)

pub packing_step : (C : Matrix) (G : List Pair) (r s : ScaledTerms) (t u : List ℤ) (a b c m : ℕ) → AreThree C.size a b c → IsPacking C G r t → m ≡ min (slack t C.size a b) (min (slack t C.size b c) (slack t C.size c a)) → 0 < m → m < 2 ^ 62 → length u ≡ length t
    → ((x y : ℕ) → x < C.size → y < C.size → slack u C.size x y ≡ cond (has_pair (cycle_arcs (a ∷ b ∷ c ∷ [])) x y) (lowered (slack t C.size x y) m) (slack t C.size x y))
    → FitsCut C.size (Dicycle (a ∷ b ∷ c ∷ [])) → s ≡ record { scale = r.scale; terms = r.terms ++ dicycle a b c m ∷ [] } → IsPacking C G s u
packing_step C G r s t u a b c m three packing e z l same each fits is =
    let spent : IsSpent C.size u (Dicycle (a ∷ b ∷ c ∷ [])) = record { a = a; b = b; c = c; is = refl; three = three; none_left = spent_cycle C.size t u a b c m three e l each } in
    subst (λ (k : ScaledTerms). IsPacking C G k u) (sym is) (record {
      scale = packing.scale;
      fit = All-push (λ k. FitsCut C.size k.cut) r.terms (dicycle a b c m) packing.fit fits;
      residuals = residuals_step C G r.terms t u a b c m three packing.residuals z (omega (arith, e)) (omega (arith, e)) (omega (arith, e)) same each;
      spent = All-push (λ k. IsSpent C.size u k.cut) r.terms (dicycle a b c m) (λ k d n. spent_step C.size t u a b c m (get_or r.terms k d).cut each (packing.spent k d n)) spent;
    })

-- ---- steps in turn

pub in_turn_more : {X : Type 0} (a k : ℕ) (step : ℕ → X → X) (x : X) → a ≤ k → in_turn a (k + 1 - a) step x ≡ step k (in_turn a (k - a) step x)
in_turn_more a k step x l =
    let count : k + 1 - a ≡ suc (k - a) = omega arith in
    let place : a + (k - a) ≡ k = omega arith in
    ap (λ j. in_turn a j step x) count ∙ ap (λ j. step j (in_turn a (k - a) step x)) place

pub in_turn_next : {X : Type 0} (k : ℕ) (step : ℕ → X → X) (x : X) → in_turn 0 (k + 1) step x ≡ step k (in_turn 0 k step x)
in_turn_next k step x =
    let count : k + 1 ≡ suc k = omega arith in
    let place : 0 + k ≡ k = omega arith in
    ap (λ j. in_turn 0 j step x) count ∙ ap (λ j. step j (in_turn 0 k step x)) place

-- ---- what is left in the end

zero_word : (M : Option ℕ) (w : ℕ) → IsResidualWord M w → w ≡ 0 → M ≡ Some 0
zero_word (Some m) w e z = ap Some (sym e.0 ∙ z)
zero_word None w e z = absurd (omega (arith, e))

least_zero : (A B D : Option ℕ) → (A ≡ Some 0) ⊎ ((B ≡ Some 0) ⊎ (D ≡ Some 0)) → residual_number (lesser A (lesser B D)) ≡ 0
least_zero A B D (inl e) = rw e (first (lesser B D))
  where
    first : (y : Option ℕ) → residual_number (lesser (Some 0) y) ≡ 0
    first None = refl
    first (Some k) = omega arith
least_zero A B D (inr (inl e)) = rw e (second A D)
  where
    second : (x y : Option ℕ) → residual_number (lesser x (lesser (Some 0) y)) ≡ 0
    second None None = refl
    second None (Some d) = omega arith
    second (Some a) None = omega arith
    second (Some a) (Some d) = omega arith
least_zero A B D (inr (inr e)) = rw e (third A B)
  where
    third : (x y : Option ℕ) → residual_number (lesser x (lesser y (Some 0))) ≡ 0
    third None None = refl
    third None (Some d) = omega arith
    third (Some a) None = omega arith
    third (Some a) (Some d) = omega arith

-- a cycle that is spent in the table has taken all that it can
pub exhausted_cycle : (C : Matrix) (G : List Pair) (terms : List Term) (t : List ℤ) (a b c : ℕ) → HasResiduals C G terms t → AreThree C.size a b c → IsSpentCycle C.size t a b c → cycle_residual G (reduced_entry C 1 terms) a b c ≡ 0
exhausted_cycle C G terms t a b c has three spent =
    let r : ℕ → ℕ → ℤ = reduced_entry C 1 terms in
    least_zero (residual G r a b) (residual G r b c) (residual G r c a) (elim spent [
      | inl e ↦ inl (zero_word (residual G r a b) (slack t C.size a b) (has.each a b three.first three.second three.first_second) e)
      | inr rest ↦ elim rest [
        | inl e ↦ inr (inl (zero_word (residual G r b c) (slack t C.size b c) (has.each b c three.second three.third three.second_third) e))
        | inr e ↦ inr (inr (zero_word (residual G r c a) (slack t C.size c a) (has.each c a three.third three.first (λ f. three.first_third (sym f))) e))
      ]
    ])

pub exhausted : (C : Matrix) (G : List Pair) (terms : List Term) (t : List ℤ) (cut : CutKind) → HasResiduals C G terms t → IsSpent C.size t cut → IsExhausted G (reduced_entry C 1 terms) cut
exhausted C G terms t cut has is = record {
  a = is.a;
  b = is.b;
  c = is.c;
  is = is.is;
  none_left = exhausted_cycle C G terms t is.a is.b is.c has is.three is.none_left;
}
