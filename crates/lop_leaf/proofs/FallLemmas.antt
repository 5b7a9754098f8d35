-- The Lagrangian value where all pairs are decided, and no term is there.
use Rattle.std.proofs.Common.{◌≡◌, ℕ, ◌<◌, Bool, true, false, cond, List, [], get_or, refl, sym, ◌∙◌, ap, inl, inr, ℤ, pos, ◌+ℤ◌, ◌-ℤ◌, ◌*ℤ◌, arith}
use Rattle.std.specs.Prelude.{IsTrue}
use Rattle.std.specs.Int.{int_max}
use Rattle.std.proofs.lemmas.Int.{ints}
use Rattle.std.proofs.lemmas.Bool.Decides.{nat_tests}
use Rattle.lop_model.specs.Order.{IsOrder, place_of, stands_before}
use Rattle.lop_model.specs.Sums.{pair_sum}
use Rattle.lop_model.specs.Matrix.{Matrix, entry, weight}
use Rattle.lop_model.specs.Fixings.{has_pair, one_pair, pair_then, IsLinearExtension, AreAllDecided}
use Rattle.lop_model.specs.Bound.{pair_value}
use Rattle.lop_model.proofs.SumLemmas.{pair_sum-same, pair_sum-scale}
use Rattle.lop_model.proofs.OrderLemmas.{pair_sum-order}
use Rattle.lop_cuts.specs.Lagrangian.{Term, reduced_entry, lagrangian_value}
use Rattle.lop_fix.specs.PartialOrder.{FixedPairs, IsPartialOrder}

pub false_from_not : (b : Bool) → (IsTrue b → ⊥) → b ≡ false
false_from_not true h = absurd (h refl)
false_from_not false h = refl

-- of two objects that are fixed one way, the other way isn't fixed
pub not_both : (f : FixedPairs) (a b : ℕ) → IsPartialOrder f → IsTrue (has_pair f.pairs a b) → IsTrue (has_pair f.pairs b a) → ⊥
not_both f a b is t u = is.no_cycle a (pair_then t (one_pair u))

chosen_first : (b g : Bool) (x y : ℤ) → b ≡ true → cond b x y ≡ cond true x (cond g y (int_max x y))
chosen_first true g x y e = refl
chosen_first false g x y e = absurd (cc)

chosen_second : (b f g : Bool) (x y : ℤ) → b ≡ false → f ≡ false → g ≡ true → cond b x y ≡ cond f x (cond g y (int_max x y))
chosen_second false false true x y e k l = refl
chosen_second true f g x y e k l = absurd (cc)
chosen_second false true g x y e k l = absurd (cc)
chosen_second false false false x y e k l = absurd (cc)

value_when : (f : FixedPairs) (r : ℕ → ℕ → ℤ) (s : List ℕ) (i j : ℕ) → IsPartialOrder f → IsLinearExtension s f.pairs → IsTrue (has_pair f.pairs i j) → cond (stands_before s i j) (r i j) (r j i) ≡ pair_value f.pairs r i j
value_when f r s i j is x t =
    let here : place_of s i < place_of s j = x.each i j t in
    let first : stands_before s i j ≡ true = grind (arith, nat_tests) in
    rw t (chosen_first (stands_before s i j) (has_pair f.pairs j i) (r i j) (r j i) first)

value_turned : (f : FixedPairs) (r : ℕ → ℕ → ℤ) (s : List ℕ) (i j : ℕ) → IsPartialOrder f → IsLinearExtension s f.pairs → IsTrue (has_pair f.pairs j i) → cond (stands_before s i j) (r i j) (r j i) ≡ pair_value f.pairs r i j
value_turned f r s i j is x t =
    let here : place_of s j < place_of s i = x.each j i t in
    let second : stands_before s i j ≡ false = grind (arith, nat_tests) in
    chosen_second (stands_before s i j) (has_pair f.pairs i j) (has_pair f.pairs j i) (r i j) (r j i) second (false_from_not (has_pair f.pairs i j) (λ u. not_both f i j is u t)) t

-- where all pairs are decided, an order that extends them gains at each pair what the pair gives
chosen_values : (n : ℕ) (f : FixedPairs) (r : ℕ → ℕ → ℤ) (s : List ℕ) → IsPartialOrder f → AreAllDecided n f.pairs → IsLinearExtension s f.pairs → pair_sum n (λ i j. cond (stands_before s i j) (r i j) (r j i)) ≡ pair_sum n (pair_value f.pairs r)
chosen_values n f r s is all x =
    pair_sum-same n (λ i j. cond (stands_before s i j) (r i j) (r j i)) (pair_value f.pairs r) (λ i j l m. elim (all.each i j l m) [
      | inl t ↦ value_when f r s i j is x ((is.closed.each i j).1 t)
      | inr t ↦ value_turned f r s i j is x ((is.closed.each j i).1 t)
    ])

without_charge : (x : ℤ) → x ≡ x -ℤ pos 0
without_charge x = omega (arith, ints)

nothing_more : (x : ℤ) → x ≡ pos 0 +ℤ x
nothing_more x = omega (arith, ints)

plain_value : (C : Matrix) (f : FixedPairs) (scale : ℕ) (s : List ℕ) → IsPartialOrder f → AreAllDecided C.size f.pairs → IsOrder C.size s → IsLinearExtension s f.pairs → pos scale *ℤ weight C s ≡ lagrangian_value C f.pairs scale []
plain_value C f scale s is all o x =
    let r : ℕ → ℕ → ℤ = reduced_entry C scale [] in
    let entries : ℕ → ℕ → ℤ = λ p q. entry C (get_or s p 0) (get_or s q 0) in
    ap (λ n. pos scale *ℤ pair_sum n entries) o.complete
    ∙ sym (pair_sum-scale C.size scale entries)
    ∙ pair_sum-same C.size (λ p q. pos scale *ℤ entries p q) (λ p q. r (get_or s p 0) (get_or s q 0)) (λ p q _ _. without_charge (pos scale *ℤ entries p q))
    ∙ pair_sum-order C.size s r o
    ∙ chosen_values C.size f r s is all x
    ∙ nothing_more (pair_sum C.size (pair_value f.pairs r))

-- where all pairs are decided and no term is there, scale times the weight of the order that extends them is the Lagrangian value
pub weight-decided : (C : Matrix) (f : FixedPairs) (scale : ℕ) (terms : List Term) (s : List ℕ) → IsPartialOrder f → AreAllDecided C.size f.pairs → terms ≡ [] → IsOrder C.size s → IsLinearExtension s f.pairs → pos scale *ℤ weight C s ≡ lagrangian_value C f.pairs scale terms
weight-decided C f scale terms s is all e o x = plain_value C f scale s is all o x ∙ ap (λ ts. lagrangian_value C f.pairs scale ts) (sym e)
