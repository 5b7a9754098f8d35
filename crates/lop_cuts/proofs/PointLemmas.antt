-- What a point is after the value of an arc and of its reverse were written.
use Rattle.std.proofs.Common.{◌≡◌, ◌≢◌, ◌⊎◌, ℕ, ◌+◌, ◌-◌, ◌*◌, ◌^◌, ◌<◌, ◌≤◌, List, length, set, inl, inr, refl, sym, ◌∙◌, ap, arith}
use Rattle.std.proofs.lemmas.Bool.{cases_eq}
use Rattle.std.proofs.lemmas.List.{get_or-set_same, get_or-set_other, length-set}
use Rattle.std.proofs.lemmas.Nat.{mul-add-lt, same_from_place}
use Rattle.lop_cuts.specs.Point.{PointValues, value_at, IsPoint, IsWithArc, AreOtherObjects}

-- the list after both values were written
abbrev pub written : ℕ → List ℕ → ℕ → ℕ → ℕ → List ℕ
written n vs a b to = set (set vs (a * n + b) to) (b * n + a) (2 ^ 32 - to)

both_fail : (a b x y : ℕ) → (x ≢ a) ⊎ (y ≢ b) → x ≡ a → y ≡ b → ⊥
both_fail a b x y (inl other) e f = other e
both_fail a b x y (inr other) e f = other f

pub IsWithArc-written : (n : ℕ) (vs : List ℕ) (a b to : ℕ) → length vs ≡ n * n → a < n → b < n → a ≢ b → IsWithArc (record { size = n; values = vs }) (record { size = n; values = written n vs a b to }) a b to
IsWithArc-written n vs a b to square row column differ =
    let i = a * n + b in
    let j = b * n + a in
    let in_forth : i < length vs = omega (arith, mul-add-lt a n b n row column) in
    let in_back : j < length (set vs i to) = omega (arith, length-set vs i to, mul-add-lt b n a n column row) in
    let apart : i ≢ j = λ e. differ (same_from_place a b b a n column row e).0 in
    record {
      size = refl;
      arc = get_or-set_other (set vs i to) j i (2 ^ 32 - to) 0 apart ∙ get_or-set_same vs i to 0 in_forth;
      reverse = get_or-set_same (set vs i to) j (2 ^ 32 - to) 0 in_back;
      others = λ x y l m other.
          get_or-set_other (set vs i to) j (x * n + y) (2 ^ 32 - to) 0 (λ e. let same = same_from_place x y b a n m row e in both_fail b a x y other.1 same.0 same.1)
          ∙ get_or-set_other vs i (x * n + y) to 0 (λ e. let same = same_from_place x y a b n m column e in both_fail a b x y other.0 same.0 same.1);
    }

-- an arc is the one that was written, its reverse, or another
which_arc : (a b x y : ℕ) → ((x ≡ a) × (y ≡ b)) ⊎ (((x ≡ b) × (y ≡ a)) ⊎ AreOtherObjects a b x y)
which_arc a b x y =
    elim (cases_eq x a) [
      | inl xa ↦ elim (cases_eq y b) [
        | inl yb ↦ inl (xa, yb)
        | inr yo ↦ elim (cases_eq x b) [
          | inl xb ↦ elim (cases_eq y a) [ inl ya ↦ inr (inl (xb, ya)) | inr yn ↦ inr (inr (inr yo, inr yn)) ]
          | inr xn ↦ inr (inr (inr yo, inl xn))
        ]
      ]
      | inr xo ↦ elim (cases_eq x b) [
        | inl xb ↦ elim (cases_eq y a) [ inl ya ↦ inr (inl (xb, ya)) | inr yn ↦ inr (inr (inl xo, inr yn)) ]
        | inr xn ↦ inr (inr (inl xo, inl xn))
      ]
    ]

swapped : (a b x y : ℕ) → AreOtherObjects a b x y → AreOtherObjects a b y x
swapped a b x y other = (turned other.1, turned other.0) where
  turned : {P Q : Type 0} → P ⊎ Q → Q ⊎ P
  turned (inl p) = inr p
  turned (inr q) = inl q

-- a point with another value at an arc, and the rest at its reverse, is a point
pub IsPoint-with_arc : (p q : PointValues) (a b to : ℕ) → IsPoint p → IsWithArc p q a b to → length q.values ≡ p.size * p.size → a < p.size → b < p.size → to ≤ 2 ^ 32 → IsPoint q
IsPoint-with_arc p q a b to was is square row column within = record {
  positive = omega (arith, is.size, was.positive);
  within_limit = omega (arith, is.size, was.within_limit);
  square = square ∙ ap (λ n. n * n) (sym is.size);
  reverse = λ x y l m.
      let in_x : x < p.size = omega (arith, is.size) in
      let in_y : y < p.size = omega (arith, is.size) in
      let rest : to + (2 ^ 32 - to) ≡ 2 ^ 32 = omega arith in
      elim (which_arc a b x y) [
        | inl same ↦ ap (λ k. value_at q k y + value_at q y k) same.0 ∙ ap (λ k. value_at q a k + value_at q k a) same.1 ∙ ap (λ k. k + value_at q b a) is.arc ∙ ap (λ k. to + k) is.reverse ∙ rest
        | inr more ↦ elim more [
          | inl same ↦ ap (λ k. value_at q k y + value_at q y k) same.0 ∙ ap (λ k. value_at q b k + value_at q k b) same.1 ∙ ap (λ k. k + value_at q a b) is.reverse ∙ ap (λ k. 2 ^ 32 - to + k) is.arc ∙ omega (arith, rest)
          | inr other ↦ ap (λ k. k + value_at q y x) (is.others x y in_x in_y other) ∙ ap (λ k. value_at p x y + k) (is.others y x in_y in_x (swapped a b x y other)) ∙ was.reverse x y in_x in_y
        ]
      ];
}
