-- Digits, one by one, with a cap on their value.
use Rattle.std.proofs.Common.{◌≡◌, ℕ, ◌≤◌, min, Bool, ◌&&◌, List, inl, inr, ap, arith}
use Rattle.std.proofs.lemmas.Bool.{cases_lt}
use Rattle.std.proofs.lemmas.Bool.Decides.{nat_tests}
use Rattle.lop_desk.specs.Number.{is_digit, value_from}
use Rattle.lop_desk.proofs.Digits.{value_grows}

-- one digit more
pub digit_more : (b : ℕ) (others : Bool) → 48 ≤ b → b ≤ 57 → (is_digit b && others) ≡ others
digit_more b others low high = grind (arith, nat_tests)

-- a cap on what came before doesn't show behind the cap
pub value_from-capped : (cap value : ℕ) (word : List ℕ) → min (value_from (min value cap) word) cap ≡ min (value_from value word) cap
value_from-capped cap value word =
    elim (cases_lt value cap) [
      | inl under ↦ ap (λ (v : ℕ). min (value_from v word) cap) (omega (arith, under))
      | inr over ↦ omega (arith, over, value_grows (min value cap) word, value_grows value word)
    ]
