-- Digits, one by one.
use Rattle.std.proofs.Common.{◌≡◌, ℕ, ◌+◌, ◌-◌, ◌*◌, ◌<◌, ◌≤◌, ◌&&◌, List, [], ◌∷◌, length, drop, get_or, sym, ◌∙◌, ap, arith}
use Rattle.std.proofs.lemmas.List.{drop_more}
use Rattle.lop_desk.specs.Number.{is_digit, all_digits, value_from}

-- the value never falls
pub value_grows : (so_far : ℕ) (bs : List ℕ) → so_far ≤ value_from so_far bs
value_grows so_far [] = omega arith
value_grows so_far (b ∷ bs) = omega (arith, value_grows (10 * so_far + (b - 48)) bs)

pub value_step : (so_far : ℕ) (word : List ℕ) (i : ℕ) (b : ℕ) → i < length word → b ≡ get_or word i 0 → value_from so_far (drop i word) ≡ value_from (10 * so_far + (b - 48)) (drop (i + 1) word)
value_step so_far word i b within is = ap (λ (l : List ℕ). value_from so_far l) (drop_more word i 0 within) ∙ ap (λ (x : ℕ). value_from (10 * so_far + (x - 48)) (drop (i + 1) word)) (sym is)

pub digits_step : (word : List ℕ) (i : ℕ) (b : ℕ) → i < length word → b ≡ get_or word i 0 → all_digits (drop i word) ≡ (is_digit b && all_digits (drop (i + 1) word))
digits_step word i b within is = ap all_digits (drop_more word i 0 within) ∙ ap (λ (x : ℕ). is_digit x && all_digits (drop (i + 1) word)) (sym is)
