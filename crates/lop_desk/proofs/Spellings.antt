-- The parts of a spelling.
use Rattle.std.proofs.Common.{◌≡◌, ℕ, ◌<◌, Bool, true, false, not, ◌||◌, ◌==◌, List, length, nat_lt, get_or, refl}
use Rattle.std.proofs.lemmas.Bool.{and_parts, and_from, eqb-true, eq-eqb, lt-ltb, ltb-true}
use Rattle.lop_desk.specs.Number.{all_digits, is_digit_word, is_plain_word}

-- what a plain number's spelling is made of
pub record PlainParts (word : List ℕ) : Type 0 where
  pub not_empty : 0 < length word
  pub digits : all_digits word ≡ true
  pub shortest : get_or word 0 0 ≡ 48 → length word ≡ 1

pub plain_parts : (word : List ℕ) → is_plain_word word ≡ true → PlainParts word
plain_parts word is =
    let parts = and_parts (is_digit_word word) (not (get_or word 0 0 == 48) || length word == 1) is in
    let some = and_parts (nat_lt 0 (length word)) (all_digits word) parts.0 in
    record { not_empty = ltb-true 0 (length word) some.0; digits = some.1; shortest = λ first. one (get_or word 0 0 == 48) (eq-eqb _ _ first) parts.1 }
  where
    one : (t : Bool) → t ≡ true → (not t || length word == 1) ≡ true → length word ≡ 1
    one true is so = eqb-true (length word) 1 so
    one false is so = cc

pub plain_from : (word : List ℕ) → PlainParts word → is_plain_word word ≡ true
plain_from word p =
    and_from (is_digit_word word) (not (get_or word 0 0 == 48) || length word == 1) (and_from _ _ (lt-ltb 0 (length word) p.not_empty) p.digits) (by (get_or word 0 0 == 48) refl)
  where
    by : (t : Bool) → (get_or word 0 0 == 48) ≡ t → (not t || length word == 1) ≡ true
    by true is = eq-eqb (length word) 1 (p.shortest (eqb-true (get_or word 0 0) 48 is))
    by false is = refl
