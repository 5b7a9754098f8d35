-- Options, pair by pair.
use Rattle.std.proofs.Common.{◌≡◌, ℕ, ◌-◌, ◌<◌, ◌≤◌, Bool, true, false, ◌&&◌, ◌==◌, List, [], ◌∷◌, length, take, drop, map, get_or, None, refl, sym, ◌∙◌, ap, arith}
use Rattle.std.proofs.lemmas.List.{take_rest}
use Rattle.lop_words.specs.Options.{value_of, is_new_option, are_options}

module _ {X : Type 0} (text : X → List ℕ) where
  -- fewer than two words have no value
  pub value_of-short : (name : List ℕ) (xs : List X) → length xs < 2 → value_of name (map text xs) ≡ None
  value_of-short name [] short = refl
  value_of-short name (x ∷ []) short = refl
  value_of-short name (x ∷ y ∷ ys) short = absurd (omega arith)

module _ {X : Type 0} (text : X → List ℕ) (names : List (List ℕ)) where
  -- fewer than two words are options where there is none
  pub are_options-short : (xs : List X) (empty : Bool) → length xs < 2 → empty ≡ (length xs == 0) → empty ≡ are_options names (map text xs)
  are_options-short [] empty short is = is
  are_options-short (x ∷ []) empty short is = is
  are_options-short (x ∷ y ∷ ys) empty short is = absurd (omega arith)

  -- an option with its value, and what is behind them
  are_options-pair : (xs : List X) (option : X) → 2 ≤ length xs → option ≡ get_or xs 0 option → are_options names (map text xs) ≡ (is_new_option names (text option) (map text (drop 2 xs)) && are_options names (map text (drop 2 xs)))
  are_options-pair [] option long is = absurd (omega arith)
  are_options-pair (x ∷ []) option long is = absurd (omega arith)
  are_options-pair (x ∷ y ∷ ys) option long is = ap (λ (o : X). is_new_option names (text o) (map text ys) && are_options names (map text ys)) (sym is)

  rest_is : (xs : List X) → map text (take (length xs - 2) (drop 2 xs)) ≡ map text (drop 2 xs)
  rest_is xs = ap (map text) (take_rest xs 2)

  are_options-step : (xs : List X) (option : X) (new : Bool) → 2 ≤ length xs → option ≡ get_or xs 0 option → new ≡ is_new_option names (text option) (map text (take (length xs - 2) (drop 2 xs)))
      → are_options names (map text xs) ≡ (new && are_options names (map text (take (length xs - 2) (drop 2 xs))))
  are_options-step xs option new long is new_is =
      are_options-pair xs option long is ∙ sym (ap (λ (l : List (List ℕ)). is_new_option names (text option) l && are_options names l) (rest_is xs)) ∙ sym (ap (λ (t : Bool). t && are_options names (map text (take (length xs - 2) (drop 2 xs)))) new_is)

  pub are_options-old : (xs : List X) (option : X) (new : Bool) → 2 ≤ length xs → option ≡ get_or xs 0 option → new ≡ is_new_option names (text option) (map text (take (length xs - 2) (drop 2 xs))) → new ≡ false → are_options names (map text xs) ≡ false
  are_options-old xs option new long is new_is old =
      are_options-step xs option new long is new_is ∙ ap (λ (t : Bool). t && are_options names (map text (take (length xs - 2) (drop 2 xs)))) old

  pub are_options-more : (xs : List X) (option : X) (new : Bool) → 2 ≤ length xs → option ≡ get_or xs 0 option → new ≡ is_new_option names (text option) (map text (take (length xs - 2) (drop 2 xs))) → new ≡ true
      → are_options names (map text xs) ≡ are_options names (map text (take (length xs - 2) (drop 2 xs)))
  are_options-more xs option new long is new_is more =
      are_options-step xs option new long is new_is ∙ ap (λ (t : Bool). t && are_options names (map text (take (length xs - 2) (drop 2 xs)))) more
