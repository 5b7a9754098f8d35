-- The options behind FILE.
use Rattle.std.specs.Prelude.{ℕ, Bool, true, false, ◌&&◌, List, [], ◌∷◌, Option, None, Some, is_none, if◌then◌else◌}
use Rattle.std.specs.List.{list_any}
use Rattle.std.specs.Str.{bytes_eq}
use Rattle.lop_desk.specs.Number.{digits_value}
use Rattle.lop_words.specs.Word.{is_name_word, is_count}

-- of words that alternate between options and their values, the value of the option of this name
abbrev pub value_of : List ℕ → List (List ℕ) → Option (List ℕ)
value_of name [] = None
value_of name (option ∷ []) = None
value_of name (option ∷ value ∷ words) = if bytes_eq option name then Some value else value_of name words

-- one of these names
abbrev pub is_option : List (List ℕ) → List ℕ → Bool
is_option names word = list_any (λ name. bytes_eq name word) names

-- one of these names, which doesn't stand in the words behind it
abbrev pub is_new_option : List (List ℕ) → List ℕ → List (List ℕ) → Bool
is_new_option names option words = is_option names option && is_none (value_of option words)

-- the words are options of these names, each with its value, and none stands twice
abbrev pub are_options : List (List ℕ) → List (List ℕ) → Bool
are_options names [] = true
are_options names (option ∷ []) = false
are_options names (option ∷ value ∷ words) = is_new_option names option words && are_options names words

-- the number from 1 to the greatest that an option's value spells, or another where the option isn't given
abbrev pub number_or : ℕ → ℕ → Option (List ℕ) → Option ℕ
number_or other most None = Some other
number_or other most (Some value) = if is_count most value then Some (digits_value value) else None

-- the number of workers, 1 where none is given
abbrev pub workers_of : Option (List ℕ) → Option ℕ
workers_of value = number_or 1 16 value

-- the budget of nodes, 10,000 where none is given
abbrev pub budget_of : Option (List ℕ) → Option ℕ
budget_of value = number_or 10000 1000000 value

-- the certificate's name, if one is given; it isn't FILE
abbrev pub certificate_of : List ℕ → Option (List ℕ) → Option (Option (List ℕ))
certificate_of file None = Some None
certificate_of file (Some name) = if is_name_word name then (if bytes_eq name file then None else Some (Some name)) else None
