-- What holds of every command that words spell.
use Rattle.std.proofs.Common.{◌≡◌, ℕ, ◌≤◌, Bool, true, false, ◌&&◌, cond, List, [], ◌∷◌, codes, Option, None, Some, refl, sym, subst, arith}
use Rattle.std.proofs.lemmas.Bool.{leb-true}
use Rattle.std.specs.Prelude.{nat_le, Result, Ok, Err, IfOk}
use Rattle.std.specs.Str.{bytes_eq}
use Rattle.lop_desk.specs.Number.{digits_value, is_plain_word}
use Rattle.lop_words.specs.declared.command.Command.{Command}
use Rattle.lop_words.specs.declared.command.Command.TheVariants.{Solve, Check, Value, Gen}
use Rattle.lop_words.specs.declared.command.Format.{Format}
use Rattle.lop_words.specs.declared.command.WordsFault.{WordsFault}
use Rattle.lop_words.specs.Word.{is_name_word, format_of, is_count, is_seed, is_size}
use Rattle.lop_words.specs.Options.{value_of, are_options, number_or, workers_of, budget_of, certificate_of}
use Rattle.lop_words.specs.Command.{command_of, gen_command, solve_options, formatted_command, verb_command, solve_command, solve_with, check_command, value_command, IsWithinLimits}

-- a certificate, if there is one, has another name than the file
abbrev IsApart : List ℕ → Option (List ℕ) → Type 0
IsApart file None = Unit {0}
IsApart file (Some name) = bytes_eq name file ≡ false

-- the numbers are within their limits, and the certificate has another name than the file
abbrev IsSound : Command → Type 0
IsSound (Solve format file workers nodes cert) = IsWithinLimits (Solve format file workers nodes cert) × IsApart file cert
IsSound other = IsWithinLimits other

-- a plain number that passes both tests lies between them
between : (plain : Bool) (low high n : ℕ) → (plain && nat_le low n && nat_le n high) ≡ true → (low ≤ n) × (n ≤ high)
between plain low high n is = by plain (nat_le low n) (nat_le n high) refl refl is
  where
    by : (a b c : Bool) → b ≡ nat_le low n → c ≡ nat_le n high → (a && b && c) ≡ true → (low ≤ n) × (n ≤ high)
    by true true true above below is = (leb-true low n (sym above), leb-true n high (sym below))
    by true true false above below is = absurd cc
    by true false c above below is = absurd cc
    by false b c above below is = absurd cc

-- a number that an option's value spells is within its limits
number_within : (other most : ℕ) (value : Option (List ℕ)) (n : ℕ) → 1 ≤ other → other ≤ most → number_or other most value ≡ Some n → (1 ≤ n) × (n ≤ most)
number_within other most None n some less is = let same : other ≡ n = cc in (omega (arith, same, some), omega (arith, same, less))
number_within other most (Some word) n some less is = by (is_count most word) refl is
  where
    by : (t : Bool) → t ≡ is_count most word → cond t (Some (digits_value word)) None ≡ Some n → (1 ≤ n) × (n ≤ most)
    by true test is = let same : digits_value word ≡ n = cc in let P : ℕ → Type 0 = λ k. (1 ≤ k) × (k ≤ most) in subst P same (between (is_plain_word word) 1 most (digits_value word) (sym test))
    by false test is = absurd cc

-- a certificate that an option's value names isn't FILE
certificate_apart : (file : List ℕ) (value cert : Option (List ℕ)) → certificate_of file value ≡ Some cert → IsApart file cert
certificate_apart file None cert is = let same : None ≡ cert = cc in subst (IsApart file) same tt
certificate_apart file (Some name) cert is = by (is_name_word name) (bytes_eq name file) refl is
  where
    by : (named same : Bool) → same ≡ bytes_eq name file → cond named (cond same None (Some (Some name))) None ≡ Some cert → IsApart file cert
    by true true test is = absurd cc
    by true false test is = let same : Some name ≡ cert = cc in subst (IsApart file) same (sym test)
    by false same test is = absurd cc

module _ (command : Command) where
  -- a sound command, when it is the one
  the_one : (c : Command) → IsSound c → Some c ≡ Some command → IsSound command
  the_one c sound is = let same : c ≡ command = cc in subst IsSound same sound

  -- either way of a test
  either : (t : Bool) (x y : Option Command) → (x ≡ Some command → IsSound command) → (y ≡ Some command → IsSound command) → cond t x y ≡ Some command → IsSound command
  either true x y then_sound else_sound is = then_sound is
  either false x y then_sound else_sound is = else_sound is

  -- none where the test fails
  where_true : (t : Bool) (x : Option Command) → (x ≡ Some command → IsSound command) → cond t x None ≡ Some command → IsSound command
  where_true t x sound is = either t x None sound (λ none. absurd cc) is

  with_sound : (format : Format) (file : List ℕ) (count value name : Option (List ℕ)) (workers nodes : Option ℕ) (cert : Option (Option (List ℕ)))
      → workers ≡ workers_of count → nodes ≡ budget_of value → cert ≡ certificate_of file name → solve_with format file workers nodes cert ≡ Some command → IsSound command
  with_sound format file count value name None nodes cert workers_is nodes_is cert_is is = absurd cc
  with_sound format file count value name (Some workers) None cert workers_is nodes_is cert_is is = absurd cc
  with_sound format file count value name (Some workers) (Some nodes) None workers_is nodes_is cert_is is = absurd cc
  with_sound format file count value name (Some workers) (Some nodes) (Some cert) workers_is nodes_is cert_is is =
      let few = number_within 1 16 count workers (omega arith) (omega arith) (sym workers_is) in
      let many = number_within 10000 1000000 value nodes (omega arith) (omega arith) (sym nodes_is) in
      the_one (Solve format file workers nodes cert) ((few.0, few.1, many.0, many.1), certificate_apart file name cert (sym cert_is)) is

  solve_sound : (format : Format) (file : List ℕ) (words : List (List ℕ)) → solve_command format file words ≡ Some command → IsSound command
  solve_sound format file words is =
      where_true (are_options solve_options words) _
      (λ with. with_sound format file (value_of (codes "--workers") words) (value_of (codes "--nodes") words) (value_of (codes "--cert") words) _ _ _ refl refl refl with) is

  check_sound : (format : Format) (file : List ℕ) (words : List (List ℕ)) → check_command format file words ≡ Some command → IsSound command
  check_sound format file [] is = absurd cc
  check_sound format file (cert ∷ []) is = where_true (is_name_word cert) _ (the_one (Check format file cert) tt) is
  check_sound format file (cert ∷ word ∷ words) is = absurd cc

  value_sound : (format : Format) (file : List ℕ) (words : List (List ℕ)) → value_command format file words ≡ Some command → IsSound command
  value_sound format file [] is = absurd cc
  value_sound format file (order_file ∷ []) is = where_true (is_name_word order_file) _ (the_one (Value format file order_file) tt) is
  value_sound format file (order_file ∷ word ∷ words) is = absurd cc

  verb_sound : (verb : List ℕ) (format : Format) (file : List ℕ) (words : List (List ℕ)) → verb_command verb format file words ≡ Some command → IsSound command
  verb_sound verb format file words is =
      either (bytes_eq verb (codes "solve")) _ _ (solve_sound format file words)
      (either (bytes_eq verb (codes "check")) _ _ (check_sound format file words) (where_true (bytes_eq verb (codes "value")) _ (value_sound format file words))) is

  formatted_sound : (verb : List ℕ) (format : Option Format) (file : List ℕ) (words : List (List ℕ)) → formatted_command verb format file words ≡ Some command → IsSound command
  formatted_sound verb None file words is = absurd cc
  formatted_sound verb (Some format) file words is = where_true (is_name_word file) _ (verb_sound verb format file words) is

  gen_sound : (seed n : List ℕ) (words : List (List ℕ)) → gen_command seed n words ≡ Some command → IsSound command
  gen_sound seed n [] is = by (is_seed seed) (is_size n) refl is
    where
      by : (s t : Bool) → t ≡ is_size n → cond (s && t) (Some (Gen (digits_value seed) (digits_value n))) None ≡ Some command → IsSound command
      by true true test is = the_one (Gen (digits_value seed) (digits_value n)) (between (is_plain_word n) 1 512 (digits_value n) (sym test)) is
      by true false test is = absurd cc
      by false t test is = absurd cc
  gen_sound seed n (word ∷ words) is = absurd cc

  -- what words spell is sound
  command_sound : (words : List (List ℕ)) → command_of words ≡ Some command → IsSound command
  command_sound [] is = absurd cc
  command_sound (verb ∷ []) is = absurd cc
  command_sound (verb ∷ first ∷ []) is = absurd cc
  command_sound (verb ∷ first ∷ second ∷ words) is = either (bytes_eq verb (codes "gen")) _ _ (gen_sound first second words) (formatted_sound verb (format_of first) second words) is

-- a command with a certificate names it otherwise than its file
pub names_apart : (words : List (List ℕ)) (kind : Format) (f n : List ℕ) (w k : ℕ) → command_of words ≡ Some (Solve kind f w k (Some n)) → bytes_eq n f ≡ false
names_apart words kind f n w k is = (command_sound (Solve kind f w k (Some n)) words is).1

-- a sound command is within its limits
within_limits : (command : Command) → IsSound command → IsWithinLimits command
within_limits (Solve format file workers nodes cert) sound = sound.0
within_limits other sound = sound

-- the numbers of a command are within their limits
pub limits : (words : List (List ℕ)) (command : Command) → command_of words ≡ Some command → IsWithinLimits command
limits words command is = within_limits command (command_sound command words is)

-- what a reader of a format and FILE answers is within its limits
pub formatted_limits : (verb : List ℕ) (format : Option Format) (file : List ℕ) (words : List (List ℕ)) (result : Result Command WordsFault)
    → IfOk result (λ command. formatted_command verb format file words ≡ Some command) → IfOk result IsWithinLimits
formatted_limits verb format file words (Ok command) is = within_limits command (formatted_sound command verb format file words is)
formatted_limits verb format file words (Err fault) is = tt
