-- The command line.
use Rattle.std.specs.Prelude.{ℕ, ◌≤◌, ◌&&◌, List, [], ◌∷◌, codes, Option, None, Some, if◌then◌else◌, ⊤}
use Rattle.std.specs.Str.{bytes_eq}
use Rattle.lop_desk.specs.Number.{digits_value}
use Rattle.lop_words.specs.declared.command.Command.{Command}
use Rattle.lop_words.specs.declared.command.Command.TheVariants.{Solve, Check, Value, Gen}
use Rattle.lop_words.specs.declared.command.Format.{Format}
use Rattle.lop_words.specs.Word.{is_name_word, format_of, is_seed, is_size}
use Rattle.lop_words.specs.Options.{value_of, are_options, workers_of, budget_of, certificate_of}
use Rattle.lop_words.specs.declared.read.TheConstants.{MOST_OBJECTS}
use Rattle.lop_words.specs.declared.options.TheConstants.{MOST_NODES, MOST_WORKERS}

-- `solve` with what its options say
abbrev pub solve_with : Format → List ℕ → Option ℕ → Option ℕ → Option (Option (List ℕ)) → Option Command
solve_with format file (Some workers) (Some nodes) (Some cert) = Some (Solve format file workers nodes cert)
solve_with format file (Some workers) (Some nodes) None = None
solve_with format file (Some workers) None cert = None
solve_with format file None nodes cert = None

-- the options that `solve` takes
abbrev pub solve_options : List (List ℕ)
solve_options = codes "--workers" ∷ codes "--nodes" ∷ codes "--cert" ∷ []

-- behind FILE stand options of `solve`, in any order
abbrev pub solve_command : Format → List ℕ → List (List ℕ) → Option Command
solve_command format file words =
    if are_options solve_options words
    then solve_with format file (workers_of (value_of (codes "--workers") words)) (budget_of (value_of (codes "--nodes") words))
    (certificate_of file (value_of (codes "--cert") words))
    else None

-- behind FILE stands the certificate's name
abbrev pub check_command : Format → List ℕ → List (List ℕ) → Option Command
check_command format file [] = None
check_command format file (cert ∷ []) = if is_name_word cert then Some (Check format file cert) else None
check_command format file (cert ∷ word ∷ words) = None

-- behind FILE stands the name of an order's file
abbrev pub value_command : Format → List ℕ → List (List ℕ) → Option Command
value_command format file [] = None
value_command format file (order_file ∷ []) = if is_name_word order_file then Some (Value format file order_file) else None
value_command format file (order_file ∷ word ∷ words) = None

-- the verb says what stands behind FILE
abbrev pub verb_command : List ℕ → Format → List ℕ → List (List ℕ) → Option Command
verb_command verb format file words =
    if bytes_eq verb (codes "solve") then solve_command format file words
    else (if bytes_eq verb (codes "check") then check_command format file words else (if bytes_eq verb (codes "value") then value_command format file words else None))

-- the verb is followed by a format and FILE
abbrev pub formatted_command : List ℕ → Option Format → List ℕ → List (List ℕ) → Option Command
formatted_command verb None file words = None
formatted_command verb (Some format) file words = if is_name_word file then verb_command verb format file words else None

-- behind `gen` stand a seed and a number of objects, and nothing else
abbrev pub gen_command : List ℕ → List ℕ → List (List ℕ) → Option Command
gen_command seed n [] = if is_seed seed && is_size n then Some (Gen (digits_value seed) (digits_value n)) else None
gen_command seed n (word ∷ words) = None

-- the command that the words after the program's name spell
abbrev pub command_of : List (List ℕ) → Option Command
command_of [] = None
command_of (verb ∷ []) = None
command_of (verb ∷ first ∷ []) = None
command_of (verb ∷ first ∷ second ∷ words) = if bytes_eq verb (codes "gen") then gen_command first second words else formatted_command verb (format_of first) second words

-- the numbers of workers, nodes and objects are within their limits
abbrev pub IsWithinLimits : Command → Type 0
IsWithinLimits (Solve format file workers nodes cert) = (1 ≤ workers) × (workers ≤ MOST_WORKERS) × (1 ≤ nodes) × (nodes ≤ MOST_NODES)
IsWithinLimits (Gen seed n) = (1 ≤ n) × (n ≤ MOST_OBJECTS)
IsWithinLimits other = ⊤
