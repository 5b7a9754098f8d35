-- What a line says.
use Rattle.std.specs.Prelude.{◌≡◌, ℕ, ◌≤◌, ◌==◌, Bool, true, false, List, Option, None, Some, if◌then◌else◌}
use Rattle.lop_preflib.specs.Line.{told_size, told_name, size_word_of, name_for, is_order_line}
use Rattle.lop_preflib.specs.declared.line.Line.{Line}
use Rattle.lop_preflib.specs.declared.line.Line.TheVariants.{Size, Name, Order, Other}
use Rattle.lop_preflib.specs.declared.profile.TheConstants.{MAX_ALTERNATIVES}

-- the line's size word, whether it is an order line, and the name that it gives the alternative with each number up to 512
pub record Says (line : List ℕ) (size : Option (List ℕ)) (order : Bool) (name : ℕ → Option (List ℕ)) : Type 0 where
  pub size_word : size_word_of line ≡ size
  pub order_line : is_order_line line ≡ order
  pub names : (i : ℕ) → 1 ≤ i → i ≤ MAX_ALTERNATIVES → name_for i line ≡ name i

-- the names that a metadata text gives: none, or one
abbrev pub AreNames : List ℕ → (ℕ → Option (List ℕ)) → Type 0
AreNames text name = (i : ℕ) → 1 ≤ i → i ≤ MAX_ALTERNATIVES → told_name i text ≡ name i

-- a metadata text's size word, and the name that it gives the alternative with each number up to 512
pub record Tells (text : List ℕ) (size : Option (List ℕ)) (name : ℕ → Option (List ℕ)) : Type 0 where
  pub size_word : told_size text ≡ size
  pub names : AreNames text name

abbrev pub no_name : ℕ → Option (List ℕ)
no_name i = None

-- a name for one number
abbrev pub only_name : ℕ → List ℕ → ℕ → Option (List ℕ)
only_name number name i = if i == number then Some name else None

-- a metadata text tells what a line of this kind says
abbrev pub IsTold : List ℕ → Line → Type 0
IsTold text (Size word) = Tells text (Some word.now) no_name
IsTold text (Name number name) = Tells text None (only_name number name.now)
IsTold text Order = ⊥
IsTold text Other = Tells text None no_name

-- the line is of this kind
abbrev pub IsKind : List ℕ → Line → Type 0
IsKind line (Size word) = Says line (Some word.now) false no_name
IsKind line (Name number name) = Says line None false (only_name number name.now)
IsKind line Order = Says line None true no_name
IsKind line Other = Says line None false no_name
