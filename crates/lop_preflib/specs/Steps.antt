-- What reading one line does.
use Rattle.std.specs.Prelude.{◌≡◌, ℕ, ◌+◌, ◌≤◌, List, [], ◌∷◌, ◌++◌, length, Option, None, Some, cond, All}
use Rattle.std.specs.Option.{option_map, unwrap_or}
use Rattle.lop_desk.specs.Number.{digits_value}
use Rattle.lop_preflib.specs.First.{or_else}
use Rattle.lop_preflib.specs.Line.{size_word_of, name_for, is_order_line}
use Rattle.lop_preflib.specs.Names.{name_at}
use Rattle.lop_preflib.specs.Profile.{CountedOrder, IsCounted, votes}
use Rattle.lop_preflib.specs.Refusal.{order_refusal, line_refusal}
use Rattle.lop_preflib.specs.Reading.{order_of}
use Rattle.lop_preflib.specs.declared.refusal.PrefRefusal.{PrefRefusal}
use Rattle.lop_preflib.specs.declared.refusal.PrefRefusal.TheVariants.{Memory}
use Rattle.lop_preflib.specs.declared.gathered.Gathered.{Gathered}
use Rattle.lop_preflib.specs.declared.profile.TheConstants.{MAX_ALTERNATIVES, MAX_VOTERS}

-- want of memory, or the refusal that was found
abbrev pub IsStop : Option PrefRefusal → PrefRefusal → Type 0
IsStop found Memory = Unit {0}
IsStop found refusal = found ≡ Some refusal

-- an order line that isn't refused, with its count, its objects and their group numbers
pub record IsOrderRead (line : List ℕ) (n voters number count : ℕ) (ranked groups : List ℕ) : Type 0 where
  pub good : order_refusal n voters number line ≡ None
  pub count_is : count ≡ (order_of line).count
  pub ranked_is : ranked ≡ (order_of line).ranked
  pub groups_are : groups ≡ (order_of line).groups
  pub grouped : length groups ≡ length ranked
  pub few : voters + count ≤ MAX_VOTERS

-- a line that isn't refused is gathered
pub record IsGathered (line : List ℕ) (number : ℕ) (before after : Gathered) : Type 0 where
  pub good : line_refusal before.size (votes before.orders) number line ≡ None
  pub size : after.size ≡ or_else before.size (option_map digits_value (size_word_of line))
  pub names : (i : ℕ) → 1 ≤ i → i ≤ MAX_ALTERNATIVES → name_at after.names i ≡ or_else (name_at before.names i) (name_for i line)
  pub orders : after.orders ≡ before.orders ++ cond (is_order_line line) (order_of line ∷ []) []

-- each order is one of the alternatives, so many as are known
abbrev pub AreCounted : Option ℕ → List CountedOrder → Type 0
AreCounted size orders = All (IsCounted (unwrap_or size 0)) orders

-- the number of alternatives, where it is known, is from 1 to 512
abbrev pub IsSize : Option ℕ → Type 0
IsSize None = Unit {0}
IsSize (Some n) = (1 ≤ n) × (n ≤ MAX_ALTERNATIVES)
