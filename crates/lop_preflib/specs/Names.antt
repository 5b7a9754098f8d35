-- The names that were noted.
use Rattle.std.specs.Prelude.{ℕ, List, Option, nat_eq}
use Rattle.std.specs.Option.{option_map}
use Rattle.indexmap.specs.IndexMap.{get}
use Rattle.lop_preflib.specs.declared.names.Names.{Names}

-- the name that was noted for a number
abbrev pub name_at : Names → ℕ → Option (List ℕ)
name_at names number = option_map (λ text. text.items) (get nat_eq names.texts number)
