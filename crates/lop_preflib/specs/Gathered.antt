-- What is gathered from lines.
use Rattle.std.specs.Prelude.{ℕ, List, [], map, Option, None, Some, Result, Err}
use Rattle.std.specs.List.{range_with_len}
use Rattle.std.specs.Option.{unwrap_or}
use Rattle.lop_preflib.specs.Names.{name_at}
use Rattle.lop_preflib.specs.declared.names.Names.{Names}
use Rattle.lop_preflib.specs.Profile.{CountedOrder, ProfileFields}
use Rattle.lop_preflib.specs.Reading.{orders_reading}
use Rattle.lop_preflib.specs.declared.refusal.PrefRefusal.{PrefRefusal}
use Rattle.lop_preflib.specs.declared.refusal.PrefRefusal.TheVariants.{NoSize}

-- n, the names by number, and the orders
abbrev pub profile_of : ℕ → Names → List CountedOrder → ProfileFields
profile_of n names orders = record { size = n; names = map (λ number. unwrap_or (name_at names number) []) (range_with_len 1 n); orders = orders }

-- the profile, or why there is none, after so many lines
abbrev pub finished : Option ℕ → ℕ → Names → List CountedOrder → Result ProfileFields PrefRefusal
finished None lines names orders = Err (NoSize lines)
finished (Some n) lines names orders = orders_reading (profile_of n names orders)
