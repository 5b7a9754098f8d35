-- What an input file means.
use Rattle.std.specs.Prelude.{◌≡◌, ℕ, ◌^◌, nat_lt, List, length, Option, None, Some, IfSome, Result, Ok, Err, if◌then◌else◌}
use Rattle.lop_lolib.specs.declared.lolib.LolibFile.{LolibFile}
use Rattle.lop_lolib.specs.Reading.{lolib_reading}
use Rattle.lop_lolib.specs.OrderReading.{order_reading}
use Rattle.lop_preflib.specs.Profile.{ProfileFields}
use Rattle.lop_preflib.specs.Reading.{preflib_reading}
use Rattle.lop_profile.specs.Reading.{profile_reading}
use Rattle.lop_tool.specs.Names.{NamedFile, file_named, Matrix, LolibRefusal, OrderRefusal, OrderFileRefusal, PrefRefusal}
use Rattle.lop_tool.specs.Names.{ProfileFault, Format, Instance, InputRefusal, TooLong, Lolib, Preflib, Profile}
use Rattle.lop_words.specs.declared.command.Format.TheVariants as format
use Rattle.lop_tool.specs.declared.refusal.OrderFileRefusal.TheVariants.{TooLong as LongOrder, Order}

-- a matrix is an instance without a profile, in the units of its file
abbrev pub matrix_instance : Result LolibFile LolibRefusal → Result Instance InputRefusal
matrix_instance (Ok file) = Ok (record { weights = file.weights; profile = None; decimals = file.decimals })
matrix_instance (Err refusal) = Err (Lolib refusal)

-- a profile with its weights
abbrev pub weighed_instance : ProfileFields → Result Matrix ProfileFault → Result Instance InputRefusal
weighed_instance profile (Ok C) = Ok (record { weights = C; profile = Some profile; decimals = 0 })
weighed_instance profile (Err fault) = Err (Profile fault)

-- the orders of voters are an instance by their preference matrix, whose entries are whole
abbrev pub profile_instance : Result ProfileFields PrefRefusal → Result Instance InputRefusal
profile_instance (Ok profile) = weighed_instance profile (profile_reading profile)
profile_instance (Err refusal) = Err (Preflib refusal)

-- what a text of this format holds
abbrev pub text_reading : Format → List ℕ → Result Instance InputRefusal
text_reading format.Lolib bytes = matrix_instance (lolib_reading bytes)
text_reading format.Preflib bytes = profile_instance (preflib_reading bytes)

-- what the bytes of an input file are accepted as, or the first refusal
abbrev pub input_reading : Format → List ℕ → Result Instance InputRefusal
input_reading format bytes = if nat_lt (2 ^ 26) (length bytes) then Err TooLong else text_reading format bytes

abbrev pub reading_of : Format → Option (List ℕ) → Option (Result Instance InputRefusal)
reading_of format None = None
reading_of format (Some bytes) = Some (input_reading format bytes)

-- the input under a name; none where no file has the name
abbrev pub input_named : Format → List NamedFile → List ℕ → Option (Result Instance InputRefusal)
input_named format files name = reading_of format (file_named files name)

-- the order that a text spells
abbrev pub order_of : Result (List ℕ) OrderRefusal → Result (List ℕ) OrderFileRefusal
order_of (Ok order) = Ok order
order_of (Err refusal) = Err (Order refusal)

-- the order of n objects that the bytes of an order file are accepted as, or the first refusal
abbrev pub order_file_reading : ℕ → List ℕ → Result (List ℕ) OrderFileRefusal
order_file_reading n bytes = if nat_lt (2 ^ 26) (length bytes) then Err LongOrder else order_of (order_reading n bytes)

abbrev pub order_reading_of : ℕ → Option (List ℕ) → Option (Result (List ℕ) OrderFileRefusal)
order_reading_of n None = None
order_reading_of n (Some bytes) = Some (order_file_reading n bytes)

-- the order under a name; none where no file has the name
abbrev pub order_named : ℕ → List NamedFile → List ℕ → Option (Result (List ℕ) OrderFileRefusal)
order_named n files name = order_reading_of n (file_named files name)

-- a profile's objects are those of the weights
abbrev pub IsOfSize : ℕ → Option ProfileFields → Type 0
IsOfSize n profile = IfSome profile (λ p. p.size ≡ n)
