-- Why words are no command. Want of memory may come with any words.
use Rattle.std.specs.Prelude.{◌≡◌, Bool, false, Option, None}
use Rattle.lop_words.specs.declared.command.WordsFault.{WordsFault}
use Rattle.lop_words.specs.declared.command.WordsFault.TheVariants.{Usage, Memory}

-- the words, or some of them, mean nothing
abbrev pub IsWordsFault : {X : Type 0} → Option X → WordsFault → Type 0
IsWordsFault meaning Usage = meaning ≡ None
IsWordsFault meaning Memory = Unit {0}

abbrev pub IsNameFault : Bool → WordsFault → Type 0
IsNameFault is_name Usage = is_name ≡ false
IsNameFault is_name Memory = Unit {0}
