-- The line of a refusal.
use Rattle.std.specs.Prelude.{ℕ, List, [], ◌++◌, codes, decimal}
use Rattle.std.specs.Fmt.{signed_decimal}
use Rattle.lop_lolib.specs.declared.refusal.LolibRefusal.TheVariants.{Empty, BadSize, SizeRange, BadEntry, TooFine, TooWide, Short, TooHeavy, Memory}
use Rattle.lop_tool.specs.Names.{LolibRefusal, OrderRefusal, PrefRefusal, ProfileFault, Refusal, Input, Order}
use Rattle.lop_tool.specs.Names.{LongCertificate, OrderFileRefusal, InputRefusal, TooLong, Lolib, Preflib, Profile}
use Rattle.lop_lolib.specs.declared.order.OrderRefusal.TheVariants as order
use Rattle.lop_preflib.specs.declared.refusal.PrefRefusal.TheVariants as preflib
use Rattle.lop_profile.specs.declared.profile.ProfileFault.TheVariants as profile
use Rattle.lop_tool.specs.declared.refusal.OrderFileRefusal.TheVariants as file

-- no text is refused for want of memory
abbrev pub lolib_refusal_words : LolibRefusal → List ℕ
lolib_refusal_words Empty = codes "empty"
lolib_refusal_words (BadSize position) = codes "bad-size " ++ decimal position
lolib_refusal_words (SizeRange n) = codes "size-range " ++ signed_decimal n
lolib_refusal_words (BadEntry index) = codes "bad-entry " ++ decimal index
lolib_refusal_words (TooFine index) = codes "too-fine " ++ decimal index
lolib_refusal_words (TooWide index) = codes "too-wide " ++ decimal index
lolib_refusal_words (Short count) = codes "short " ++ decimal count
lolib_refusal_words (TooHeavy sum) = codes "too-heavy " ++ signed_decimal sum
lolib_refusal_words Memory = []

-- a word with its blank, `line` and a number
abbrev pub line_words : List ℕ → ℕ → List ℕ
line_words word line = word ++ codes "line " ++ decimal line

abbrev pub preflib_refusal_words : PrefRefusal → List ℕ
preflib_refusal_words (preflib.NoSize line) = line_words (codes "no-size ") line
preflib_refusal_words (preflib.SizeRange line) = line_words (codes "size-range ") line
preflib_refusal_words (preflib.BadLine line) = line_words (codes "bad-line ") line
preflib_refusal_words (preflib.BadCount line) = line_words (codes "bad-count ") line
preflib_refusal_words (preflib.Ties line) = line_words (codes "ties ") line
preflib_refusal_words (preflib.BadAlternative line) = line_words (codes "bad-alternative ") line
preflib_refusal_words (preflib.Repeated line) = line_words (codes "repeated ") line
preflib_refusal_words (preflib.TooMany line) = line_words (codes "too-many ") line
preflib_refusal_words preflib.NoOrders = codes "no-orders"
preflib_refusal_words preflib.Memory = []

abbrev pub profile_fault_words : ProfileFault → List ℕ
profile_fault_words (profile.TooHeavy sum) = codes "too-heavy " ++ signed_decimal sum
profile_fault_words profile.Memory = []

abbrev pub input_refusal_words : InputRefusal → List ℕ
input_refusal_words TooLong = codes "too-long"
input_refusal_words (Lolib refusal) = lolib_refusal_words refusal
input_refusal_words (Preflib refusal) = preflib_refusal_words refusal
input_refusal_words (Profile fault) = profile_fault_words fault

abbrev pub order_refusal_words : OrderRefusal → List ℕ
order_refusal_words (order.BadWord place) = codes "order-word " ++ decimal place
order_refusal_words (order.Length count) = codes "order-length " ++ decimal count
order_refusal_words (order.OutOfRange place) = codes "order-range " ++ decimal place
order_refusal_words (order.Repeated place) = codes "order-repeated " ++ decimal place
order_refusal_words order.Memory = []

abbrev pub order_file_refusal_words : OrderFileRefusal → List ℕ
order_file_refusal_words file.TooLong = codes "too-long"
order_file_refusal_words (file.Order refusal) = order_refusal_words refusal

abbrev pub refusal_words : Refusal → List ℕ
refusal_words (Input refusal) = input_refusal_words refusal
refusal_words (Order refusal) = order_file_refusal_words refusal
refusal_words LongCertificate = codes "certificate-too-long"

-- what is printed where an input is refused
abbrev pub refusal_line : Refusal → List ℕ
refusal_line refusal = codes "refused " ++ refusal_words refusal ++ codes "\n"

-- what is printed where the words are no command
abbrev pub words_line : List ℕ
words_line = codes "refused words\n"
