-- The line of a rejected certificate, as bytes.
use Rattle.std.specs.Prelude.{ℕ, List, ◌++◌, codes, decimal, ℤ}
use Rattle.std.specs.Fmt.{signed_decimal}
use Rattle.lop_certtext.specs.declared.reason.Reason.{Reason}
use Rattle.lop_certtext.specs.declared.reason.Reason.TheVariants.{Short, Spelling, Size, OrderLine, Value, Cut, RecordLine, SplitLine, Leaf}
use Rattle.lop_certtext.specs.declared.reason.Reason.TheVariants.{High, Tail}
use Rattle.lop_tool.specs.declared.rejection.Rejection.{Rejection}
use Rattle.lop_tool.specs.declared.rejection.Rejection.TheVariants.{Certificate}

-- a word and the two numbers that differ
abbrev pub two_numbers : List ℕ → ℤ → ℤ → List ℕ
two_numbers word first second = word ++ signed_decimal first ++ codes " " ++ signed_decimal second

abbrev pub reason_text : Reason → List ℕ
reason_text Short = codes "short"
reason_text Spelling = codes "spelling"
reason_text Size = codes "size"
reason_text OrderLine = codes "order"
reason_text (Value stated found) = two_numbers (codes "value ") stated found
reason_text Cut = codes "cut"
reason_text RecordLine = codes "record"
reason_text SplitLine = codes "split"
reason_text Leaf = codes "leaf"
reason_text (High upper limit) = two_numbers (codes "high ") upper limit
reason_text Tail = codes "tail"

abbrev pub rejected_line : ℕ → Reason → List ℕ
rejected_line line reason = codes "rejected line " ++ decimal line ++ codes " " ++ reason_text reason ++ codes "\n"

-- what is printed where a certificate is rejected
abbrev pub rejection_line : Rejection → List ℕ
rejection_line (Certificate line reason) = rejected_line line reason
