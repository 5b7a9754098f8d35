use Rattle.std.proofs.Common.{◌≡◌, ◌∙◌, List, ℤ, true, false, Some, None, ap, sym, arith}
use Rattle.lop_certtext.specs.Line.{is_row, line_reading}
use Rattle.lop_certtext.proofs.Steps.{pieces-first, pieces-more, line_reading-no_word, line_reading-no_numbers, line_reading-numbers, line_reading-alone}
use Rattle.lop_certtext.proofs.read.read_pieces.Goals as goal
use Rattle.lop_certtext.proofs.read.read_pieces.Goals.{else-len-bytes-via-then-len-bytes+else-not-read_numbers, else-len-bytes-via-else-len-bytes}

pub returns-in_err-word : goal.returns-in_err-word
returns-in_err-word c =
    let bytes = c.args.bytes.now in
    let first = pieces-first bytes c.piece_len-len.result c.piece_len-len.ensures.len c.piece_len-len.ensures.within in
    let none : line_reading bytes ≡ None = line_reading-no_word bytes _ first.0 first.1 (sym c.first_word.ensures ∙ c.in_err-word.was) in
    rw c.from_residual.ensures none

pub returns-then-not-read_numbers : goal.returns-then-not-read_numbers
returns-then-not-read_numbers c =
    let bytes = c.args.bytes.now in
    line_reading-no_numbers bytes _ _ (pieces-more bytes c.piece_len-len.result c.piece_len-len.ensures.len c.if-len-bytes.true) c.in_ok-word.word (sym c.first_word.ensures ∙ c.in_ok-word.was) c.if-not-read_numbers.ensures

pub returns-then-is_row : goal.returns-then-is_row
returns-then-is_row c =
    let bytes = c.args.bytes.now in
    let len = c.piece_len-len.result in
    let word = c.in_ok-word.word in
    let numbers = c.else-len-bytes.room in
    let first = sym c.first_word.ensures ∙ c.in_ok-word.was in
    let row : is_row word numbers ≡ true = ap (is_row word) (sym c.numbers.ensures) ∙ sym c.is_row.ensures ∙ c.if-is_row.true in
    elim c.else-len-bytes.branch [
      | else-len-bytes-via-then-len-bytes+else-not-read_numbers w ↦
          line_reading-numbers bytes len c.piece_len-len.ensures.len word first numbers true row w.if-len-bytes.true (w.if-not-read_numbers.ensures ∙ ap (λ (l : List ℤ). Some l) (sym w.room-is))
      | else-len-bytes-via-else-len-bytes w ↦
          line_reading-alone bytes len c.piece_len-len.ensures.len word first numbers true row (omega arith) (sym c.requires.room ∙ sym w.room-is)
    ]

pub returns-else-is_row : goal.returns-else-is_row
returns-else-is_row c =
    let bytes = c.args.bytes.now in
    let len = c.piece_len-len.result in
    let word = c.in_ok-word.word in
    let numbers = c.else-len-bytes.room in
    let first = sym c.first_word.ensures ∙ c.in_ok-word.was in
    let row : is_row word numbers ≡ false = ap (is_row word) (sym c.numbers.ensures) ∙ sym c.is_row.ensures ∙ c.if-is_row.false in
    elim c.else-len-bytes.branch [
      | else-len-bytes-via-then-len-bytes+else-not-read_numbers w ↦
          line_reading-numbers bytes len c.piece_len-len.ensures.len word first numbers false row w.if-len-bytes.true (w.if-not-read_numbers.ensures ∙ ap (λ (l : List ℤ). Some l) (sym w.room-is))
      | else-len-bytes-via-else-len-bytes w ↦
          line_reading-alone bytes len c.piece_len-len.ensures.len word first numbers false row (omega arith) (sym c.requires.room ∙ sym w.room-is)
    ]
