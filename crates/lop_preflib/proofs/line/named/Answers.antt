use Rattle.std.proofs.Common.{◌≡◌, false, sym, ◌∙◌, ap}
use Rattle.std.specs.List.{before_first}
use Rattle.lop_preflib.specs.Line.{is_colon, number_word}
use Rattle.lop_preflib.specs.Text.{is_number_to}
use Rattle.lop_preflib.proofs.LineLemmas.{AreNames-far}
use Rattle.lop_preflib.proofs.line.named.Goals as goal

pub returns-in_err-number : goal.returns-in_err-number
returns-in_err-number c =
    let word : c.in_ok-word.word.now ≡ number_word c.args.text.now = c.in_ok-word.ensures.1 ∙ ap (before_first is_colon) c.in_ok-naming.ensures.1 in
    let far : is_number_to 512 (number_word c.args.text.now) ≡ false = ap (is_number_to 512) (sym word) ∙ c.in_err-number.ensures in
    rw c.from_residual-in_err-number.ensures (AreNames-far c.args.text.now far)
