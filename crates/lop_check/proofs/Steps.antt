-- What follows the due line at each step, by the line's number and its numbers.
use Rattle.std.proofs.Common.{ℕ, ◌+◌, cond, List, [], ℤ, nat_abs}
use Rattle.std.specs.Prelude.{◌==◌, ◌&&◌, int_le}
use Rattle.lop_model.specs.Matrix.{Matrix, weight}
use Rattle.lop_model.specs.Closing.{closed}
use Rattle.lop_cuts.specs.declared.kind.CutKind.{CutKind}
use Rattle.lop_certtext.specs.declared.reason.Reason.TheVariants as reason
use Rattle.lop_certtext.specs.CutLine.{objects_of}
use Rattle.lop_certtext.specs.declared.version.CertVersion.{CertVersion}
use Rattle.lop_certtext.specs.Answer.{TextLine, CheckAnswer, rejected, only_number, version_of, is_order, objects_step, order_step, value_step, bound_step, cuts_step, cuts_left_step, records_left_step, tail_step}

abbrev pub version_next : Matrix → ℕ → List ℤ → List TextLine → CheckAnswer
version_next C number numbers rest = objects_step closed C (version_of numbers) (number + 1) rest

abbrev pub objects_next : Matrix → CertVersion → ℕ → List ℤ → List TextLine → CheckAnswer
objects_next C version number numbers rest = cond (nat_abs (only_number numbers) == C.size) (order_step closed C version (number + 1) rest) (rejected number reason.Size)

abbrev pub order_next : Matrix → CertVersion → ℕ → List ℤ → List TextLine → CheckAnswer
order_next C version number numbers rest = cond (is_order C.size numbers) (value_step closed C version (weight C (objects_of numbers)) (number + 1) rest) (rejected number reason.OrderLine)

abbrev pub value_next : Matrix → CertVersion → ℤ → ℕ → List ℤ → List TextLine → CheckAnswer
value_next C version found number numbers rest =
    cond (int_le (only_number numbers) found && int_le found (only_number numbers)) (bound_step closed C version (only_number numbers) (number + 1) rest) (rejected number (reason.Value (only_number numbers) found))

abbrev pub bound_next : Matrix → CertVersion → ℤ → ℕ → List ℤ → List TextLine → CheckAnswer
bound_next C version value number numbers rest = cuts_step closed C version value (only_number numbers) (number + 1) rest

abbrev pub cuts_next : Matrix → CertVersion → ℤ → ℤ → ℕ → List ℤ → List TextLine → CheckAnswer
cuts_next C version value bound number numbers rest = cuts_left_step closed C version value bound (nat_abs (only_number numbers)) [] (number + 1) rest

abbrev pub records_next : Matrix → List CutKind → ℤ → ℤ → ℕ → List ℤ → List TextLine → CheckAnswer
records_next C cuts value bound number numbers rest = records_left_step closed C cuts value bound (nat_abs (only_number numbers)) [] (number + 1) rest

abbrev pub end_next : ℤ → ℤ → ℕ → List ℤ → List TextLine → CheckAnswer
end_next value bound number _ rest = tail_step value bound (number + 1) rest
