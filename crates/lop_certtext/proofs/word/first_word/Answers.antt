use Rattle.std.proofs.Common.{◌≡◌, ◌∙◌, List, ℕ, false, get_or, ap, sym}
use Rattle.std.specs.Str.{bytes_eq}
use Rattle.lop_certtext.specs.declared.word.CertWord.TheVariants.{Version}
use Rattle.lop_certtext.specs.Line.{word_text, cert_words}
use Rattle.lop_certtext.proofs.Steps.{first_word-other}
use Rattle.lop_certtext.proofs.word.first_word.Goals as goal

pub loop-word-preserved : goal.loop-word-preserved
loop-word-preserved c =
    let bytes = c.args.bytes.now in
    let i = c.loop-word.word-index in
    let other : bytes_eq (word_text (get_or cert_words i Version)) bytes ≡ false = ap (λ (t : List ℕ). bytes_eq t bytes) (sym c.text.ensures) ∙ sym c.eq.ensures ∙ c.if-eq.false in
    record {
      all = c.loop-word.invariant.all;
      left = first_word-other cert_words i Version bytes c.loop-word-test.true other ∙ c.loop-word.invariant.left;
    }
