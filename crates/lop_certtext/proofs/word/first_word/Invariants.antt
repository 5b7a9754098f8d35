use Rattle.std.proofs.Common.{◌≡◌, drop}
use Rattle.lop_certtext.specs.Line.{first_word, cert_words}
use Rattle.lop_certtext.proofs.word.first_word.Given as goal

abbrev pub invariant-loop-word : goal.invariant-loop-word
invariant-loop-word l = record {
  all : l.word-items ≡ cert_words;
  left : first_word (drop l.word-index l.word-items) l.bytes ≡ first_word cert_words l.bytes;
}
