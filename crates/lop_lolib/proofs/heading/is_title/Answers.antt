use Rattle.std.proofs.Common.{ℕ, List, Bor, not, refl, rules, tests}
use Rattle.std.proofs.lemmas.Iterator.Search.{any_from_yields_List}
use Rattle.std.proofs.lemmas.Iterator.Consumers.{YieldsList-from_first}
use Rattle.lop_lolib.specs.declared.words.Words.{Words}
use Rattle.lop_lolib.specs.Words.{words_of}
use Rattle.lop_lolib.specs.Number.{is_decimal_word}
use Rattle.lop_lolib.proofs.heading.is_title.Goals as goal

pub returns : goal.returns
returns c =
    any_from_yields_List (λ word. not (is_decimal_word word)) c.any.new.self _ _ c.any.ensures.ran
    (YieldsList-from_first (λ (word : Bor (List ℕ)). word.now) (λ (words : Words). words_of words.rest.now) {s = record { rest = c.args.line }} (words_of c.args.line.now) refl)
    (λ x b q k. search (rules, tests))
