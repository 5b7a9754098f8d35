use Rattle.std.proofs.Common.{inl, ◌+◌, ◌<◌, ◌^◌, length, arith}
use Rattle.lop_lolib.specs.Words.{words_of}
use Rattle.lop_lolib.proofs.WordsLemmas.{words_of-at_most}
use Rattle.lop_lolib.proofs.lolib.read_body.Goals as goal

pub count-tail_words-requires-clause-fits : goal.count-tail_words-requires-clause-fits
count-tail_words-requires-clause-fits c =
    let few : 0 + length (words_of c.read_entries.new.words.rest.now) < 2 ^ 64 = omega (arith, words_of-at_most c.args.body.now, c.in_ok-n.ensures.fewer, c.in_ok-entries.ensures.fewer) in
    inl few
