use Rattle.std.proofs.Common.{arith, ◌<◌}
use Rattle.lop_lolib.proofs.WordsLemmas.{words_of-next, words_of-fewer, words_of-none}
use Rattle.lop_lolib.proofs.words.WordsIterator.next.Goals as goal

pub returns-clause-steps : goal.returns-clause-steps
returns-clause-steps c =
    let some : 0 < c.word_len-len.result = omega arith in
    words_of-next c.args.self.now.rest.now c.blank_len.result c.word_len-len.result c.blank_len.ensures.len c.word_len-len.ensures.len some

pub returns-then-len-eq0-clause-steps : goal.returns-then-len-eq0-clause-steps
returns-then-len-eq0-clause-steps c =
    words_of-none c.args.self.now.rest.now c.blank_len.result c.word_len-len.result c.blank_len.ensures.len c.word_len-len.ensures.len c.if-len-eq0.true

pub returns-clause-goes : goal.returns-clause-goes
returns-clause-goes c =
    let some : 0 < c.word_len-len.result = omega arith in
    let fewer = words_of-fewer c.args.self.now.rest.now c.blank_len.result c.word_len-len.result c.blank_len.ensures.len c.word_len-len.ensures.len some in
    record { on = λ _. (tt, tt, fewer); keeps = tt; rests = λ _. tt }
