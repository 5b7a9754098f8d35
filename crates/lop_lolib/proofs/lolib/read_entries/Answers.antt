use Rattle.std.proofs.Common.{◌≡◌, ◌∙◌, ◌*◌, List, ℤ, length, take, ap, sym, arith}
use Rattle.lop_lolib.specs.Words.{words_of}
use Rattle.lop_lolib.specs.Reading.{entries_reading}
use Rattle.lop_lolib.proofs.UnitsLemmas.{written-back, units_reading-narrow, units_reading-wide, units_reading-whole}
use Rattle.lop_lolib.proofs.lolib.read_entries.Goals as goal
use Rattle.lop_lolib.proofs.lolib.read_entries.Goals.{then-numbers-gt0+in-Ok, else-numbers-gt0}

pub returns-in-Err-clause-refusal : goal.returns-in-Err-clause-refusal
returns-in-Err-clause-refusal c =
    let n = c.args.n in
    let numbers = c.in_ok-numbers.numbers in
    let facts = c.in_ok-numbers.ensures in
    let first = rw (c.deref_mut.ensures.value, c.deref.ensures.value) at c.in-Err.ensures.wide in
    facts.reading
    ∙ units_reading-wide n numbers.most (length (words_of c.read_numbers.new.words.rest.now)) (take (n * n) (words_of c.args.words.now.rest.now)) numbers.digits.items numbers.decimals.items facts.numbers.1 c.in-Err.index first

pub returns-clause-entries : goal.returns-clause-entries
returns-clause-entries c =
    let n = c.args.n in
    let numbers = c.in_ok-numbers.numbers in
    let facts = c.in_ok-numbers.ensures in
    let tail = length (words_of c.read_numbers.new.words.rest.now) in
    let front = take (n * n) (words_of c.args.words.now.rest.now) in
    elim c.if-numbers-gt0.branch [
      | then-numbers-gt0+in-Ok w ↦
          let in_units = rw (w.deref_mut.ensures.value, w.deref.ensures.value) at w.in-Ok.ensures.units in
          let long = rw w.deref_mut.ensures.value at w.in-Ok.ensures.len in
          let whole : numbers.digits.len ≡ length numbers.digits.items = omega (arith, w.deref_mut.ensures.len, ap length w.deref_mut.ensures.value) in
          let same = written-back w.scale.new.digits numbers.digits.items numbers.digits.len whole long in
          rw w.numbers-is ((
            ap length same ∙ long ∙ facts.numbers.0,
            facts.reading
                ∙ units_reading-narrow n numbers.most tail front numbers.digits.items numbers.decimals.items facts.numbers.1 w.scale.new.digits long in_units
                ∙ ap (λ (l : List ℤ). entries_reading n numbers.most l tail) (sym same),
          ))
      | else-numbers-gt0 w ↦
          rw w.numbers-is ((facts.numbers.0, facts.reading ∙ units_reading-whole n numbers.most tail front numbers.digits.items numbers.decimals.items facts.numbers.1 (omega (arith, w.if-numbers-gt0.false))))
    ]
