use Rattle.std.proofs.Common.{ap, ◌∙◌, ◌≡◌, ◌*◌, length, sym, arith}
use Rattle.lop_model.proofs.CellLemmas.{put_back}
use Rattle.lop_fix.specs.Table.{row_words}
use Rattle.lop_fix.proofs.TableFixings.{IsClosedTable-none, none-fixed, IsPartialOrder-none}
use Rattle.lop_fix.proofs.fixings.Fixings.clear.Goals as goal

pub invariant_of-self : goal.invariant_of-self
invariant_of-self c =
    let n = c.self.inside.size in
    let old = c.self.inside.words.items in
    let new = c.loop-word.word-items in
    let same : length new ≡ length old = c.loop-word.auto.word-items ∙ ap length c.deref_mut-word-items.ensures.value in
    let square : length new ≡ n * row_words n = same ∙ c.self.invariant.square in
    rw (put_back new old c.self.inside.words.len same (sym c.deref_mut-word-items.ensures.len ∙ ap length c.deref_mut-word-items.ensures.value))
    (IsClosedTable-none n new square (λ k l. c.loop-word.invariant k (omega arith)))

pub returns-clause-none : goal.returns-clause-none
returns-clause-none c =
    let n = c.self.inside.size in
    let old = c.self.inside.words.items in
    let new = c.loop-word.word-items in
    let same : length new ≡ length old = c.loop-word.auto.word-items ∙ ap length c.deref_mut-word-items.ensures.value in
    let square : length new ≡ n * row_words n = same ∙ c.self.invariant.square in
    rw (put_back new old c.self.inside.words.len same (sym c.deref_mut-word-items.ensures.len ∙ ap length c.deref_mut-word-items.ensures.value))
    (none-fixed n new (λ k l. c.loop-word.invariant k (omega arith)))

pub returns-clause-partial_order : goal.returns-clause-partial_order
returns-clause-partial_order c =
    let n = c.self.inside.size in
    let old = c.self.inside.words.items in
    let new = c.loop-word.word-items in
    let same : length new ≡ length old = c.loop-word.auto.word-items ∙ ap length c.deref_mut-word-items.ensures.value in
    let square : length new ≡ n * row_words n = same ∙ c.self.invariant.square in
    IsPartialOrder-none _ (
    rw (put_back new old c.self.inside.words.len same (sym c.deref_mut-word-items.ensures.len ∙ ap length c.deref_mut-word-items.ensures.value))
    (none-fixed n new (λ k l. c.loop-word.invariant k (omega arith))))
