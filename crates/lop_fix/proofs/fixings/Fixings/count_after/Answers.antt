use Rattle.std.proofs.Common.{◌≡◌, ◌<◌, subst, sym, ◌∙◌, ap, arith}
use Rattle.lop_model.specs.Sums.{count_below}
use Rattle.lop_model.specs.Fixings.{has_pair}
use Rattle.lop_model.specs.Related.{pairs_of}
use Rattle.lop_model.proofs.CountLemmas.{count_below-same}
use Rattle.lop_fix.specs.PartialOrder.{FixedPairs, IsPartialOrder}
use Rattle.lop_fix.specs.Table.{at}
use Rattle.lop_fix.proofs.TableFixings.{IsPartialOrder-table, has_pair-inside}
use Rattle.lop_fix.proofs.fixings.Fixings.count_after.Goals as goal

pub returns-clause-value : goal.returns-clause-value
returns-clause-value c =
    let n = c.self.inside.size in
    let t = c.self.inside.words.items in
    let a = c.args.a in
    let size : n ≡ c.args.self.now.size = ap (λ (f : FixedPairs). f.size) c.self.view_is in
    let row : a < n = omega arith in
    c.count_row.ensures
    ∙ ap (λ words. count_below n (at words n a)) c.deref.ensures.value
    ∙ count_below-same n (at t n a) (has_pair (pairs_of n (at t n)) a) (λ b l. sym (has_pair-inside n (at t n) a b row l))
    ∙ ap (λ (f : FixedPairs). count_below f.size (has_pair f.pairs a)) c.self.view_is

pub returns-clause-partial_order : goal.returns-clause-partial_order
returns-clause-partial_order c = subst (λ (f : FixedPairs). IsPartialOrder f) c.self.view_is (IsPartialOrder-table c.self.inside.size c.self.inside.words.items c.self.invariant)
