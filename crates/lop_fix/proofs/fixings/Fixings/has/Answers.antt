use Rattle.std.proofs.Common.{subst, sym, ap, ◌∙◌, ◌≡◌, ◌<◌, arith}
use Rattle.lop_model.specs.Fixings.{has_pair}
use Rattle.lop_fix.specs.PartialOrder.{FixedPairs, IsPartialOrder}
use Rattle.lop_fix.specs.Table.{at}
use Rattle.lop_fix.proofs.TableFixings.{IsPartialOrder-table, has_pair-inside}
use Rattle.lop_fix.proofs.fixings.Fixings.has.Goals as goal

pub returns-clause-value : goal.returns-clause-value
returns-clause-value c =
    let n = c.self.inside.size in
    let size : n ≡ c.args.self.now.size = ap (λ (f : FixedPairs). f.size) c.self.view_is in
    let first : c.args.a < n = omega arith in
    let second : c.args.b < n = omega arith in
    c.at_table.ensures
    ∙ ap (λ t. at t n c.args.a c.args.b) c.deref.ensures.value
    ∙ sym (has_pair-inside n (at c.self.inside.words.items n) c.args.a c.args.b first second)
    ∙ ap (λ (f : FixedPairs). has_pair f.pairs c.args.a c.args.b) c.self.view_is

pub returns-clause-partial_order : goal.returns-clause-partial_order
returns-clause-partial_order c = subst (λ (f : FixedPairs). IsPartialOrder f) c.self.view_is (IsPartialOrder-table c.self.inside.size c.self.inside.words.items c.self.invariant)
