use Rattle.std.proofs.Common.{arith, Option, None, Some}
use Rattle.std.specs.Prelude.{IfSome}
use Rattle.lop_core.proofs.RecordLemmas.{inherited_kept, inherited_book}
use Rattle.lop_core.proofs.records.Records.inherit.Goals as goal

pub returns-then-is_some-clause-split : goal.returns-then-is_some-clause-split
returns-then-is_some-clause-split c =
    if_some c.args.first (inherited_book c.args.self.now.cuts c.args.self.now.terms.items c.args.self.now.spans.items c.args.self.now.numbers.items c.args.node c.index-number.result.now c.put_last.new.list.items c.put_last-then-is_some.new.list.items
    (omega (arith, c.requires.inside)) c.index-number.ensures c.put_last.ensures.items c.put_last-then-is_some.ensures.items)
  where
    if_some : {X P : Type 0} (o : Option X) → P → IfSome o (λ _. P)
    if_some None p = tt
    if_some (Some x) p = p

pub returns-then-is_some-clause-kept : goal.returns-then-is_some-clause-kept
returns-then-is_some-clause-kept c =
    let k = c.requires.kept in
    record {
      book = inherited_kept c.args.self.now.cuts c.args.self.now.terms.items c.args.self.now.spans.items c.args.self.now.numbers.items c.args.node c.index-number.result.now c.put_last.new.list.items c.put_last-then-is_some.new.list.items
          k.book (omega (arith, c.requires.inside)) c.index-number.ensures c.put_last.ensures.items c.put_last-then-is_some.ensures.items;
      inside = k.inside;
      few_cuts = k.few_cuts;
      few_terms = k.few_terms;
      for_terms = k.for_terms;
      within = k.within;
      for_fresh = k.for_fresh;
    }
