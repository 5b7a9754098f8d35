use Rattle.std.proofs.Common.{◌-◌, ◌∷◌, [], drop, arith, ◌∙◌, ap}
use Rattle.std.specs.Prelude.{is_ok}
use Rattle.std.proofs.lemmas.List.{length-drop, drop-append-le}
use Rattle.lop_core.proofs.CutIndexLemmas.{longer_is}
use Rattle.lop_core.proofs.cut_index.append.Goals as goal

pub returns-clause-fresh : goal.returns-clause-fresh
returns-clause-fresh c =
    let cuts = c.args.cuts.now.items in
    let known = c.args.known in
    let long = length-drop c.args.known c.args.cuts.now.items in
    let ok = c.insert.ensures.succeeds (omega (arith, c.requires.for_fresh, c.requires.fresh.same_length, long)) in
    longer_is (drop known cuts) c.args.fresh.now.items c.args.cut.now c.args.place c.requires.fresh c.requires.gap
    (drop known c.put_last.new.list.items) c.insert.new.self.items (is_ok c.insert.result) c.copy.result (c.len-number.result - known)
    (ap (drop known) c.put_last.ensures.items ∙ drop-append-le known cuts (c.copy.result ∷ []) c.requires.known) c.insert.ensures.items ok c.copy.ensures (omega (arith, c.len-number.ensures, long))
