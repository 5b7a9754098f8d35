use Rattle.std.proofs.Common.{◌≡◌, ◌∙◌, sym, true, false, arith, IsSome}
use Rattle.std.proofs.lemmas.List.{take_rest}
use Rattle.lop_desk.proofs.Files.{distinct_more, not_distinct, some_as_copied}
use Rattle.lop_desk.proofs.memory.has_distinct_names.Goals as goal

false_is_not_true : false ≡ true → ⊥
false_is_not_true e = cc

pub loop-i-preserved : goal.loop-i-preserved
loop-i-preserved c =
    let found = rw take_rest at c.find.ensures in
    let found_named = rw c.name.ensures at found in
    let some = some_as_copied c.find.result _ found_named in
    distinct_more c.args.files.now c.loop-i.i c.index-files-i.result (omega arith) c.index-files-i.is c.loop-i.invariant (λ there. let here : IsSome c.find.result = some.1 there in false_is_not_true (sym c.if-is_some.false ∙ c.is_some.ensures ∙ here))

pub returns-then-is_some : goal.returns-then-is_some
returns-then-is_some c =
    let found = rw take_rest at c.find.ensures in
    let found_named = rw c.name.ensures at found in
    let some = some_as_copied c.find.result _ found_named in
    (λ no. absurd cc, λ distinct. absurd (not_distinct c.args.files.now c.loop-i.i c.index-files-i.result (omega arith) c.index-files-i.is (some.0 (sym c.is_some.ensures ∙ c.if-is_some.true)) distinct))
