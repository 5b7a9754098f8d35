use Rattle.std.proofs.Common.{◌≡◌, ℕ, ◌*◌, ◌<◌, get_or, replicate, refl}
use Rattle.std.proofs.lemmas.List.{get_or-replicate, length-replicate}
use Rattle.lop_fix.proofs.TableFixings.{IsClosedTable-none, IsPartialOrder-table, none-fixed}
use Rattle.lop_fix.specs.Table.{row_words}
use Rattle.lop_fix.proofs.fixings.Fixings.new.Goals as goal

pub invariant_of-result : goal.invariant_of-result
invariant_of-result c =
    let n = c.args.n in
    rw c.in_ok-empty_table.ensures (IsClosedTable-none n (replicate (n * row_words n) 0) (length-replicate (n * row_words n) 0) (λ k l. get_or-replicate (n * row_words n) k 0 0 l))

pub returns : goal.returns
returns c =
    let n = c.args.n in
    let zeros = replicate (n * row_words n) 0 in
    let each : (k : ℕ) → k < n * row_words n → get_or zeros k 0 ≡ 0 = λ k l. get_or-replicate (n * row_words n) k 0 0 l in
    rw c.in_ok-empty_table.ensures (refl, none-fixed n zeros each, IsPartialOrder-table n zeros (IsClosedTable-none n zeros (length-replicate (n * row_words n) 0) each))
