use Rattle.std.proofs.Common.{◌≡◌, take, arith, sym, ◌∙◌, ap, subst, List, ℕ}
use Rattle.lop_core.specs.CutIndex.{ArePending}
use Rattle.lop_core.proofs.MergeLemmas.{parts_of}
use Rattle.lop_core.proofs.cut_index.merge.Goals as goal

pub put_zeros-requires : goal.put_zeros-requires
put_zeros-requires c = omega (arith, parts_of c.args.cuts.now c.args.index.now.items c.args.fresh.now c.args.places.now c.requires.pending, c.requires.few, c.requires.room)

pub merge_into-requires-clause-known : goal.merge_into-requires-clause-known
merge_into-requires-clause-known c = omega (arith, c.put_zeros.ensures.count, c.len-known.ensures, c.args.index.now.ok.0)

pub merge_into-requires-clause-pending : goal.merge_into-requires-clause-pending
merge_into-requires-clause-pending c =
    let front : take c.len-known.result c.put_zeros.new.list.items ≡ c.args.index.now.items = ap (λ (k : ℕ). take k c.put_zeros.new.list.items) c.len-known.ensures ∙ c.put_zeros.ensures.front in
    let seen : take c.len-known.result c.deref_mut.result.now ≡ c.args.index.now.items = ap (take c.len-known.result) c.deref_mut.ensures.value ∙ front in
    subst (λ (xs : List ℕ). ArePending c.args.cuts.now xs c.args.fresh.now c.args.places.now) (sym seen) c.requires.pending
