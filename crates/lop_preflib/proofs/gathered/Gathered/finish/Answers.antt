use Rattle.std.proofs.Common.{◌<◌, Option, ℕ, length, subst, arith}
use Rattle.std.proofs.lemmas.List.FromFn.{length-map-range_with_len}
use Rattle.lop_preflib.specs.Steps.{IsSize, AreCounted}
use Rattle.lop_preflib.proofs.gathered.Gathered.finish.Goals as goal

pub new-requires : goal.new-requires
new-requires c =
    let orders = c.args.self.orders in
    let known = subst IsSize c.in-Some.is c.requires.size in
    let counted = subst (λ (s : Option ℕ). AreCounted s orders) c.in-Some.is c.requires.counted in
    let some : 0 < length orders = omega (arith, c.len.ensures.len, c.if-len-eq0.false) in
    record {
      positive = known.0;
      within_limit = known.1;
      named = length-map-range_with_len _ 1 c.in-Some.size;
      some = some;
      counted = counted;
      few = c.len.ensures.few;
    }
