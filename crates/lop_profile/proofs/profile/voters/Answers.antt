use Rattle.std.proofs.Common.{◌<◌, length, arith}
use Rattle.lop_profile.proofs.VoteLemmas.{votes-more, votes-fit}
use Rattle.lop_profile.proofs.profile.voters.Goals as goal

pub overflow_add-sum : goal.overflow_add-sum
overflow_add-sum c =
    let orders = c.args.profile.now.orders in
    let within : c.loop-index.index < length orders = omega arith in
    omega (arith, votes-fit orders c.loop-index.index within, c.n-n.ensures.profile.few)

pub loop-index-preserved : goal.loop-index-preserved
loop-index-preserved c =
    let orders = c.args.profile.now.orders in
    let within : c.loop-index.index < length orders = omega arith in
    omega (arith, votes-more orders c.loop-index.index within)
