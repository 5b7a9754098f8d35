use Rattle.lop_preflib.specs.Profile.{IsCounted, order_at}
use Rattle.lop_profile.proofs.PlaceLemmas.{AreGrouped-steps}
use Rattle.lop_profile.proofs.profile.count_order.Goals as goal

pub add_order-requires-clause-groups : goal.add_order-requires-clause-groups
add_order-requires-clause-groups c =
    let orders = c.args.profile.now.orders in
    let order = order_at orders c.args.index in
    let counted : IsCounted c.args.profile.now.size order = c.n-n.ensures.profile.counted c.args.index _ c.requires.index in
    rw (c.ranked-ranked.ensures, c.group_of-groups.ensures) (AreGrouped-steps order.ranked order.groups counted.grouped (λ p low. (counted.same_or_next p low).0))
