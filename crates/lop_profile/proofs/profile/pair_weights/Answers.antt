use Rattle.std.proofs.Common.{map, pos, ◌≡◌, ◌+◌, ◌<◌, ◌≤◌, ◌^◌, ℕ, List, length, refl, sym, ◌∙◌, ap, subst, arith}
use Rattle.std.specs.List.{All}
use Rattle.lop_preflib.specs.Profile.{CountedOrder, order_at}
use Rattle.lop_profile.proofs.TableLemmas.{AreCells, cells_bounded, cells_small, reading-weights, fault-heavy}
use Rattle.lop_profile.proofs.profile.pair_weights.Goals as goal

pub count_order-requires-clause-small : goal.count_order-requires-clause-small
count_order-requires-clause-small c =
    let orders = c.args.profile.now.orders in
    let within : c.loop-index.index < length orders = omega arith in
    subst (λ (l : List ℕ). All (λ cell. cell + (order_at orders c.loop-index.index).count ≤ 10 ^ 18) l) (sym c.deref_mut.ensures.value)
    (cells_small c.n-n.result orders c.loop-index.index c.loop-index.cells.items c.loop-index.invariant within c.n-n.ensures.profile.few (order_at orders c.loop-index.index).count refl)

pub signed-requires : goal.signed-requires
signed-requires c =
    subst (λ (l : List ℕ). All (λ cell. cell ≤ 10 ^ 18) l) (sym c.deref.ensures.value)
    (cells_bounded c.n-n.result c.args.profile.now.orders c.loop-index.index c.loop-index.cells.items c.loop-index.invariant c.n-n.ensures.profile.few)

all_counted : (n : ℕ) (orders : List CountedOrder) (m end : ℕ) (cells : List ℕ) → AreCells n orders m cells → m ≤ end → end ≤ m → end ≡ length orders → AreCells n orders (length orders) cells
all_counted n orders m end cells counted low high is = subst (λ (k : ℕ). AreCells n orders k cells) (omega (arith, low, high, is)) counted

pub returns-in-Ok-clause-weights : goal.returns-in-Ok-clause-weights
returns-in-Ok-clause-weights c =
    let profile = c.args.profile.now in
    let n = c.n-n.result in
    let cells = c.loop-index.cells.items in
    let all = all_counted n profile.orders c.loop-index.index c.orders-orders.result cells c.loop-index.invariant c.loop-index.auto.index-end c.loop-index-test.false c.orders-orders.ensures in
    let entries = c.in_ok-entries.entries.items in
    let entries_are : entries ≡ map pos cells = c.in_ok-entries.ensures.entries ∙ ap (map pos) c.deref.ensures.value in
    let made = c.in-Ok.ensures.ok in
    reading-weights profile n cells (sym c.n-n.ensures.size) all entries entries_are c.in-Ok.weights made.1 made.0.bounded_sum

pub returns-clause-fault : goal.returns-clause-fault
returns-clause-fault c =
    let profile = c.args.profile.now in
    let n = c.n-n.result in
    let cells = c.loop-index.cells.items in
    let all = all_counted n profile.orders c.loop-index.index c.orders-orders.result cells c.loop-index.invariant c.loop-index.auto.index-end c.loop-index-test.false c.orders-orders.ensures in
    let entries = c.in_ok-entries.entries.items in
    let entries_are : entries ≡ map pos cells = c.in_ok-entries.ensures.entries ∙ ap (map pos) c.deref.ensures.value in
    fault-heavy profile n cells (sym c.n-n.ensures.size) all entries entries_are c.n-n.ensures.profile c.in-Err.fault c.too_heavy.result c.in-Err.ensures.fault c.too_heavy.ensures
