-- Votes and preferences, order by order.
use Rattle.std.proofs.Common.{◌≡◌, ℕ, ◌+◌, ◌<◌, ◌≤◌, Bool, true, false, cond, List, [], length, take, sym, ◌∙◌, ap, arith}
use Rattle.std.specs.List.{sum_by}
use Rattle.std.proofs.lemmas.List.Sums.{sum-map, sum_by_more, sum_by-take-le, sum_by_more_le_part, sum_by-le-sum_by}
use Rattle.lop_preflib.specs.Profile.{CountedOrder, votes, order_at}
use Rattle.lop_profile.specs.Preference.{ranks_before, order_preference, preference}

abbrev count_of : CountedOrder → ℕ
count_of order = order.count

abbrev no_order : CountedOrder
no_order = record { count = 0; ranked = []; groups = [] }

votes-sum : (orders : List CountedOrder) → votes orders ≡ sum_by count_of orders
votes-sum orders = sum-map count_of orders

preference-sum : (orders : List CountedOrder) (i j : ℕ) → preference orders i j ≡ sum_by (order_preference i j) orders
preference-sum orders i j = sum-map (order_preference i j) orders

part : (b : Bool) (count : ℕ) → cond b count 0 ≤ count
part true count = omega arith
part false count = omega arith

-- those who prefer one object are some of the voters
pub preference-le : (orders : List CountedOrder) (m i j : ℕ) → preference (take m orders) i j ≤ votes orders
preference-le orders m i j =
    omega (arith, preference-sum (take m orders) i j, votes-sum orders, sum_by-take-le count_of orders m, sum_by-le-sum_by (order_preference i j) count_of (take m orders) (λ order. part (ranks_before order.ranked order.groups i j) order.count))

module _ (orders : List CountedOrder) (m : ℕ) (within : m < length orders) where
  pub votes-more : votes (take (m + 1) orders) ≡ votes (take m orders) + (order_at orders m).count
  votes-more = votes-sum (take (m + 1) orders) ∙ sum_by_more count_of orders m no_order within ∙ ap (λ (v : ℕ). v + (order_at orders m).count) (sym (votes-sum (take m orders)))

  pub votes-fit : votes (take m orders) + (order_at orders m).count ≤ votes orders
  votes-fit = omega (arith, votes-more, votes-sum (take (m + 1) orders), votes-sum orders, sum_by-take-le count_of orders (m + 1))

  pub preference-more : (i j : ℕ) → preference (take (m + 1) orders) i j ≡ preference (take m orders) i j + order_preference i j (order_at orders m)
  preference-more i j =
      preference-sum (take (m + 1) orders) i j ∙ sum_by_more (order_preference i j) orders m no_order within
      ∙ ap (λ (v : ℕ). v + order_preference i j (order_at orders m)) (sym (preference-sum (take m orders) i j))

  -- an order's voters, and those who preferred so before it, are some of all voters
  pub preference-fits : (i j : ℕ) → preference (take m orders) i j + (order_at orders m).count ≤ votes orders
  preference-fits i j =
      omega (arith, preference-sum (take m orders) i j, votes-sum orders, sum_by_more_le_part (order_preference i j) count_of orders m no_order within (λ order. part (ranks_before order.ranked order.groups i j) order.count))
