-- A profile: the orders of voters.
use Rattle.std.specs.Prelude.{◌≡◌, ◌≢◌, ℕ, ◌+◌, ◌<◌, ◌≤◌, List, [], length, map, slice_index, slice_index_or, sum, All}
use Rattle.lop_preflib.specs.declared.profile.TheConstants.{MAX_ALTERNATIVES, MAX_VOTERS}

-- How many voters gave an order, the objects that they rank, the best first, and the group number, from 0, of each of
-- these. Objects of one group are tied.
pub record CountedOrder : Type 0 where
  pub count : ℕ
  pub ranked : List ℕ
  pub groups : List ℕ

-- n, n names, and the orders
pub record ProfileFields : Type 0 where
  pub size : ℕ
  pub names : List (List ℕ)
  pub orders : List CountedOrder

-- the sum of the counts
abbrev pub votes : List CountedOrder → ℕ
votes orders = sum (map (λ order. order.count) orders)

-- the order at this index
abbrev pub order_at : List CountedOrder → ℕ → CountedOrder
order_at orders index = slice_index_or orders index (record { count = 0; ranked = []; groups = [] })

-- An order of some of n objects, none of them twice, that one voter or more gave. Each object stands in the group of the
-- one before it or in the next group, the first in group 0.
pub record IsCounted (n : ℕ) (order : CountedOrder) : Type 0 where
  pub given : 1 ≤ order.count
  pub below : (p : ℕ) → p < length order.ranked → slice_index order.ranked p < n
  pub distinct : (p q : ℕ) → p < q → q < length order.ranked → slice_index order.ranked p ≢ slice_index order.ranked q
  pub grouped : length order.groups ≡ length order.ranked
  pub first_group : slice_index order.groups 0 ≡ 0
  pub same_or_next : (p : ℕ) → p + 1 < length order.groups → (slice_index order.groups p ≤ slice_index order.groups (p + 1)) × (slice_index order.groups (p + 1) ≤ slice_index order.groups p + 1)

-- n from 1 to 512, n names, one order or more, and at most 10^18 voters
pub record IsProfile (profile : ProfileFields) : Type 0 where
  pub positive : 1 ≤ profile.size
  pub within_limit : profile.size ≤ MAX_ALTERNATIVES
  pub named : length profile.names ≡ profile.size
  pub some : 0 < length profile.orders
  pub counted : All (IsCounted profile.size) profile.orders
  pub few : votes profile.orders ≤ MAX_VOTERS
