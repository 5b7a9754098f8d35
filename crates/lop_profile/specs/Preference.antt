-- Which of two alternatives voters prefer.
use Rattle.std.specs.Prelude.{ℕ, Bool, ◌&&◌, nat_lt, List, length, map, slice_index, sum, pos, if◌then◌else◌}
use Rattle.std.specs.List.{range_with_len}
use Rattle.lop_model.specs.Order.{place_of}
use Rattle.lop_model.specs.Matrix.{Matrix}
use Rattle.lop_preflib.specs.Profile.{CountedOrder, ProfileFields}

-- the object stands in the list
abbrev pub stands_in : List ℕ → ℕ → Bool
stands_in ranked i = nat_lt (place_of ranked i) (length ranked)

-- the number of an object's group, where `groups` has that of each place
abbrev pub group_of : List ℕ → List ℕ → ℕ → ℕ
group_of ranked groups i = slice_index groups (place_of ranked i)

-- both objects stand in the list, and i's group stands before j's
abbrev pub ranks_before : List ℕ → List ℕ → ℕ → ℕ → Bool
ranks_before ranked groups i j = stands_in ranked i && stands_in ranked j && nat_lt (group_of ranked groups i) (group_of ranked groups j)

-- how many voters of an order rank i before j
abbrev pub order_preference : ℕ → ℕ → CountedOrder → ℕ
order_preference i j order = if ranks_before order.ranked order.groups i j then order.count else 0

-- how many voters rank i before j
abbrev pub preference : List CountedOrder → ℕ → ℕ → ℕ
preference orders i j = sum (map (order_preference i j) orders)

-- the matrix of these numbers
abbrev pub preference_matrix : ProfileFields → Matrix
preference_matrix profile =
    record { size = profile.size; rows = map (λ i. map (λ j. pos (preference profile.orders i j)) (range_with_len 0 profile.size)) (range_with_len 0 profile.size) }
