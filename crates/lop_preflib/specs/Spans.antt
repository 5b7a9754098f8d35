-- Orders whose objects, and the group numbers of these, lie one after another.
use Rattle.std.specs.Prelude.{◌≡◌, ℕ, ◌-◌, ◌≤◌, List, length, take, drop, map, All}
use Rattle.lop_preflib.specs.Profile.{CountedOrder, votes}
use Rattle.lop_preflib.specs.declared.orders.Span.{Span}
use Rattle.lop_preflib.specs.declared.profile.TheConstants.{MAX_VOTERS}

-- what lies at this span
abbrev pub part : Span → List ℕ → List ℕ
part span numbers = take (span.end - span.start) (drop span.start numbers)

-- the order whose objects and group numbers lie at this span
abbrev pub order_in : List ℕ → List ℕ → Span → CountedOrder
order_in objects groups span = record { count = span.count; ranked = part span objects; groups = part span groups }

-- a span lies within the first n objects
pub record IsWithin (n : ℕ) (span : Span) : Type 0 where
  pub order : span.start ≤ span.end
  pub end : span.end ≤ n

-- all spans lie within the objects, each of which has a group number, and their counts sum to `voters`, at most 10^18
pub record AreSpans (objects groups : List ℕ) (spans : List Span) (voters : ℕ) : Type 0 where
  pub grouped : length objects ≤ length groups
  pub within : All (IsWithin (length objects)) spans
  pub votes_sum : voters ≡ votes (map (order_in objects groups) spans)
  pub few : voters ≤ MAX_VOTERS
