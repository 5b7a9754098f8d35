-- An index of a list of cuts: their numbers, in the order of the cuts.
use Rattle.std.specs.Prelude.{◌≡◌, ℕ, ◌<◌, ◌≤◌, List, length, slice_index, take, drop, All, AllPairs, Contains}
use Rattle.std.specs.declared.cmp.Ordering.{Ordering}
use Rattle.std.specs.declared.cmp.Ordering.TheVariants.{Less, Greater}
use Rattle.lop_cuts.specs.declared.kind.CutKind.{CutKind}
use Rattle.lop_cuts.specs.contracts.kind.CutKindOrd.TheImpl.{ghosts as of_kind}
use Rattle.lop_core.specs.Records.{cut_at, cut_room}

-- the order of cuts
unfoldable pub cut_order : CutKind → CutKind → Ordering
cut_order a b = of_kind.cmp a b

-- the numbers of all cuts, each cut before those that are greater
pub record IsCutIndex (cuts : List CutKind) (index : List ℕ) : Type 0 where
  pub same_length : length index ≡ length cuts
  pub below : All (λ i. i < length cuts) index
  pub rising : AllPairs (λ i j. cut_order (cut_at cuts i) (cut_at cuts j) ≡ Less) index
  pub every : (i : ℕ) → i < length cuts → Contains index i

-- the number is that of the cut
pub record IsNumberOf (cuts : List CutKind) (cut : CutKind) (number : ℕ) : Type 0 where
  pub inside : number < length cuts
  pub is_there : cut_at cuts number ≡ cut

-- the cuts before the place are less than the cut, and those from it on are greater
pub record IsGap (cuts : List CutKind) (index : List ℕ) (cut : CutKind) (place : ℕ) : Type 0 where
  pub inside : place ≤ length index
  pub less : (k : ℕ) → k < place → cut_order (cut_at cuts (slice_index index k)) cut ≡ Less
  pub greater : (k : ℕ) → place ≤ k → k < length index → cut_order (cut_at cuts (slice_index index k)) cut ≡ Greater

-- the index has the first of the cuts; the fresh ones, which came after them, have an index of their own; and each fresh one has a place where it belongs in the index of the first
pub record ArePending (cuts : List CutKind) (index fresh places : List ℕ) : Type 0 where
  pub known : IsCutIndex (take (length index) cuts) index
  pub later : IsCutIndex (drop (length index) cuts) fresh
  pub placed : length places ≡ length fresh
  pub gaps : (j : ℕ) → j < length places → IsGap (take (length index) cuts) index (cut_at (drop (length index) cuts) j) (slice_index places j)

-- so many cuts are within the limit, and the rooms for the cuts, for the fresh ones and for their places
pub record HavePendingRooms (count cut_places fresh_places place_places : ℕ) : Type 0 where
  pub few : count ≤ cut_room
  pub for_cuts : cut_room ≤ cut_places
  pub for_fresh : cut_room ≤ fresh_places
  pub for_places : cut_room ≤ place_places
