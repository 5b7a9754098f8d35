-- The places of records in a text, by their numbers in the core.
use Rattle.std.specs.Prelude.{◌≡◌, ◌≢◌, ℕ, ◌+◌, ◌-◌, ◌<◌, List, length, slice_index_or}
use Rattle.lop_core.specs.Records.{number_at}
use Rattle.lop_certwrite.specs.CoreTree.{NodeTree, users_in}

-- the place of each user's record, from 1, stands at the record's number, and nothing else does
pub record ArePlaces (numbers users places : List ℕ) : Type 0 where
  pub placed : (i : ℕ) → i < length users → slice_index_or places (number_at numbers (slice_index_or users i 0)) 0 ≡ i + 1
  pub within : (k : ℕ) → k < length places → slice_index_or places k 0 ≢ 0 → slice_index_or places k 0 < length users + 1
  pub owned : (k : ℕ) → k < length places → slice_index_or places k 0 ≢ 0 → number_at numbers (slice_index_or users (slice_index_or places k 0 - 1) 0) ≡ k

-- the users are those of the tree, and the places are theirs
pub record IsNaming (numbers : List ℕ) (tree : NodeTree) (users places : List ℕ) : Type 0 where
  pub users_are : users ≡ users_in numbers tree
  pub places_are : ArePlaces numbers users places
