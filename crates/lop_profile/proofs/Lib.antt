pub mod PlaceLemmas
pub mod CellLemmas
pub mod PairLemmas
pub mod VoteLemmas
pub mod TableLemmas
