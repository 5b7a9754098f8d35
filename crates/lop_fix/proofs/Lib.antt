pub mod TableLemmas
pub mod LinkLemmas
pub mod TableFixings
pub mod CountedBits
