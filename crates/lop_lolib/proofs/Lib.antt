pub mod WordsLemmas
pub mod NumberLemmas
pub mod WholeLemmas
pub mod EntriesLemmas
pub mod UnitsLemmas
pub mod ObjectsLemmas
