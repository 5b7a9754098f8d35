pub mod SearchLemmas
pub mod DicycleLemmas
