pub mod RowLemmas
pub mod DrawnLemmas
pub mod SmallLemmas
pub mod TextLemmas
pub mod NumberLemmas
pub mod ReadBack
