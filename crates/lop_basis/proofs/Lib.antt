pub mod TableLemmas
pub mod RowLemmas
pub mod FixedLemmas
pub mod PivotLemmas
pub mod SumLemmas
