pub mod RowLemmas
pub mod ShiftLemmas
