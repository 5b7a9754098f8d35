pub mod Table
pub mod PartialOrder
pub mod Answers
