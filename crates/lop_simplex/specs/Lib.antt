pub mod Shift
pub mod Lp
pub mod Answers
pub mod Run
