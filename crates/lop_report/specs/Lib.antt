pub mod Figures
pub mod Decimal
pub mod Lines
pub mod AnswerText
