pub mod Word
pub mod Options
pub mod Command
pub mod WordsFault
