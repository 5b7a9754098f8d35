pub mod Generated
pub mod Drawn
pub mod Text
pub mod EntryText
