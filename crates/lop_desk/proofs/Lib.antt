pub mod Digits
pub mod Pieces
pub mod Worlds
pub mod Files
pub mod Printing
pub mod Lines
pub mod NextLine
pub mod Spellings
