pub mod Dicycles
pub mod Search
