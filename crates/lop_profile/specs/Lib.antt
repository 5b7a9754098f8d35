pub mod Cells
pub mod Preference
pub mod Reading
