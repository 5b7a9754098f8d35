pub mod Fixed
pub mod Table
pub mod Cells
pub mod Basis
pub mod Pivot
pub mod Solve
