pub mod AtFixings
pub mod Duals
pub mod Fewer
pub mod Places
pub mod Rows
pub mod Room
