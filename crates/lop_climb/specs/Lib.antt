pub mod StartOrder
pub mod Insertion
