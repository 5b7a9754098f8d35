pub mod CoreTree
pub mod Names
pub mod Walk
