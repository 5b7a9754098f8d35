pub mod Extension
pub mod Judged
pub mod Pool
pub mod Rounds
