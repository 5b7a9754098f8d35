pub mod Verdict
pub mod Walk
pub mod Trail
pub mod TreePlace
pub mod Cycles
pub mod Charges
pub mod Records
pub mod Nodes
