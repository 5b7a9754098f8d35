pub mod Printed
pub mod TotalLemmas
pub mod DecimalLemmas
pub mod Pieces
