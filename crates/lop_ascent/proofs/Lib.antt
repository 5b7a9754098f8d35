pub mod FewerLemmas
pub mod ListLemmas
pub mod PlaceLemmas
pub mod PointLemmas
