pub mod StartLemmas
pub mod ClimbLemmas
