pub mod JudgeLemmas
pub mod RootLemmas
