pub mod ExtensionLemmas
pub mod SoundLemmas
pub mod PackLemmas
pub mod PruneLemmas
pub mod BetterLemmas
pub mod RoundLemmas
