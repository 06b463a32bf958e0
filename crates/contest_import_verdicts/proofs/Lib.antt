pub mod ImportedLemmas
pub mod RecordLemmas
pub mod SoFarLemmas
pub mod AddableLemmas
mod ExamplesVerdicts
pub mod AgainLemmas
