pub mod SlotLemmas
pub mod LineLemmas
pub mod TakeLemmas
pub mod FaultLemmas
pub mod TimeOrder
pub mod VerdictLemmas
pub mod KeptLemmas
pub mod SetupLemmas
pub mod FaultlessLemmas
pub mod AttemptLemmas
mod ExamplesFeeds
