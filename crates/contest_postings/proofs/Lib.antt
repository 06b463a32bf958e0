pub mod OwnRows
pub mod OwnLemmas
pub mod FileLemmas
pub mod PostLemmas
pub mod NamedSubmissionLemmas
pub mod LoadedClock
