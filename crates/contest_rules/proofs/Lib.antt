pub mod SubmittingLemmas
pub mod TakenLemmas
pub mod ClarifiedLemmas
pub mod AlikeClarified
pub mod ProposedLemmas
mod ExamplesSubmitting
mod ExamplesClarifying
mod ExamplesProposing
mod ExamplesRejudging
mod ExamplesClock
mod ExamplesExtension
pub mod VerifiedLemmas
pub mod CandidateLemmas
pub mod OpenedLemmas
pub mod AppliedLemmas
pub mod RejudgedLemmas
pub mod ClockLemmas
pub mod ExtensionLemmas
pub mod JudgedLemmas
pub mod NamedLemmas
