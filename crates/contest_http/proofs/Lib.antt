pub mod PhraseLemmas
pub mod HeadLemmas
pub mod LastBytes
pub mod HeadFields
pub mod FieldLemmas
pub mod LengthLemmas
pub mod FrameLemmas
pub mod RestLemmas
pub mod ServeLemmas
pub mod HeadLaws
mod ExamplesHeads
mod ExamplesTargets
mod ExamplesCredentials
mod ExamplesPlans
mod ExamplesReplies
