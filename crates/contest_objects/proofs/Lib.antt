pub mod CollectionLemmas
pub mod WrittenLemmas
pub mod Sorting
pub mod ListingLemmas
pub mod EventLemmas
pub mod SubmissionIds
mod ExamplesState
