pub mod RecordLemmas
pub mod ReplayStateLemmas
pub mod ReplayFileLemmas
pub mod ReplayContestLemmas
pub mod ReplayValid
pub mod ReplayUntil
mod Examples
