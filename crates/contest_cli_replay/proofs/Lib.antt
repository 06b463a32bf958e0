pub mod ReplayLemmas
mod ReplayWordLemmas
