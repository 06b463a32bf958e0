pub mod FiledLemmas
pub mod LeaveLemmas
pub mod CallsLeft
pub mod ScoringLemmas
pub mod CalmLemmas
