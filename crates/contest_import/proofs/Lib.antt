pub mod RowLemmas
pub mod SoundRows
pub mod AgainLemmas
mod ContestExamples
pub mod ObjectLemmas
pub mod RecordLemmas
pub mod FaultLemmas
