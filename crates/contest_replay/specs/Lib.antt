pub mod ReplayRecord
pub mod ReplayRows
pub mod ReplayLists
pub mod ReplayContest
pub mod ReplayState
pub mod ReplayFile
