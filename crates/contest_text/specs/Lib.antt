pub mod Padding
pub mod CellText
pub mod BoardText
pub mod BoardCsv
pub mod AwardsText
