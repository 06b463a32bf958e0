pub mod FirstAttempts
pub mod CellOrder
pub mod CellChanges
pub mod CellsKept
pub mod ListedLemmas
pub mod ListedWalk
pub mod ListedRows
