pub mod CellRows
pub mod CellLaws
pub mod PlacedCells
pub mod Listing
