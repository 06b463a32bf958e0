pub mod Lists
pub mod TeamRows
pub mod RowsOn
pub mod RowIndex
pub mod RowsAdded
