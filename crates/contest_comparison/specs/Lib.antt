pub mod Scoreboards
pub mod Differences
pub mod Comparisons
