pub mod Items
pub mod AccountRows
pub mod Heads
pub mod FixedParts
pub mod Laws
pub mod Spelling
pub mod SpellingLaws
