pub mod CellLemmas
pub mod ReadLemmas
pub mod ListLemmas
pub mod NumeralLemmas
pub mod RowLemmas
pub mod PlaceBack
pub mod RowLaws
pub mod ReferenceLaws
pub mod ClarificationLaws
pub mod ListLaws
pub mod RejudgingLaws
pub mod TableLaws
mod Examples
