pub mod AccountLemmas
pub mod PartLemmas
pub mod FixedAlone
pub mod FixedLemmas
pub mod TeamRowLemmas
pub mod RowIndexLemmas
