pub mod Addable
pub mod Digests
pub mod FillLemmas
pub mod NameLemmas
pub mod RowLemmas
pub mod ExamplesDemo
