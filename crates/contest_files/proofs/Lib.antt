pub mod Rest
pub mod Steps
pub mod FieldLemmas
pub mod IdLemmas
pub mod JsonLemmas
pub mod ArrayLemmas
pub mod TokenLemmas
pub mod RecordLemmas
