pub mod CsvRecords
pub mod FieldTexts
pub mod Refused
pub mod JsonMembers
pub mod IdArrays
pub mod Tokens
