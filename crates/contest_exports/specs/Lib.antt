pub mod Walks
pub mod SubmissionsCsv
pub mod ResultsTsv
pub mod Exports
pub mod Laws
