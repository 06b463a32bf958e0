pub mod ExportOrder
pub mod WalkRows
pub mod ExportReads
pub mod ExportWritten
pub mod ExportLaws
mod ExamplesExport
mod ExamplesResults
