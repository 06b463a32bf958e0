pub mod ImportedVerdicts
pub mod VerdictFiles
pub mod SoFar
pub mod Laws
