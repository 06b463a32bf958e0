pub mod SubmissionBodies
pub mod ClarificationBodies
pub mod JuryVerdicts
pub mod RejudgingBodies
pub mod ClockBodies
pub mod ExtensionBodies
