pub mod FeedLemmas
pub mod Listed
pub mod SeriesApart
pub mod SeenApart
pub mod SeenOrder
pub mod ClarificationLists
pub mod OwnNumbers
pub mod NamedLemmas
pub mod SubmissionLists
pub mod SeenById
pub mod ReadLaws
pub mod FileReadLemmas
mod ExamplesReads
pub mod BoardObjectLemmas
pub mod BoardLaws
pub mod AwardReads
pub mod AwardIds
mod ExamplesBoards
mod ExamplesAwards
pub mod JudgementLemmas
pub mod JudgementIds
pub mod JudgementLaws
pub mod ProposalLemmas
pub mod RejudgingLemmas
pub mod RejudgingLaws
pub mod FeedLaws
