-- The types of what is read of a feed, by names for other crates, which say something of it and don't use it.
use Rattle.contest_feed_reader.specs.declared.objects.FeedGroup.{FeedGroup}
use Rattle.contest_feed_reader.specs.declared.objects.FeedProblem.{FeedProblem}
use Rattle.contest_feed_reader.specs.declared.objects.FeedTeam.{FeedTeam}
use Rattle.contest_feed_reader.specs.declared.objects.FeedType.{FeedType}
use Rattle.contest_feed_reader.specs.declared.row.Row.{Row}
use Rattle.contest_feed_reader.specs.declared.submissions.FeedJudgement.{FeedJudgement}
use Rattle.contest_feed_reader.specs.declared.submissions.FeedSubmission.{FeedSubmission}
use Rattle.contest_feed_reader.specs.declared.tables.Tables.{Tables}

-- all collections
abbrev pub TablesRead : Type 0
TablesRead = Tables

-- an object where it stands
abbrev pub RowRead : Type 0 → Type 0
RowRead A = Row A

-- what objects say
abbrev pub TypeRead : Type 0
TypeRead = FeedType

abbrev pub ProblemRead : Type 0
ProblemRead = FeedProblem

abbrev pub GroupRead : Type 0
GroupRead = FeedGroup

abbrev pub TeamRead : Type 0
TeamRead = FeedTeam

abbrev pub SubmissionRead : Type 0
SubmissionRead = FeedSubmission

abbrev pub JudgementRead : Type 0
JudgementRead = FeedJudgement
