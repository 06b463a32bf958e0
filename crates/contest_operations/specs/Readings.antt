-- Reading (Contest API 2023-06): what an audience reads of a contest, and how it is answered.
use Rattle.std.specs.Prelude.{ℕ, List, Option, Some, None}
use Rattle.std.specs.Option.{option_map}
use Rattle.serde_json.specs.Data.{Data}
use Rattle.contest_types.specs.Accounts.{account_named}
use Rattle.contest_types.specs.State.{ContestState, FixedPart}
use Rattle.contest_types.specs.declared.audience.Audience.{Audience}
use Rattle.contest_types.specs.declared.refusal.Refusal.TheVariants.{NotFound}
use Rattle.contest_view.specs.Scoreboards.{group_scoreboard_found, scoreboard_data}
use Rattle.contest_view.specs.Awards.{awards_data, award_found}
use Rattle.contest_view.specs.Clarifications.{clarifications_data, clarification_found}
use Rattle.contest_view.specs.Judgements.{judgements_data, judgement_found}
use Rattle.contest_view.specs.Proposals.{proposals_data}
use Rattle.contest_view.specs.Rejudgings.{rejudgings_data, rejudging_found}
use Rattle.contest_objects.specs.AccountObjects.{account_data}
use Rattle.contest_objects.specs.ContestObjects.{whole_data}
use Rattle.contest_view.specs.Feeds.{feed_events}
use Rattle.contest_view.specs.FileReads.{file_found, file_place}
use Rattle.contest_view.specs.Reads.{submissions_data, submission_found}
use Rattle.contest_objects.specs.EventFeed.{feed_text}
use Rattle.contest_objects.specs.SettingsObjects.{settings_data, setting_found}
use Rattle.contest_operations.specs.Paths.{jury_piece, object_piece}
use Rattle.contest_operations.specs.Replies.{refused, answer, file_answer, lines_answer}
use Rattle.contest_operations.specs.declared.operation.Endpoint.{Endpoint}
use Rattle.contest_operations.specs.declared.operation.Endpoint.TheVariants.{Settings, Submissions, Judgements, Clarifications, Awards}
use Rattle.contest_operations.specs.declared.operation.JuryReading.{JuryReading}
use Rattle.contest_operations.specs.declared.operation.JuryReading.TheVariants.{Proposals, Rejudgings, Rejudging}
use Rattle.contest_operations.specs.declared.operation.Reading.{Reading}
use Rattle.contest_operations.specs.declared.operation.Reading.TheVariants.{Whole, List as AllOf, Object, File, Feed, Scoreboard, GroupScoreboard, Account as OwnAccount, Jury as ForJury}
use Rattle.contest_operations.specs.declared.reply.Reply.{Reply}

-- the array of an endpoint's objects that an audience sees
abbrev pub all_data : Audience → ℕ → ContestState → Endpoint → Data
all_data a now x (Settings endpoint) = settings_data endpoint x.fixed.settings
all_data a now x Submissions = submissions_data a now x
all_data a now x Judgements = judgements_data a now x
all_data a now x Clarifications = clarifications_data a x
all_data a now x Awards = awards_data a now x

-- the one with this id, if the audience sees one
abbrev pub object_found : Audience → ℕ → ContestState → Endpoint → (id : List ℕ) → Option Data
object_found a now x (Settings endpoint) id = setting_found endpoint x.fixed.settings id
object_found a now x Submissions id = submission_found a now x id
object_found a now x Judgements id = judgement_found a now x id
object_found a now x Clarifications id = clarification_found a x id
object_found a now x Awards id = award_found a now x id

-- what only the jury reads, if it is there; who isn't of it finds nothing
abbrev pub jury_found : Audience → ℕ → ContestState → JuryReading → (id : List ℕ) → Option Data
jury_found a now x Proposals id = Some (proposals_data a now x)
jury_found a now x Rejudgings id = Some (rejudgings_data a x)
jury_found a now x Rejudging id = rejudging_found a x id

-- the account with an id
abbrev pub account_found : FixedPart → (id : List ℕ) → Option Data
account_found f id = option_map (account_data f.settings) (account_named f.accounts id)

-- what isn't seen is answered as what isn't there
abbrev pub told : Option Data → Reply
told None = refused NotFound
told (Some d) = answer d

-- nor is a file that the audience may not read
abbrev pub file_told : Option (List ℕ) → Reply
file_told None = refused NotFound
file_told (Some bytes) = file_answer bytes

-- what an audience that reads what a path names, or its own account by the id, is answered
abbrev pub read : Audience → ℕ → ContestState → Reading → (named : List ℕ) → Reply
read a now x (Whole endpoint) path = told (Some (whole_data endpoint x.fixed now))
read a now x (AllOf endpoint) path = told (Some (all_data a now x endpoint))
read a now x (Object endpoint) path = told (object_found a now x endpoint (object_piece path))
read a now x File path = file_told (file_found a now x (object_piece path))
read a now x Feed path = lines_answer (feed_text (feed_events a now x))
read a now x Scoreboard path = told (Some (scoreboard_data a now None x))
read a now x GroupScoreboard path = told (group_scoreboard_found a now x (object_piece path))
read a now x OwnAccount id = told (account_found x.fixed id)
read a now x (ForJury reading) path = told (jury_found a now x reading (jury_piece path))

-- whose file is looked at, by its team and its number: one that the audience may read, or none
abbrev pub read_file : Audience → Reading → (named : List ℕ) → ContestState → Option (ℕ × ℕ)
read_file a File path x = file_place a x.fixed x.submissions (object_piece path)
read_file a _ path x = None
