-- An object of a collection, whichever it is: as it is served, and the name of its collection (Contest API 2023-06,
-- endpoints; proposals are own).
use Rattle.std.specs.Prelude.{ℕ, List, codes}
use Rattle.contest_types.specs.Sight.{judgement_of, program_for, seen_clarification}
use Rattle.contest_types.specs.VisibleIds.{submission_id}
use Rattle.contest_objects.specs.AwardObjects.{award_item}
use Rattle.contest_objects.specs.ClarificationObjects.{clarification_item}
use Rattle.contest_objects.specs.EventFeed.{FeedEvent, item_event}
use Rattle.contest_objects.specs.Items.{Item}
use Rattle.contest_objects.specs.JudgementObjects.{judgement_item}
use Rattle.contest_objects.specs.Objects.{submission_data}
use Rattle.contest_objects.specs.ProposalObjects.{proposal_data}
use Rattle.contest_objects.specs.SettingsObjects.{group_item, language_item, problem_item, team_item, type_item}
use Rattle.contest_objects.specs.declared.collection_object.CollectionObject.{CollectionObject}
use Rattle.contest_objects.specs.declared.collection_object.CollectionObject.TheVariants.{JudgementType, Language, Problem, Group, Team, Submission, Judgement, Clarification, Award, Proposal}
use Rattle.contest_objects.specs.declared.proposal_object.ProposalObject.{ProposalObject}
use Rattle.contest_objects.specs.declared.submission_object.SubmissionObject.{SubmissionObject}

-- a submission as it is shown
abbrev pub submission_shown : SubmissionObject → Item
submission_shown o = record {
  id = submission_id o.submission.now.team o.submission.now.number;
  object = submission_data o.fixed.now o.submission.now.team o.submission.now.number o.submission.now.time o.submission.now.problem o.submission.now.language (program_for o.audience o.submission.now);
}

-- a proposal goes by the id of its submission
abbrev pub proposal_shown : ProposalObject → Item
proposal_shown o = record { id = submission_id o.proposal.now.team o.proposal.now.number; object = proposal_data o.settings.now o.proposal.now o.released }

-- as it is served
abbrev pub item_of : CollectionObject → Item
item_of (JudgementType t) = type_item t.now
item_of (Language l) = language_item l.now
item_of (Problem p) = problem_item p.now
item_of (Group g) = group_item g.now
item_of (Team o) = team_item o.settings.now o.team.now
item_of (Submission o) = submission_shown o
item_of (Judgement o) = judgement_item o.fixed.now o.team o.number (judgement_of o.release.now)
item_of (Clarification o) = clarification_item o.fixed.now (seen_clarification o.audience o.fixed.now.settings o.clarification.now)
item_of (Award o) = award_item o.settings.now o.id.now o.citation.now o.teams.now
item_of (Proposal o) = proposal_shown o

-- the name of its collection
abbrev pub collection_of : CollectionObject → List ℕ
collection_of (JudgementType t) = codes "judgement-types"
collection_of (Language l) = codes "languages"
collection_of (Problem p) = codes "problems"
collection_of (Group g) = codes "groups"
collection_of (Team o) = codes "teams"
collection_of (Submission o) = codes "submissions"
collection_of (Judgement o) = codes "judgements"
collection_of (Clarification o) = codes "clarifications"
collection_of (Award o) = codes "awards"
collection_of (Proposal o) = codes "proposals"

-- its event
abbrev pub event_of : CollectionObject → FeedEvent
event_of o = item_event (collection_of o) (item_of o)
