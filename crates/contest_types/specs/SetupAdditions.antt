-- What adding a row to the settings comes to.
use Rattle.std.specs.Prelude.{◌≡◌, Bool, [], length, Result, Err, if◌then◌else◌, nat_le}
use Rattle.contest_types.specs.Places.{is_among}
use Rattle.contest_types.specs.Setup.{Setup, labels_of, refers}
use Rattle.contest_types.specs.Rows.{same_type, same_language, same_problem, same_group, same_team}
use Rattle.contest_types.specs.Additions.{id_match_of, addition, keyed_addition, grown}
use Rattle.contest_types.specs.declared.refusal.Cause.{Cause}
use Rattle.contest_types.specs.declared.refusal.Cause.TheVariants.{UnknownReference}
use Rattle.contest_types.specs.declared.contest.ContestHead.{ContestHead}
use Rattle.contest_types.specs.declared.objects.JudgementType.{JudgementType}
use Rattle.contest_types.specs.declared.objects.Language.{Language}
use Rattle.contest_types.specs.declared.objects.Problem.{Problem}
use Rattle.contest_types.specs.declared.objects.Group.{Group}
use Rattle.contest_types.specs.declared.objects.Team.{Team}
use Rattle.contest_types.specs.declared.limits.TheConstants.{JUDGEMENT_TYPES, LANGUAGES, PROBLEMS, GROUPS, TEAMS}

-- settings with this head and nothing else
abbrev pub IsNew : ContestHead → Setup → Type 0
IsNew head s = s ≡ record { head = head; types = []; languages = []; problems = []; groups = []; teams = [] }

abbrev pub type_addition : Setup → JudgementType → Result Bool Cause
type_addition s row = addition (λ t. t.id) same_type JUDGEMENT_TYPES s.types row

abbrev pub language_addition : Setup → Language → Result Bool Cause
language_addition s row = addition (λ l. l.id) same_language LANGUAGES s.languages row

abbrev pub group_addition : Setup → Group → Result Bool Cause
group_addition s row = addition (λ g. g.id) same_group GROUPS s.groups row

-- a team names groups that are there
abbrev pub team_addition : Setup → Team → Result Bool Cause
team_addition s row = if refers (length s.groups) row then addition (λ t. t.id) same_team TEAMS s.teams row else Err UnknownReference

-- a problem's label is its own
abbrev pub problem_addition : Setup → Problem → Result Bool Cause
problem_addition s row =
    keyed_addition (id_match_of (λ p. p.id) same_problem s.problems row) (is_among (labels_of s.problems) row.label) (nat_le PROBLEMS (length s.problems))

-- the settings with one more row, where it is added
abbrev pub with_type : Bool → Setup → JudgementType → Setup
with_type added s row = record s { types = grown added s.types row }

abbrev pub with_language : Bool → Setup → Language → Setup
with_language added s row = record s { languages = grown added s.languages row }

abbrev pub with_problem : Bool → Setup → Problem → Setup
with_problem added s row = record s { problems = grown added s.problems row }

abbrev pub with_group : Bool → Setup → Group → Setup
with_group added s row = record s { groups = grown added s.groups row }

abbrev pub with_team : Bool → Setup → Team → Setup
with_team added s row = record s { teams = grown added s.teams row }
