-- What a contest director asks of who sees what, in the subject's words. Each is the contract of a
-- function of src/sight_laws.rt.
use Rattle.std.specs.Prelude.{◌≡◌, ◌⊎◌, ◌↔◌, ℕ, Bool, true, false, ◌&&◌, ◌||◌, ◌==◌, nat_le, nat_lt, List, map, Option, Some, None, is_some, if◌then◌else◌}
use Rattle.std.specs.List.{list_all}
use Rattle.contest_types.specs.Setup.{Setup}
use Rattle.contest_types.specs.TeamPlaces.{is_of_group}
use Rattle.contest_types.specs.Order.{Has, IsInOrder}
use Rattle.contest_types.specs.Clock.{freeze_of, is_thawed}
use Rattle.contest_types.specs.Masks.{audience_at, knows_all_of}
use Rattle.contest_types.specs.State.{ContestState, submissions_of, Entry, NewSubmission, NewProposal, NewRelease, NewClarification, NewRejudging, SetMember, SetRejudging, SetStart, SetThaw, SetDuration, NewGroup, NewTeam, add, add_all}
use Rattle.contest_types.specs.Sight.{Judgement, sees_submission, sees_clarification, hears, last_judgement, seen_judgement, full_verdict, held_verdict, seen_verdict, SeenSubmission, seen_submission, seen_submissions, seen_clarifications, program_of}
use Rattle.contest_types.specs.Judging.{SeenJudgement, judged, seen_judgements}
use Rattle.contest_types.specs.Alike.{Alike, MayBeHeld}
use Rattle.contest_types.specs.Valid.{is_valid}
use Rattle.contest_types.specs.Addable.{is_addable}
use Rattle.contest_types.specs.declared.audience.Audience.{Audience}
use Rattle.contest_types.specs.declared.audience.Audience.TheVariants.{Public, Jury}
use Rattle.contest_types.specs.declared.submission.Submission.{Submission}
use Rattle.contest_types.specs.declared.clarification.Addressee.TheVariants.{Group as ToGroup, Team as ToTeam}
use Rattle.contest_types.specs.declared.clarification.Clarification.{Clarification}

-- the second may see no less than the first: anyone no less than the public, the jury no less than anyone
abbrev pub SeesNoLess : (lesser greater : Audience) → Type 0
SeesNoLess lesser greater = (lesser ≡ Public) ⊎ ((greater ≡ Jury) ⊎ (lesser ≡ greater))

-- nobody loses sight of a submission by a role
abbrev pub RolesSeeNoLess : Type 0
RolesSeeNoLess =
    (a b : Audience) → SeesNoLess a b → (x : ContestState) (s : Submission) → sees_submission a x s ≡ true → sees_submission b x s ≡ true

-- nor of a clarification
abbrev pub RolesHearNoLess : Type 0
RolesHearNoLess =
    (a b : Audience) → SeesNoLess a b → (x : ContestState) (c : Clarification) → sees_clarification a x.fixed.settings c ≡ true → sees_clarification b x.fixed.settings c ≡ true

-- nor of a verdict
abbrev pub RolesKeepVerdicts : Type 0
RolesKeepVerdicts =
    (a b : Audience) → SeesNoLess a b → (now : ℕ) (x : ContestState) (s : Submission) (j : Judgement) → seen_judgement a now x s ≡ Some j → seen_judgement b now x s ≡ Some j

-- a thaw only adds: a verdict that was seen at any moment is seen once it is thawed
abbrev pub ThawOnlyAdds : Type 0
ThawOnlyAdds =
    (a : Audience) (now later : ℕ) (x : ContestState) (s : Submission) (j : Judgement) → is_thawed x.fixed.marks later ≡ true
    → seen_judgement a now x s ≡ Some j → seen_judgement a later x s ≡ Some j

-- nor does setting the thaw take a verdict away, from the moment on that it is set to
abbrev pub ThawingOnlyAdds : Type 0
ThawingOnlyAdds =
    (a : Audience) (now later thaw : ℕ) (x : ContestState) (s : Submission) (j : Judgement) → nat_le thaw later ≡ true
    → seen_judgement a now x s ≡ Some j → seen_judgement a later (add x (SetThaw thaw)) s ≡ Some j

-- a submission as it is seen, but for its verdict
abbrev pub without_judgement : SeenSubmission → SeenSubmission
without_judgement v = record v { judgement = None }

-- but for the verdicts, what is seen of submissions is the same at any moment
abbrev pub MomentChangesVerdictsOnly : Type 0
MomentChangesVerdictsOnly =
    (a : Audience) (now later : ℕ) (x : ContestState) → map without_judgement (seen_submissions a now x) ≡ map without_judgement (seen_submissions a later x)

-- once it is thawed, and where there is no freeze moment, whoever sees a submission sees what the jury sees of its verdicts
abbrev pub ThawedSeeAsJury : Type 0
ThawedSeeAsJury =
    (a : Audience) (now : ℕ) (x : ContestState) (s : Submission) → (is_thawed x.fixed.marks now ≡ true) ⊎ (freeze_of x.fixed.settings x.fixed.marks ≡ None)
    → sees_submission a x s ≡ true → seen_judgement a now x s ≡ seen_judgement Jury now x s

-- at any moment, frozen or not, the jury sees of each submission what was released last
abbrev pub JurySeesLast : Type 0
JurySeesLast = (now : ℕ) (x : ContestState) (s : Submission) → seen_judgement Jury now x s ≡ last_judgement x s

-- the verdict that is seen is one of two: the last released, to those who know all of the team and once it is
-- thawed; else the last released on what isn't frozen. Of a submission that isn't seen there is none
abbrev pub SeenVerdictIsOneOfTwo : Type 0
SeenVerdictIsOneOfTwo =
    (a : Audience) (now : ℕ) (x : ContestState) (s : Submission) → seen_verdict a now x s
    ≡ (if sees_submission a x s then (if knows_all_of a s.team || is_thawed x.fixed.marks now then full_verdict x s else held_verdict x s) else None)

-- judging before its release: proposals, and rejudgings as they open, are judged and end
abbrev pub is_before_release : Entry → Bool
is_before_release (NewProposal p) = true
is_before_release (NewRejudging r) = true
is_before_release (SetMember n place state) = true
is_before_release (SetRejudging n state) = true
is_before_release _ = false

-- judging shows nothing before its release: however much of it comes, what anyone sees of submissions and
-- verdicts and hears of clarifications stays as it was
abbrev pub JudgingShowsNothing : Type 0
JudgingShowsNothing =
    (a : Audience) (now : ℕ) (x : ContestState) (es : List Entry) → list_all is_before_release es ≡ true
    → (seen_submissions a now (add_all x es) ≡ seen_submissions a now x) × (seen_clarifications a (add_all x es) ≡ seen_clarifications a x)

-- these may change what is seen of submissions and verdicts
abbrev pub may_show_submissions : Entry → Bool
may_show_submissions (NewSubmission s) = true
may_show_submissions (NewRelease v) = true
may_show_submissions (SetStart start) = true
may_show_submissions (SetThaw thaw) = true
may_show_submissions (SetDuration duration freeze) = true
may_show_submissions (NewTeam t) = true
may_show_submissions _ = false

-- and nothing else changes what is seen of submissions and verdicts
abbrev pub OnlyTheseShowSubmissions : Type 0
OnlyTheseShowSubmissions =
    (a : Audience) (now : ℕ) (x : ContestState) (e : Entry) → may_show_submissions e ≡ false → seen_submissions a now (add x e) ≡ seen_submissions a now x

-- these may change what is heard of clarifications
abbrev pub may_show_clarifications : Entry → Bool
may_show_clarifications (NewClarification c) = true
may_show_clarifications (NewGroup g) = true
may_show_clarifications (NewTeam t) = true
may_show_clarifications _ = false

-- and nothing else changes what is heard of them
abbrev pub OnlyTheseShowClarifications : Type 0
OnlyTheseShowClarifications =
    (a : Audience) (x : ContestState) (e : Entry) → may_show_clarifications e ≡ false → seen_clarifications a (add x e) ≡ seen_clarifications a x

-- and an extension shows nothing and hides nothing: where the duration may be set, what anyone sees of
-- submissions and verdicts and hears of clarifications is as it was, at any moment
abbrev pub ExtensionShowsNothing : Type 0
ExtensionShowsNothing =
    (a : Audience) (now : ℕ) (x : ContestState) (duration : ℕ) (freeze : Option ℕ) → is_addable x (SetDuration duration freeze) ≡ true
    → (seen_submissions a now (add x (SetDuration duration freeze)) ≡ seen_submissions a now x) × (seen_clarifications a (add x (SetDuration duration freeze)) ≡ seen_clarifications a x)

-- the jury and the team itself know all of a team, and nobody else does
abbrev pub TeamAndJuryKnowAll : Type 0
TeamAndJuryKnowAll = (a : Audience) (team : ℕ) → (knows_all_of a team ≡ true) ↔ ((a ≡ Jury) ⊎ (a ≡ audience_at team))

-- a program is shown to those who know all of its team, at any moment, thawed or not
abbrev pub ProgramIsForItsTeam : Type 0
ProgramIsForItsTeam =
    (a : Audience) (now : ℕ) (x : ContestState) (s : Submission)
    → (seen_submission a now x s).program ≡ (if knows_all_of a s.team then Some (program_of s) else None)

-- of what is listed, just the submissions of teams of which all is known have a program
abbrev pub ListedProgramIsForItsTeam : Type 0
ListedProgramIsForItsTeam =
    (a : Audience) (now : ℕ) (x : ContestState) (v : SeenSubmission) → Has (seen_submissions a now x) v → is_some v.program ≡ knows_all_of a v.team

-- what a team asks, and what the jury answers it, those hear who know all of the team
abbrev pub AskedIsHeardByItsTeam : Type 0
AskedIsHeardByItsTeam = (a : Audience) (s : Setup) (team : ℕ) → hears a s (ToTeam team) ≡ knows_all_of a team

-- the audience is a team that is in the group
pub record IsTeamOf (s : Setup) (group : ℕ) (a : Audience) : Type 0 where
  pub team : ℕ
  pub speaks : a ≡ audience_at team
  pub there : is_of_group s group team ≡ true

-- what the jury tells a group is heard by the jury and by the teams that are in it, and by nobody else
abbrev pub GroupIsHeardByItsTeams : Type 0
GroupIsHeardByItsTeams =
    (a : Audience) (s : Setup) (group : ℕ) → (hears a s (ToGroup group) ≡ true) ↔ ((a ≡ Jury) ⊎ IsTeamOf s group a)

-- the public hears what goes to no group

abbrev pub PublicHearsNoGroup : Type 0
PublicHearsNoGroup = (s : Setup) (group : ℕ) → hears Public s (ToGroup group) ≡ false

-- earlier, or of one time and with a smaller number
abbrev pub is_earlier : Submission → Submission → Bool
is_earlier s t = nat_lt s.time t.time || ((s.time == t.time) && nat_lt s.number t.number)

-- in a valid contest a team's submissions stand by time, those of one time by number
abbrev pub SubmissionsStandByTime : Type 0
SubmissionsStandByTime = (x : ContestState) (team : ℕ) → is_valid x ≡ true → IsInOrder is_earlier (submissions_of team x.submissions)

-- this is the judgement that is seen on a submission that is seen
pub record IsJudged (a : Audience) (now : ℕ) (x : ContestState) (v : SeenJudgement) : Type 0 where
  pub submission : SeenSubmission
  pub there : Has (seen_submissions a now x) submission
  pub has : judged submission ≡ Some v

-- the judgements that an audience sees are just those of the submissions that it sees
abbrev pub SeenJudgementsAreListed : Type 0
SeenJudgementsAreListed = (a : Audience) (now : ℕ) (x : ContestState) (v : SeenJudgement) → Has (seen_judgements a now x) v ↔ IsJudged a now x v

-- until the thaw, alike contests show an audience the same judgements
abbrev pub AlikeShowTheSameJudgements : Type 0
AlikeShowTheSameJudgements =
    (a : Audience) (now : ℕ) (x y : ContestState) → MayBeHeld a now x → Alike a x y → seen_judgements a now x ≡ seen_judgements a now y
