-- What a contest director may ask of the scoring, in the subject's words. Each is the contract of a
-- function of src/scoring_laws.rt.
use Rattle.std.specs.Prelude.{◌≡◌, ◌≢◌, ◌⊎◌, ◌==◌, ◌&&◌, ℕ, Bool, true, false, List, [], ◌∷◌, ◌++◌, map, filter, Option, Some, None, ◌≤◌}
use Rattle.std.specs.List.{list_any}
use Rattle.contest_types.specs.Clock.{freeze_of, is_thawed}
use Rattle.contest_types.specs.Order.{Has}
use Rattle.contest_types.specs.State.{ContestState, with_marks, add, names, of_release}
use Rattle.contest_types.specs.declared.entry.Entry.{Entry}
use Rattle.contest_types.specs.declared.entry.Entry.TheVariants.{NewSubmission, NewRelease, SetStart, SetThaw, SetFinalized, SetDuration, SetTeamName, NewType, NewProblem, NewGroup, NewTeam}
use Rattle.contest_types.specs.Sight.{SeenSubmission, type_of, sees_team, seen_of_team}
use Rattle.contest_types.specs.Addable.{is_addable}
use Rattle.contest_types.specs.Valid.{is_valid}
use Rattle.contest_types.specs.declared.audience.Audience.{Audience}
use Rattle.contest_types.specs.declared.audience.Audience.TheVariants.{Jury}
use Rattle.contest_types.specs.declared.objects.JudgementType.{JudgementType}
use Rattle.contest_types.specs.declared.minute.Minute.{Minute}
use Rattle.contest_types.specs.declared.submission.Submission.{Submission}
use Rattle.contest_types.specs.declared.submission.Release.{Release}
use Rattle.contest_score.specs.declared.attempt.Attempt.{Attempt}
use Rattle.contest_score.specs.declared.cell.Cell.{Cell}
use Rattle.contest_score.specs.Scoring.{is_solving, cell_of_attempts, solved_minutes, last_of}
use Rattle.contest_score.specs.MaskedCells.{verdict_of, start_of}
use Rattle.contest_score.specs.Ranking.{board_rows, is_on_board, is_public}
use Rattle.contest_score.specs.Contest.{seen_cell, board_for}
use Rattle.contest_score.specs.Awards.{shown_awards}
use Rattle.contest_score.specs.Laws.{with_freeze}

-- a submission that is seen, as scoring takes it: its time, and the verdict that is seen on it
abbrev pub seen_attempt : List JudgementType → SeenSubmission → Attempt
seen_attempt types v = record { time = v.time; verdict = verdict_of types (type_of v.judgement) }

-- the attempts that an audience sees of a team at a problem
abbrev pub seen_attempts : Audience → ℕ → ContestState → ℕ → ℕ → List Attempt
seen_attempts a now x team problem = map (seen_attempt x.fixed.settings.types) (filter (λ v. v.problem == problem) (seen_of_team a now x team))

-- pass-fail scoring of the attempts that an audience sees
abbrev pub scored_by_sight : Audience → ℕ → ContestState → ℕ → ℕ → Cell
scored_by_sight a now x team problem = cell_of_attempts (start_of x.fixed.marks) (seen_attempts a now x team problem)

-- each cell of a team whose submissions are seen is the scoring of what is seen of them
abbrev pub CellsScoreTheSeen : Type 0
CellsScoreTheSeen =
    (a : Audience) (now : ℕ) (x : ContestState) (team problem : ℕ) → sees_team a x.fixed.settings team ≡ true
    → seen_cell a now x team problem ≡ scored_by_sight a now x team problem

-- and each board ranks by these cells, a group's too
abbrev pub BoardsScoreTheSeen : Type 0
BoardsScoreTheSeen =
    (a : Audience) (now : ℕ) (group : Option ℕ) (x : ContestState)
    → board_for a now group x ≡ board_rows x.fixed.settings (is_on_board x.fixed.settings group) (scored_by_sight a now x)

-- no verdict is held back now: it is thawed, or there is no freeze
abbrev pub HoldsNothing : ℕ → ContestState → Type 0
HoldsNothing now x = (is_thawed x.fixed.marks now ≡ true) ⊎ (freeze_of x.fixed.settings x.fixed.marks ≡ None)

-- then everybody reads the jury's cells
abbrev pub AllReadTheJurysCells : Type 0
AllReadTheJurysCells =
    (a : Audience) (now : ℕ) (x : ContestState) (team problem : ℕ) → HoldsNothing now x → seen_cell a now x team problem ≡ seen_cell Jury now x team problem

-- and the jury's board
abbrev pub AllReadTheJurysBoard : Type 0
AllReadTheJurysBoard = (a : Audience) (now : ℕ) (group : Option ℕ) (x : ContestState) → HoldsNothing now x → board_for a now group x ≡ board_for Jury now group x

-- and the jury's awards
abbrev pub AllReadTheJurysAwards : Type 0
AllReadTheJurysAwards = (a : Audience) (now : ℕ) (x : ContestState) → HoldsNothing now x → shown_awards a now x ≡ shown_awards Jury now x

-- the jury's board is the same at every moment
abbrev pub JurysBoardStays : Type 0
JurysBoardStays = (now later : ℕ) (group : Option ℕ) (x : ContestState) → board_for Jury now group x ≡ board_for Jury later group x

-- the contest with another thaw, or none
abbrev pub with_thaw : ContestState → Option ℕ → ContestState
with_thaw x thaw = with_marks x (record x.fixed.marks { thaw = thaw })

-- and it is the same whatever the freeze and the thaw
abbrev pub JurysBoardIgnoresTheFreeze : Type 0
JurysBoardIgnoresTheFreeze =
    (now : ℕ) (group : Option ℕ) (x : ContestState) (freeze thaw : Option ℕ)
    → board_for Jury now group (with_thaw (with_freeze x freeze) thaw) ≡ board_for Jury now group x

-- a submission of the team, or a release on one
abbrev pub is_of_team : ℕ → Entry → Bool
is_of_team team (NewSubmission s) = s.team == team
is_of_team team (NewRelease v) = v.team == team
is_of_team team _ = false

-- what a hidden team submits and gets moves nothing on any board
abbrev pub HiddenMovesNoBoard : Type 0
HiddenMovesNoBoard =
    (a : Audience) (now : ℕ) (group : Option ℕ) (x : ContestState) (team : ℕ) (e : Entry) → is_public x.fixed.settings team ≡ false → is_of_team team e ≡ true
    → board_for a now group (add x e) ≡ board_for a now group x

-- nor any award
abbrev pub HiddenMovesNoAward : Type 0
HiddenMovesNoAward =
    (a : Audience) (now : ℕ) (x : ContestState) (team : ℕ) (e : Entry) → is_public x.fixed.settings team ≡ false → is_of_team team e ≡ true
    → shown_awards a now (add x e) ≡ shown_awards a now x

-- what may change a cell or a board: a submission, a release, the start, the thaw and the duration, a
-- team's name, by which equals stand, and new types, problems and teams
abbrev pub can_score : Entry → Bool
can_score (NewSubmission s) = true
can_score (NewRelease v) = true
can_score (SetStart start) = true
can_score (SetThaw thaw) = true
can_score (SetDuration duration freeze) = true
can_score (SetTeamName team name) = true
can_score (NewType t) = true
can_score (NewProblem p) = true
can_score (NewTeam t) = true
can_score _ = false

-- nothing else does: no proposal, rejudging or clarification, and no finalizing
abbrev pub NothingElseScores : Type 0
NothingElseScores =
    (a : Audience) (now : ℕ) (group : Option ℕ) (x : ContestState) (e : Entry) → can_score e ≡ false
    → (seen_cell a now (add x e) ≡ seen_cell a now x) × (board_for a now group (add x e) ≡ board_for a now group x)

-- and where the duration may be set, it changes no cell and no board, at any moment
abbrev pub ExtensionMovesNoBoard : Type 0
ExtensionMovesNoBoard =
    (a : Audience) (now : ℕ) (group : Option ℕ) (x : ContestState) (duration : ℕ) (freeze : Option ℕ) → is_addable x (SetDuration duration freeze) ≡ true
    → (seen_cell a now (add x (SetDuration duration freeze)) ≡ seen_cell a now x) × (board_for a now group (add x (SetDuration duration freeze)) ≡ board_for a now group x)

-- what may change the awards: the same, finalizing and a new group
abbrev pub can_award : Entry → Bool
can_award (SetFinalized finalized) = true
can_award (NewGroup g) = true
can_award e = can_score e

-- nothing else does
abbrev pub NothingElseAwards : Type 0
NothingElseAwards =
    (a : Audience) (now : ℕ) (x : ContestState) (e : Entry) → can_award e ≡ false → shown_awards a now (add x e) ≡ shown_awards a now x

-- a submission changes no cell but that of its team at its problem
abbrev pub SubmissionMovesOneCell : Type 0
SubmissionMovesOneCell =
    (a : Audience) (now : ℕ) (x : ContestState) (s : Submission) (team problem : ℕ) → (team ≢ s.team) ⊎ (problem ≢ s.problem)
    → seen_cell a now (add x (NewSubmission s)) team problem ≡ seen_cell a now x team problem

-- the submission is by this team, at this problem
abbrev pub is_at : (team problem : ℕ) → Submission → Bool
is_at team problem s = (s.team == team) && (s.problem == problem)

-- some submission of this team, at this problem, is what the release is on
abbrev pub bears_on : Release → ContestState → (team problem : ℕ) → Bool
bears_on v x team problem = list_any (λ (s : Submission). names s.team s.number (of_release v) && is_at team problem s) x.submissions

-- a release changes no cell but those of its submission
abbrev pub ReleaseMovesItsCell : Type 0
ReleaseMovesItsCell =
    (a : Audience) (now : ℕ) (x : ContestState) (v : Release) (team problem : ℕ) → bears_on v x team problem ≡ false
    → seen_cell a now (add x (NewRelease v)) team problem ≡ seen_cell a now x team problem

-- in a valid contest this is one cell
abbrev pub ReleaseMovesOneCell : Type 0
ReleaseMovesOneCell =
    (a : Audience) (now : ℕ) (x : ContestState) (v : Release) (s : Submission) (team problem : ℕ) → is_valid x ≡ true
    → Has x.submissions s → names s.team s.number (of_release v) ≡ true → (team ≢ s.team) ⊎ (problem ≢ s.problem)
    → seen_cell a now (add x (NewRelease v)) team problem ≡ seen_cell a now x team problem

-- attempts after an accepted one change nothing of its cell
abbrev pub NothingAfterAccepted : Type 0
NothingAfterAccepted =
    (start : ℕ) (earlier : List Attempt) (a : Attempt) (later : List Attempt) → is_solving a ≡ true
    → cell_of_attempts start (earlier ++ a ∷ later) ≡ cell_of_attempts start (earlier ++ a ∷ [])

-- the last solved minute is that of a solved problem, and none is later; nothing is solved where there is none
abbrev pub LastIsTheLatest : Type 0
LastIsTheLatest =
    (cells : List Cell)
    → ((m : Minute) → last_of cells ≡ Some m → Has (solved_minutes cells) m × ((n : Minute) → Has (solved_minutes cells) n → n.0 ≤ m.0))
    × (last_of cells ≡ None → solved_minutes cells ≡ [])
