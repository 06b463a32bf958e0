-- The text that `replay` gives of a file.
use Rattle.std.specs.Prelude.{ℕ, ℤ, pos, negsuc, Bool, List, Option, Some, None, Result, Ok, Err, if◌then◌else◌}
use Rattle.contest_types.specs.Setup.{Setup}
use Rattle.contest_types.specs.declared.audience.Audience.{Audience}
use Rattle.contest_types.specs.declared.audience.Audience.TheVariants.{Public, Jury}
use Rattle.contest_types.specs.declared.marks.Marks.{Marks}
use Rattle.contest_types.specs.declared.refusal.Refusal.{Refusal}
use Rattle.contest_score.specs.Contest.{seen_board}
use Rattle.contest_score.specs.Ranking.{Scoreboard}
use Rattle.contest_score.specs.declared.submission.JudgedSubmission.{JudgedSubmission}
use Rattle.contest_text.specs.BoardText.{board_text}
use Rattle.contest_replay.specs.ReplayLists.{ReplayLists}
use Rattle.contest_replay.specs.ReplayContest.{replay_contest, marks_for, up_to}
use Rattle.contest_replay.specs.ReplayFile.{contest_in_file}

-- who looks: the jury, or anyone
abbrev pub audience_for : (jury : Bool) → Audience
audience_for jury = if jury then Jury else Public

-- the moment of a contest time, at the earliest the start; the end where none is asked for
abbrev pub moment_for : Setup → Option ℤ → ℕ
moment_for s None = s.head.duration
moment_for s (Some (pos time)) = time
moment_for s (Some (negsuc n)) = 0

-- the model's board for a caller at a moment, of the contest with these submissions
abbrev pub board_at : Audience → Setup → Marks → ℕ → List JudgedSubmission → Scoreboard
board_at who s marks now us = seen_board who now None (replay_contest s marks us)

-- the board of a replayed contest: of its submissions up to the moment
abbrev pub shown_board : Audience → Marks → ℕ → ReplayLists → Scoreboard
shown_board who marks now r = board_at who r.settings marks now (up_to now r.submissions)

-- its text
abbrev pub shown_text : Audience → Marks → ℕ → ReplayLists → List ℕ
shown_text who marks now r = board_text r.settings marks now who None (shown_board who marks now r)

-- the board that is asked for: for the jury or for anyone, thawed or not, at a contest time or at the end
abbrev pub asked_board : (jury thawed : Bool) → (at : Option ℤ) → ReplayLists → Scoreboard
asked_board jury thawed at r = shown_board (audience_for jury) (marks_for r.settings thawed) (moment_for r.settings at) r

abbrev pub shown : Bool → Bool → Option ℤ → Result ReplayLists Refusal → Result (List ℕ) Refusal
shown jury thawed at (Err refusal) = Err refusal
shown jury thawed at (Ok r) = Ok (shown_text (audience_for jury) (marks_for r.settings thawed) (moment_for r.settings at) r)

-- the text of the board of the contest that the bytes spell, or why they are refused: for the jury or
-- for anyone, thawed or not, at a contest time or at the end
abbrev pub board_of : Bool → Bool → Option ℤ → List ℕ → Result (List ℕ) Refusal
board_of jury thawed at bytes = shown jury thawed at (contest_in_file bytes)
