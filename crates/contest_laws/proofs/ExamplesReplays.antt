-- A worked example of a replay, and of a desk's contest beside it.
use Rattle.std.proofs.Common.{◌≡◌, ◌+◌, List, [], ◌∷◌, Some, None, refl}
use Rattle.std.specs.Prelude.{codes}
use Rattle.contest_types.specs.Setup.{Setup}
use Rattle.contest_types.specs.State.{ContestState}
use Rattle.contest_types.specs.declared.audience.Audience.TheVariants as audience
use Rattle.contest_types.proofs.ExampleContest.{accepted, empty, hours, minutes, released, settings, submitted, wrong}
use Rattle.contest_score.specs.BoardLaws.{teams_of}
use Rattle.contest_score.specs.Contest.{board_for}
use Rattle.contest_score.specs.declared.submission.JudgedSubmission.{JudgedSubmission}
use Rattle.contest_replay.specs.ReplayContest.{replay_contest, replay_marks, up_to}
use Rattle.contest_replay.specs.ReplayLists.{any_language}
use Rattle.contest_laws.specs.Replays.{IsDayOf}
use Rattle.contest_laws.proofs.ReplayLaws.{replays_are_days}

-- the second team solves the first problem after half an hour, the first team fails at it in the freeze, and solves it in the
-- last minute
abbrev told : List JudgedSubmission
told =
    record { team = 1; problem = 0; time = minutes 30; verdict = Some accepted }
    ∷ record { team = 0; problem = 0; time = minutes 270; verdict = Some wrong }
    ∷ record { team = 0; problem = 0; time = minutes 299; verdict = Some accepted } ∷ []

abbrev file_settings : Setup
file_settings = record settings { languages = any_language ∷ [] }

-- a desk had the first two in a contest that began at nine, with programs, and judged each some minutes later
abbrev day : ContestState
day = record empty {
  fixed = record empty.fixed { marks = record { start = Some (hours 9); thaw = None; finalized = None } };
  submissions =
      record (submitted 1 1 (hours 9 + minutes 30) 0) { file = codes "main"; key = Some (codes "k1") }
      ∷ record (submitted 0 1 (hours 9 + minutes 270) 0) { language = 1; entry_point = Some (codes "Main") } ∷ [];
  releases = released 1 1 1 accepted (hours 9 + minutes 34) ∷ released 0 1 1 wrong (hours 9 + minutes 281) ∷ [];
}

is_day : IsDayOf (hours 9) (replay_contest file_settings (replay_marks None) (up_to (minutes 290) told)) day
is_day = record { settings = refl; starts = refl; thaws = refl; submissions = refl; releases = refl }

same_rows : board_for audience.Public (hours 9 + minutes 290) None day ≡ board_for audience.Public (minutes 290) None (replay_contest file_settings (replay_marks None) (up_to (minutes 290) told))
same_rows = replays_are_days (hours 9) (minutes 290) file_settings None told day is_day audience.Public

desk_order : teams_of (board_for audience.Public (hours 9 + minutes 290) None day) ≡ 1 ∷ 0 ∷ 2 ∷ []
desk_order = refl
