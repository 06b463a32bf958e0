-- What holds of the scoring of every contest, in the subject's words. Each is the contract of a
-- function of src/laws.rt.
use Rattle.std.specs.Prelude.{◌≡◌, ℕ, true, false, List, [], ◌∷◌, ◌++◌, map, Option, None, if◌then◌else◌}
use Rattle.std.specs.List.{list_any}
use Rattle.contest_types.specs.Setup.{Setup}
use Rattle.contest_types.specs.Clock.{freeze_of, is_frozen}
use Rattle.contest_types.specs.Masks.{owns}
use Rattle.contest_types.specs.State.{ContestState, with_settings}
use Rattle.contest_types.specs.Sight.{sees_team}
use Rattle.contest_types.specs.Alike.{Alike, MayBeHeld}
use Rattle.contest_types.specs.Valid.{is_valid}
use Rattle.contest_types.specs.declared.audience.Audience.{Audience}
use Rattle.contest_types.specs.declared.marks.Marks.{Marks}
use Rattle.contest_types.specs.declared.sight.Mask.TheVariants.{Full, Held}
use Rattle.contest_score.specs.declared.attempt.Attempt.{Attempt}
use Rattle.contest_score.specs.declared.cell.Cell.{Cell}
use Rattle.contest_score.specs.declared.submission.JudgedSubmission.{JudgedSubmission}
use Rattle.contest_score.specs.Scoring.{is_solving, counted}
use Rattle.contest_score.specs.MaskedCells.{cell_under}
use Rattle.contest_score.specs.Ranking.{board_rows, is_on_board}
use Rattle.contest_types.specs.Loads.{without_file}
use Rattle.contest_score.specs.Lists.{CanBeScored}
use Rattle.contest_score.specs.Contest.{contest_cell, seen_cell, board_for}
use Rattle.contest_score.specs.Awards.{shown_awards}

-- an attempt counts where no earlier one solves, and after one that solves nothing counts
pub record WhatCounts (earlier : List Attempt) (a : Attempt) (later : List Attempt) : Type 0 where
  pub yet : list_any is_solving earlier ≡ false → counted (earlier ++ a ∷ later) ≡ earlier ++ a ∷ (if is_solving a then [] else counted later)
  pub past : list_any is_solving earlier ≡ true → counted (earlier ++ a ∷ later) ≡ counted earlier

-- the contest with another freeze
abbrev pub with_freeze : ContestState → Option ℕ → ContestState
with_freeze x freeze = with_settings x (record x.fixed.settings { head = record x.fixed.settings.head { freeze = freeze } })

-- whatever the freeze and the moment, a team's own cells are those of all its verdicts
abbrev pub OwnCellsAreFull : Type 0
OwnCellsAreFull =
    (a : Audience) (now : ℕ) (x : ContestState) (freeze : Option ℕ) (team problem : ℕ) → owns a team ≡ true
    → seen_cell a now (with_freeze x freeze) team problem ≡ contest_cell Full x team problem

-- where no freeze moment is set, nothing is held back
abbrev pub NoFreezeNoMask : Type 0
NoFreezeNoMask =
    (x : ContestState) (team problem : ℕ) → freeze_of x.fixed.settings x.fixed.marks ≡ None
    → contest_cell Held x team problem ≡ contest_cell Full x team problem

-- a submission without its verdict where it is frozen
abbrev pub without_frozen : Setup → Marks → JudgedSubmission → JudgedSubmission
without_frozen s marks u = record u { verdict = if is_frozen s marks u.time then None else u.verdict }

-- a held cell is that of the submissions with no verdict on any that is frozen
abbrev pub HeldCountsNoFrozen : Type 0
HeldCountsNoFrozen =
    (s : Setup) (marks : Marks) (us : List JudgedSubmission) (team problem : ℕ)
    → cell_under Held s marks us team problem ≡ cell_under Full s marks (map (without_frozen s marks) us) team problem

-- until the thaw, alike contests show an audience the same cells of each team that it sees
abbrev pub AlikeScoreTheSame : Type 0
AlikeScoreTheSame =
    (a : Audience) (now : ℕ) (x y : ContestState) (team problem : ℕ) → MayBeHeld a now x → Alike a x y
    → sees_team a x.fixed.settings team ≡ true → seen_cell a now x team problem ≡ seen_cell a now y team problem

-- and the same board, the whole one and each group's
abbrev pub AlikeRankTheSame : Type 0
AlikeRankTheSame =
    (a : Audience) (now : ℕ) (group : Option ℕ) (x y : ContestState) → MayBeHeld a now x → Alike a x y
    → board_for a now group x ≡ board_for a now group y

-- and the same awards
abbrev pub AlikeAwardTheSame : Type 0
AlikeAwardTheSame = (a : Audience) (now : ℕ) (x y : ContestState) → MayBeHeld a now x → Alike a x y → shown_awards a now x ≡ shown_awards a now y

-- the lists of a valid contest can be scored, with their files and without
abbrev pub ValidCanBeScored : Type 0
ValidCanBeScored =
    (x : ContestState) → is_valid x ≡ true
    → CanBeScored x.fixed x.submissions x.releases × CanBeScored x.fixed (map without_file x.submissions) x.releases

-- the cells that a caller sees make the caller's board
abbrev pub SeenCellsMakeTheBoard : Type 0
SeenCellsMakeTheBoard =
    (a : Audience) (now : ℕ) (group : Option ℕ) (x : ContestState) (cells : ℕ → ℕ → Cell) → cells ≡ seen_cell a now x
    → board_rows x.fixed.settings (is_on_board x.fixed.settings group) cells ≡ board_for a now group x
