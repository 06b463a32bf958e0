-- The board of a group beside the whole board (own; groups are those of the Contest API 2023-06). The law is the contract of a
-- function of src/laws.rt.
use Rattle.std.specs.Prelude.{◌≡◌, ℕ, true, filter, None, Some}
use Rattle.contest_types.specs.State.{ContestState}
use Rattle.contest_types.specs.TeamPlaces.{is_of_group}
use Rattle.contest_types.specs.Valid.{is_valid}
use Rattle.contest_types.specs.declared.audience.Audience.{Audience}
use Rattle.contest_score.specs.BoardLaws.{teams_of}
use Rattle.contest_score.specs.Contest.{board_for}

-- a group's board is the whole board without the teams that aren't in the group: each team keeps its place among the others
abbrev pub GroupBoardsKeepTheOrder : Type 0
GroupBoardsKeepTheOrder =
    (a : Audience) (now group : ℕ) (x : ContestState) → is_valid x ≡ true
    → teams_of (board_for a now (Some group) x) ≡ filter (is_of_group x.fixed.settings group) (teams_of (board_for a now None x))
