-- Awards (Contest API 2023-06, awards): who won what, and when it is shown.
use Rattle.std.specs.Prelude.{ℕ, ◌+◌, Bool, ◌&&◌, ◌||◌, ◌==◌, nat_lt, nat_le, List, [], ◌∷◌, ◌++◌, length, map, filter, None, if◌then◌else◌, codes}
use Rattle.std.specs.List.{list_any, list_all, range_with_len}
use Rattle.contest_types.specs.Setup.{Setup}
use Rattle.contest_types.specs.Clock.{is_finalized}
use Rattle.contest_types.specs.ProblemPlaces.{label_at}
use Rattle.contest_types.specs.SettingsNames.{group_id_at, group_name_at}
use Rattle.contest_types.specs.TeamPlaces.{is_of_group}
use Rattle.contest_types.specs.Masks.{is_jury}
use Rattle.contest_types.specs.State.{ContestState}
use Rattle.contest_types.specs.declared.audience.Audience.{Audience}
use Rattle.contest_types.specs.declared.audience.Audience.TheVariants.{Jury}
pub use Rattle.contest_score.specs.declared.award.Award.{Award}
use Rattle.contest_score.specs.declared.row.Row.{Row}
use Rattle.contest_score.specs.declared.solve.Solve.{Solve}
use Rattle.contest_score.specs.Ranking.{by_text, in_order, problem_order, problem_id_at}
use Rattle.contest_score.specs.Contest.{board_for, solves_of}
use Rattle.contest_score.specs.Results.{holds_nothing}

-- only a team that solved a problem wins anything
abbrev pub winners : List Row → List Row
winners rows = filter (λ r. nat_lt 0 r.score.solved) rows

-- those of the rows that pass a test, as an award
abbrev pub award_to : (id citation : List ℕ) → (Row → Bool) → List Row → Award
award_to id citation test rows = record { id = id; citation = citation; teams = map (λ r. r.team) (filter test (winners rows)) }

-- the rank is one of so many after the first ones
abbrev pub ranks_after : (before count : ℕ) → Row → Bool
ranks_after before count r = nat_lt before r.rank && nat_le r.rank (before + count)

abbrev pub winner : List Row → Award
winner rows = award_to (codes "winner") (codes "Contest winner") (λ r. r.rank == 1) rows

-- gold for the first ranks, silver for the next, bronze for those after them
abbrev pub medals : Setup → List Row → List Award
medals s rows =
    let m = s.head.medals in
    award_to (codes "gold-medal") (codes "Gold medal") (ranks_after 0 m.gold) rows
    ∷ award_to (codes "silver-medal") (codes "Silver medal") (ranks_after m.gold m.silver) rows
    ∷ award_to (codes "bronze-medal") (codes "Bronze medal") (ranks_after (m.gold + m.silver) m.bronze) rows
    ∷ []

-- the earliest of the solves of a problem, to the millisecond
abbrev pub first_solves : ℕ → List Solve → List Solve
first_solves problem solves =
    let of_problem = filter (λ (v : Solve). v.problem == problem) solves in
    filter (λ (v : Solve). list_all (λ (w : Solve). nat_le v.time w.time) of_problem) of_problem

abbrev pub first_to_solve : Setup → List Row → List Solve → ℕ → Award
first_to_solve s rows solves problem =
    award_to (codes "first-to-solve-" ++ problem_id_at s.problems problem) (codes "First to solve problem " ++ label_at s problem)
    (λ r. list_any (λ (v : Solve). v.team == r.team) (first_solves problem solves)) rows

-- the team of the row is in the group at a place
abbrev pub is_in_group : Setup → ℕ → Row → Bool
is_in_group s group r = is_of_group s group r.team

-- the group's teams of least rank
abbrev pub group_winner : Setup → List Row → ℕ → Award
group_winner s rows group =
    let of_group = filter (is_in_group s group) (winners rows) in
    award_to (codes "group-winner-" ++ group_id_at s group) (codes "Winner of group " ++ group_name_at s group)
    (λ r. is_in_group s group r && list_all (λ (w : Row). nat_le r.rank w.rank) of_group) rows

-- the groups by id
abbrev pub group_order : Setup → List ℕ
group_order s = in_order (by_text (group_id_at s)) (range_with_len 0 (length s.groups))

-- an award that no team has isn't listed
abbrev pub listed : List Award → List Award
listed awards = filter (λ (w : Award). nat_lt 0 (length w.teams)) awards

-- the awards of a board and of the solves of its teams
abbrev pub awards_of : Setup → List Row → List Solve → List Award
awards_of s rows solves =
    listed
    (winner rows ∷ medals s rows ++ map (first_to_solve s rows solves) (problem_order s) ++ map (group_winner s rows) (group_order s))

-- the jury is shown the awards once the contest is finalized, all others once it is thawed too, or where
-- there is no freeze moment
abbrev pub shows_awards : Audience → ℕ → ContestState → Bool
shows_awards a now x = is_finalized x.fixed.marks now && (is_jury a || holds_nothing x.fixed.settings x.fixed.marks now)

-- the awards that an audience is shown: those of the jury's board
abbrev pub shown_awards : Audience → ℕ → ContestState → List Award
shown_awards a now x = if shows_awards a now x then awards_of x.fixed.settings (board_for Jury now None x) (solves_of x) else []
