-- What a contest director may ask of the awards. Each is the contract of a function of
-- src/scoring_laws.rt.
use Rattle.std.specs.Prelude.{◌≡◌, ◌↔◌, ◌==◌, ◌&&◌, ◌+◌, ◌<◌, ◌≤◌, ℕ, Bool, true, nat_lt, nat_le, List, length, count_by, Some, None, if◌then◌else◌}
use Rattle.std.specs.List.{list_any}
use Rattle.std.specs.Ordering.{is_lt}
use Rattle.contest_types.specs.Setup.{Setup, IsValid}
use Rattle.contest_types.specs.Order.{by_text, Has, IsInOrder}
use Rattle.contest_types.specs.State.{ContestState}
use Rattle.contest_types.specs.declared.audience.Audience.TheVariants.{Jury}
use Rattle.contest_score.specs.declared.cell.Cell.{Cell}
use Rattle.contest_score.specs.declared.row.Row.{Row}
use Rattle.contest_score.specs.declared.solve.Solve.{Solve}
use Rattle.contest_score.specs.Ranking.{board_rows, is_public}
use Rattle.contest_score.specs.Contest.{board_for, solve_of, solves_of}
use Rattle.contest_types.specs.SettingsNames.{group_id_at}
use Rattle.contest_score.specs.Awards.{Award, winners, medals, first_to_solve, is_in_group, group_winner, group_order, awards_of}
use Rattle.contest_score.specs.BoardLaws.{teams_of}

-- the team is among those that have the award
abbrev pub has_award : ℕ → Award → Bool
has_award team w = list_any (λ u. u == team) w.teams

-- how many of gold, silver and bronze a team has
abbrev pub medals_of : Setup → List Row → ℕ → ℕ
medals_of s rows team = count_by (has_award team) (medals s rows)

-- the row's team solved a problem, and its rank is one of the places of all medals
abbrev pub wins_medal : Setup → Row → Bool
wins_medal s r = let m = s.head.medals in nat_lt 0 r.score.solved && nat_le r.rank (m.gold + m.silver + m.bronze)

-- a team has one kind of medal where it solved a problem and its rank is one of the medals' places, and
-- none elsewhere
abbrev pub OneMedalATeam : Type 0
OneMedalATeam =
    (s : Setup) (is_shown : ℕ → Bool) (cells : ℕ → ℕ → Cell) (r : Row) → Has (board_rows s is_shown cells) r
    → medals_of s (board_rows s is_shown cells) r.team ≡ (if wins_medal s r then 1 else 0)

-- and a team that isn't on the board has none
abbrev pub NoMedalOffTheBoard : Type 0
NoMedalOffTheBoard = (s : Setup) (rows : List Row) (team : ℕ) → (Has (teams_of rows) team → ⊥) → medals_of s rows team ≡ 0

-- the team is shown, and solved the problem; no shown team solved it earlier
pub record IsFirst (x : ContestState) (problem team : ℕ) : Type 0 where
  pub shown : is_public x.fixed.settings team ≡ true
  pub solve : Solve
  pub solved : solve_of x team problem ≡ Some solve
  pub first : (other : ℕ) (w : Solve) → is_public x.fixed.settings other ≡ true → solve_of x other problem ≡ Some w → solve.time ≤ w.time

-- the award for a problem is of the teams that solved it first, and of no other
abbrev pub FirstAwardIsOfTheFirst : Type 0
FirstAwardIsOfTheFirst =
    (now : ℕ) (x : ContestState) (problem team : ℕ) → IsValid x.fixed.settings → problem < length x.fixed.settings.problems
    → Has (first_to_solve x.fixed.settings (board_for Jury now None x) (solves_of x) problem).teams team ↔ IsFirst x problem team

-- and it is among the awards where a shown team solved the problem
abbrev pub SolvedHasAFirst : Type 0
SolvedHasAFirst =
    (now : ℕ) (x : ContestState) (problem team : ℕ) (v : Solve) → IsValid x.fixed.settings → problem < length x.fixed.settings.problems
    → is_public x.fixed.settings team ≡ true → solve_of x team problem ≡ Some v
    → Has (awards_of x.fixed.settings (board_for Jury now None x) (solves_of x)) (first_to_solve x.fixed.settings (board_for Jury now None x) (solves_of x) problem)

-- with valid settings each group stands once in their order, by id, and no other place does
abbrev pub GroupsStandOnce : Type 0
GroupsStandOnce =
    (s : Setup) → IsValid s
    → ((group : ℕ) → Has (group_order s) group ↔ (group < length s.groups)) × IsInOrder (λ g h. is_lt (by_text (group_id_at s) g h)) (group_order s)

-- and the group's award is given where a team of it that is on the board solved a problem
abbrev pub SolvedHasAGroupWinner : Type 0
SolvedHasAGroupWinner =
    (s : Setup) (rows : List Row) (solves : List Solve) (group : ℕ) (r : Row) → IsValid s → group < length s.groups
    → Has (winners rows) r → is_in_group s group r ≡ true → Has (awards_of s rows solves) (group_winner s rows group)
