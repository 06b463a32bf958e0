-- Pass-fail scoring: what a team's attempts at a problem come to (Contest Control System
-- Requirements, "Scoring"; DOMjudge manual, "Scoreboard"). Moments are milliseconds since 1970.
use Rattle.std.specs.Prelude.{ℕ, ◌+◌, ◌-◌, ◌/◌, ◌≤◌, Bool, false, not, ◌&&◌, List, take, map, filter, count_by, sum_by, fold, find, All, ◌*◌, nat_lt, if◌then◌else◌, Option, Some, None, is_some}
use Rattle.std.specs.List.{list_any, enumerate_from, filter_map}
use Rattle.std.specs.Option.{option_map, option_map_or}
use Rattle.contest_types.specs.declared.minute.Minute.{Minute}
use Rattle.contest_score.specs.declared.attempt.Verdict.{Verdict}
use Rattle.contest_score.specs.declared.attempt.Attempt.{Attempt}
use Rattle.contest_score.specs.declared.cell.Cell.{Cell}
use Rattle.contest_score.specs.declared.score.Score.{Score}

-- the attempt has a verdict that the caller sees
abbrev pub is_judged : Attempt → Bool
is_judged a = is_some a.verdict

abbrev pub is_pending : Attempt → Bool
is_pending a = not (is_judged a)

-- its verdict is seen as solving
abbrev pub solves_by : Option Verdict → Bool
solves_by None = false
solves_by (Some v) = v.solving

abbrev pub is_solving : Attempt → Bool
is_solving a = solves_by a.verdict

-- its verdict is seen as penalised and not solving
abbrev pub fails_by : Option Verdict → Bool
fails_by None = false
fails_by (Some v) = v.penalised && not v.solving

abbrev pub is_penalised : Attempt → Bool
is_penalised a = fails_by a.verdict

-- the attempt at a place counts: no earlier one is seen as solving
abbrev pub counts_at : List Attempt → ℕ × Attempt → Bool
counts_at xs p = not (list_any is_solving (take p.0 xs))

-- the attempts that count, in their order
abbrev pub counted : List Attempt → List Attempt
counted xs = map (λ p. p.1) (filter (counts_at xs) (enumerate_from 0 xs))

-- contest time in whole minutes, rounded down
abbrev pub minute_of : ℕ → ℕ → Minute
minute_of start time = record { 0 = (time - start) / 60000 }

-- the cell of a team's attempts at a problem, as the caller sees their verdicts
abbrev pub cell_of_attempts : ℕ → List Attempt → Cell
cell_of_attempts start xs = record {
  judged = count_by is_judged (counted xs);
  pending = count_by is_pending (counted xs);
  solved = option_map (λ a. minute_of start a.time) (find is_solving (counted xs));
  penalties = count_by is_penalised (counted xs);
}

-- no attempt is before the start
abbrev pub NotBefore : ℕ → List Attempt → Type 0
NotBefore start xs = All (λ a. start ≤ a.time) xs

-- a solved problem gives its minute and the penalty time for each penalised attempt, an unsolved one nothing
abbrev pub points : ℕ → Cell → ℕ
points penalty_time c = option_map_or (λ m. m.0 + penalty_time * c.penalties) c.solved 0

abbrev pub is_solved : Cell → Bool
is_solved c = is_some c.solved

-- the later of two minutes
abbrev pub later_of : Option Minute → Minute → Option Minute
later_of None m = Some m
later_of (Some n) m = Some (if nat_lt n.0 m.0 then m else n)

-- the minutes of the solved problems
abbrev pub solved_minutes : List Cell → List Minute
solved_minutes cs = filter_map (λ c. c.solved) cs

-- the greatest of them, if any
abbrev pub last_of : List Cell → Option Minute
last_of cs = fold later_of None (solved_minutes cs)

abbrev pub score_of_cells : ℕ → List Cell → Score
score_of_cells penalty_time cs = record {
  solved = count_by is_solved cs;
  total = sum_by (points penalty_time) cs;
  last = last_of cs;
}
