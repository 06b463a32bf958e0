-- How the solves of a contest are found: when each team first solved each problem, one submission after another.
-- Words of private functions: nothing public is said with them.
use Rattle.std.specs.Prelude.{ℕ, ◌&&◌, ◌==◌, List, Option, Some, None, find, if◌then◌else◌}
use Rattle.std.specs.HashMap.{HashMap, get}
use Rattle.std.specs.List.{filter_map}
use Rattle.std.specs.Option.{option_map, option_or}
use Rattle.contest_types.specs.Setup.{Setup}
use Rattle.contest_types.specs.declared.marks.Marks.{Marks}
use Rattle.contest_types.specs.declared.sight.Mask.TheVariants.{Full}
use Rattle.contest_score.specs.declared.attempt.Attempt.{Attempt}
use Rattle.contest_score.specs.declared.solve.Solve.{Solve}
use Rattle.contest_score.specs.declared.submission.JudgedSubmission.{JudgedSubmission}
use Rattle.contest_score.specs.MaskedCells.{attempts_under, is_by}
use Rattle.contest_score.specs.Scoring.{is_solving}

-- when a team first solved a problem, by all verdicts
abbrev pub first_time : Setup → Marks → List JudgedSubmission → (team problem : ℕ) → Option ℕ
first_time s marks us team problem = option_map (λ (t : Attempt). t.time) (find is_solving (attempts_under Full s marks us team problem))

-- what a map has for a team and a problem
abbrev pub time_in : {H : Type 0} → HashMap (ℕ × ℕ) ℕ H → (team problem : ℕ) → Option ℕ
time_in times team problem = get (λ p q. (p.0 == q.0) && (p.1 == q.1)) times (team, problem)

-- the same after one more submission that solves: an earlier one stays
abbrev pub timed_with : (ℕ → ℕ → Option ℕ) → JudgedSubmission → (team problem : ℕ) → Option ℕ
timed_with times u team problem = option_or (times team problem) (if is_by team problem u then Some u.time else None)

-- the solve of a team at a problem
abbrev pub solve_at : (ℕ → ℕ → Option ℕ) → (team problem : ℕ) → Option Solve
solve_at times team problem = option_map (λ time. record { team = team; problem = problem; time = time }) (times team problem)

-- the solves of a team, in this order of the problems
abbrev pub team_solves : (ℕ → ℕ → Option ℕ) → (order : List ℕ) → (team : ℕ) → List Solve
team_solves times order team = filter_map (solve_at times team) order
