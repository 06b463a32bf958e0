-- The rows that are on a submission (own).
use Rattle.std.specs.Prelude.{ℕ, Bool, List, length, Option, None, filter}
use Rattle.std.specs.List.{last_or}
use Rattle.contest_types.specs.State.{SubmissionRef, names}

-- a row is on a team's submission with this number
abbrev pub is_on : {R : Type 0} → (R → SubmissionRef) → (team number : ℕ) → R → Bool
is_on of team number row = names team number (of row)

-- how many rows are on it
abbrev pub count_on : {R : Type 0} → (R → SubmissionRef) → List R → (team number : ℕ) → ℕ
count_on of rows team number = length (filter (is_on of team number) rows)

-- the last of the rows on it
abbrev pub last_row : {R : Type 0} → (R → SubmissionRef) → List R → (team number : ℕ) → Option R
last_row of rows team number = last_or None (filter (is_on of team number) rows)
