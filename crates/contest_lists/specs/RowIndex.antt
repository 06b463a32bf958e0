-- What an index has of the rows on each submission.
-- Words of private functions: nothing public is said with them.
use Rattle.std.specs.Prelude.{ℕ, ◌≡◌, ◌<◌, ◌+◌, ◌&&◌, ◌==◌, List, length, Option, None, Some, slice_get, if◌then◌else◌}
use Rattle.std.specs.HashMap.{HashMap, get}
use Rattle.std.specs.Option.{option_map_or}
use Rattle.contest_types.specs.State.{SubmissionRef}
use Rattle.contest_lists.specs.RowsOn.{count_on, last_row}
use Rattle.contest_lists.specs.declared.indexed_rows.Standing.{Standing}

-- what a map has for a team and a number
abbrev pub standing_in : {H : Type 0} → HashMap (ℕ × ℕ) Standing H → (team number : ℕ) → Option Standing
standing_in standings team number = get (λ p q. (p.0 == q.0) && (p.1 == q.1)) standings (team, number)

-- which the next row on a submission will be
abbrev pub next_after : Option Standing → ℕ
next_after o = option_map_or (λ (s : Standing). s.next) o 1

abbrev pub next_in : {H : Type 0} → HashMap (ℕ × ℕ) Standing H → (team number : ℕ) → ℕ
next_in standings team number = next_after (standing_in standings team number)

-- the same after one more row, at this place
abbrev pub noted_with : (ℕ → ℕ → Option Standing) → ℕ × ℕ → (place : ℕ) → (team number : ℕ) → Option Standing
noted_with standings s place team number =
    if (s.0 == team) && (s.1 == number) then Some (record { next = next_after (standings s.0 s.1) + 1; last = place }) else standings team number

-- a standing says how many rows are on a submission, and where the last of them is
abbrev pub Stands : {R : Type 0} → List R → Option Standing → (count : ℕ) → Option R → Type 0
Stands rows None count last = (count ≡ 0) × (last ≡ None)
Stands rows (Some s) count last = (s.next ≡ count + 1) × (s.last < length rows) × (slice_get rows s.last ≡ last)

-- so it is for each submission
abbrev pub IsIndexed : {R : Type 0} → (R → SubmissionRef) → (ℕ → ℕ → Option Standing) → List R → Type 0
IsIndexed of standings rows = (team number : ℕ) → Stands rows (standings team number) (count_on of rows team number) (last_row of rows team number)
