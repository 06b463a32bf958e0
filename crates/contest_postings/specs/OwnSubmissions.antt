-- A team's own submissions as they are loaded to decide on its next one: without their files, but for that of the one
-- that has the key which is asked with (own).
-- Words of private functions: nothing public is said with them.
use Rattle.std.specs.Prelude.{ℕ, List, [], Option, Some, None}
use Rattle.contest_types.specs.declared.submission.Submission.{Submission}
use Rattle.contest_rules.specs.Submitting.{standing_under}
use Rattle.std.specs.Option.{option_map, option_and_then}
use Rattle.contest_types.specs.Loads.{file_of}
use Rattle.contest_types.specs.State.{ContestState, submissions_of}

-- which of all rows has the key that a team asks with, by its team and its number
abbrev pub keyed_row : (team : ℕ) → Option (List ℕ) → List Submission → Option (ℕ × ℕ)
keyed_row team key rows = option_map (λ (s : Submission). (team, s.number)) (standing_under key (submissions_of team rows))

abbrev pub with_file : List ℕ → Submission → Submission
with_file file s = record s { file = file }

abbrev pub bytes_of : Option (List ℕ) → List ℕ
bytes_of None = []
bytes_of (Some bytes) = bytes

-- the file of a submission, if there is one
abbrev pub file_at : ContestState → Option (ℕ × ℕ) → Option (List ℕ)
file_at x needed = option_and_then (λ (s : ℕ × ℕ). file_of x s.0 s.1) needed
