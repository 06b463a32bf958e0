-- The submission that a loaded row is.
use Rattle.std.specs.Prelude.{ℕ, Bool, ◌-◌, ◌&&◌, nat_le, [], map, Option, Some, None, if◌then◌else◌}
use Rattle.std.specs.Option.{option_and_then}
use Rattle.sqlite_value.specs.Order.{Row, column}
use Rattle.contest_types.specs.Setup.{Setup}
use Rattle.contest_types.specs.declared.limits.TheConstants.{LAST_MOMENT, POSTED_FILE}
use Rattle.contest_types.specs.declared.objects.Language.{Language}
use Rattle.contest_types.specs.declared.objects.Problem.{Problem}
use Rattle.contest_types.specs.declared.submission.Submission.{Submission}
use Rattle.contest_store_rows.specs.Cells.{number_of, same_row}
use Rattle.contest_store_rows.specs.Readings.{id_if_any, name_if_any, place_in}
use Rattle.contest_store_rows.specs.ListRows.{loaded_submission_row}

-- what the cells say, with no file, if the texts and the time are some
abbrev pub submission_said : Setup → Row → Option Submission
submission_said s r =
    option_and_then (λ entry. option_and_then (λ key. if nat_le (number_of (column r 3)) LAST_MOMENT then Some (record {
      team = number_of (column r 1) - 1;
      number = number_of (column r 2);
      time = number_of (column r 3);
      problem = place_in (map (λ (p : Problem). p.id) s.problems) (column r 4);
      language = place_in (map (λ (l : Language). l.id) s.languages) (column r 5);
      entry_point = entry;
      file = [];
      key = key;
    }) else None) (id_if_any (column r 9))) (name_if_any (column r 6))

-- the row with this number is the submission's, and its file isn't too large
abbrev pub is_submission_row : Setup → ℕ → Row → Submission → Bool
is_submission_row s n r x = nat_le (number_of (column r 8)) POSTED_FILE && same_row r (loaded_submission_row s n (number_of (column r 8)) x)

abbrev pub submission_if : Setup → ℕ → Row → Submission → Option Submission
submission_if s n r x = if is_submission_row s n r x then Some x else None

abbrev pub submission_in : Setup → ℕ → Row → Option Submission
submission_in s n r = option_and_then (submission_if s n r) (submission_said s r)
