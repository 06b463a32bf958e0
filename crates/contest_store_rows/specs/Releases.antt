-- The release that a row is.
use Rattle.std.specs.Prelude.{ℕ, ◌-◌, nat_le, map, Option, Some, None, if◌then◌else◌}
use Rattle.std.specs.Option.{option_and_then}
use Rattle.sqlite_value.specs.Order.{Row, column}
use Rattle.contest_types.specs.Setup.{Setup}
use Rattle.contest_types.specs.declared.limits.TheConstants.{LAST_MOMENT}
use Rattle.contest_types.specs.declared.objects.JudgementType.{JudgementType}
use Rattle.contest_types.specs.declared.submission.Release.{Release}
use Rattle.contest_store_rows.specs.Cells.{number_of}
use Rattle.contest_store_rows.specs.ListRows.{release_row}
use Rattle.contest_store_rows.specs.Readings.{if_its_row, place_in}

-- what the cells say, if the time is a moment
abbrev pub release_said : Setup → Row → Option Release
release_said s r =
    if nat_le (number_of (column r 5)) LAST_MOMENT then Some (record {
      team = number_of (column r 1) - 1;
      number = number_of (column r 2);
      round = number_of (column r 3);
      verdict = place_in (map (λ (t : JudgementType). t.id) s.types) (column r 4);
      time = number_of (column r 5);
    }) else None

abbrev pub release_in : Setup → ℕ → Row → Option Release
release_in s n r = option_and_then (if_its_row (release_row s n) r) (release_said s r)
