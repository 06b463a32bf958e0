-- The civil date of a day. Days are counted from 1 January 1970, which is day 0.
use Rattle.std.specs.Prelude.{ℕ, ◌+◌, ◌/◌, Bool, pos, int_le, count_by}
use Rattle.std.specs.List.{range_with_len}
use Rattle.jiff_core.specs.Calendar.{days_from_civil, days_in_month}

-- the date is today's or an earlier one
abbrev pub has_come : ℕ → ℕ → ℕ → ℕ → Bool
has_come today year month day = int_le (days_from_civil (pos year) month day) (pos today)

-- 1970, and one more for each later year that has begun. A year has at least 365 days, so at most
-- today / 365 of them have.
unfoldable pub year_of : ℕ → ℕ
year_of today = 1970 + count_by (λ year. has_come today year 1 1) (range_with_len 1971 (today / 365))

-- how many months of the year have begun
unfoldable pub month_in : ℕ → ℕ → ℕ
month_in year today = count_by (λ month. has_come today year month 1) (range_with_len 1 12)

-- how many days of the month have begun
unfoldable pub day_in : ℕ → ℕ → ℕ → ℕ
day_in year month today = count_by (λ day. has_come today year month day) (range_with_len 1 (days_in_month (pos year) month))
