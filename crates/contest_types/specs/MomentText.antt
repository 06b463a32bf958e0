-- The moments of a contest, and how they are written.
use Rattle.std.specs.Prelude.{ℕ, ◌≡◌, ◌*◌, ◌/◌, ◌%◌, ◌≤◌, List, ◌∷◌, ◌++◌, pos, Ok, codes, false, Some}
use Rattle.jiff.specs.Words.{parse_timestamp, civil_nanos, datetime_text}
use Rattle.jiff.specs.declared.civil.datetimes.DateTime.{DateTime}
use Rattle.contest_types.specs.declared.limits.TheConstants.{LAST_MOMENT}
use Rattle.contest_types.specs.Calendar.{year_of, month_in, day_in}
use Rattle.contest_types.specs.RelTimeText.{two_digits, three_digits}

-- the last moment, in milliseconds since 1970: the end of the year 9998
abbrev pub latest : ℕ
latest = LAST_MOMENT

-- jiff reads the text as an instant that is this many whole milliseconds
abbrev pub IsMomentText : List ℕ → ℕ → Type 0
IsMomentText text m = (parse_timestamp text ≡ Ok (pos (m * 1_000_000))) × (m ≤ latest)

-- `yyyy-mm-ddThh:mm:ss.uuu+00:00`
abbrev pub time_text : DateTime → List ℕ
time_text dt = datetime_text false 84 (Some 3) dt ++ codes "+00:00"

-- the text shows what a clock in UTC shows at the moment
abbrev pub ShowsMoment : List ℕ → ℕ → Type 0
ShowsMoment text m = (dt : DateTime) × (civil_nanos dt ≡ pos (m * 1_000_000)) × (text ≡ time_text dt)

-- a number below 10000 in four digits
abbrev pub four_digits : ℕ → List ℕ
four_digits n = two_digits (n / 100) ++ two_digits (n % 100)

-- `yyyy-mm-dd` of a day that is counted from 1 January 1970
abbrev pub date_text : ℕ → List ℕ
date_text today =
    let year = year_of today in
    let month = month_in year today in
    four_digits year ++ (45 ∷ two_digits month) ++ (45 ∷ two_digits (day_in year month today))

-- `hh:mm:ss.uuu` of the milliseconds since midnight
abbrev pub time_of_day_text : ℕ → List ℕ
time_of_day_text n =
    two_digits (n / 3_600_000) ++ (58 ∷ two_digits (n / 60_000 % 60)) ++ (58 ∷ two_digits (n / 1_000 % 60)) ++ (46 ∷ three_digits (n % 1_000))

-- the text of a moment, in UTC: `yyyy-mm-ddThh:mm:ss.uuu+00:00`
unfoldable pub moment_text : ℕ → List ℕ
moment_text m = date_text (m / 86_400_000) ++ (84 ∷ time_of_day_text (m % 86_400_000)) ++ codes "+00:00"
