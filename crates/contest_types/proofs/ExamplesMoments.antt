-- The texts of some moments.
use Rattle.std.proofs.Common.{◌≡◌, refl, codes}
use Rattle.jiff_core.specs.Calendar.{days_from_civil, day_count, days_of_years, days_of_months}
use Rattle.contest_types.specs.Calendar.{year_of, month_in, day_in}
use Rattle.contest_types.specs.MomentText.{moment_text}

-- a leap day
leap_day : moment_text 951_782_400_000 ≡ codes "2000-02-29T00:00:00.000+00:00"
unfolding moment_text year_of month_in day_in days_from_civil day_count days_of_years days_of_months
leap_day = refl
