-- A text that shows a moment is the moment's text.
use Rattle.std.proofs.Common.{ℕ, ◌≡◌, ◌+◌, ◌*◌, ◌/◌, ◌%◌, ◌≤◌, List, ◌∷◌, ◌++◌, refl, sym, ap, ◌∙◌, arith, codes, subst}
use Rattle.std.specs.Prelude.{pos, ◌≤ℤ◌}
use Rattle.std.proofs.lemmas.Int.{by_lt_z}
use Rattle.jiff_fmt.specs.Text.{places}
use Rattle.jiff_core.specs.Calendar.{days_from_civil, IsCivilDate}
use Rattle.jiff.specs.Words.{epoch_day, time_nanos}
use Rattle.jiff.specs.declared.civil.dates.Date.{Date}
use Rattle.jiff.specs.declared.civil.times.Time.{Time}
use Rattle.jiff.proofs.Family.{civil_nanos-parts, time_nanos_bound}
use Rattle.jiff.proofs.SpanFacts.{signed_arith}
use Rattle.contest_types.specs.Calendar.{year_of, month_in, day_in}
use Rattle.contest_types.specs.MomentText.{ShowsMoment, moment_text, date_text, time_of_day_text}
use Rattle.contest_types.specs.RelTimeText.{three_digits}
use Rattle.contest_types.proofs.DateCounts.{year_counted, month_counted, day_counted}
use Rattle.contest_types.proofs.Times.{clock_at, nonnegative, text_is, year_from_epoch}

-- the day's date has the year, month and day that are counted
record IsDateOf (n : ℕ) (d : Date) : Type 0 where
  pub year : ℕ
  pub year_is : d.year ≡ pos year
  pub counted_year : year_of n ≡ year
  pub counted_month : month_in year n ≡ d.month
  pub counted_day : day_in year d.month n ≡ d.day

date_is : (n : ℕ) (d : Date) → epoch_day d ≡ pos n → IsDateOf n d
date_is n d e =
    let late : pos 0 ≤ℤ epoch_day d = omega (arith, signed_arith) in
    let y = nonnegative d.year (year_from_epoch d late) in
    let since : 1970 ≤ y.0 = by_lt_z d.year (pos 1970) (λ early. absurd (year_from_epoch d late early)) (λ since. omega (arith, signed_arith, y.1)) in
    let civil : IsCivilDate (pos y.0) d.month d.day = subst (λ z. IsCivilDate z d.month d.day) y.1 (d.year_in, d.month_in, d.day_in) in
    let same : days_from_civil (pos y.0) d.month d.day ≡ pos n = ap (λ z. days_from_civil z d.month d.day) (sym y.1) ∙ e in
    record {
      year = y.0;
      year_is = y.1;
      counted_year = year_counted n y.0 d.month d.day civil since same;
      counted_month = month_counted n y.0 d.month d.day civil same;
      counted_day = day_counted n y.0 d.month d.day civil same;
    }

-- the thousandths of a second
fraction_is : (u n : ℕ) → n ≡ u * 1_000_000 → places 3 1_000_000_000 n ≡ three_digits u
unfolding places
fraction_is u n e =
    let a : 48 + n / 100_000_000 ≡ 48 + u / 100 = omega arith in
    let b : 48 + n % 100_000_000 / 10_000_000 ≡ 48 + u / 10 % 10 = omega arith in
    let c : 48 + n % 100_000_000 % 10_000_000 / 1_000_000 ≡ 48 + u % 10 = omega arith in
    rw (a, b, c) refl

-- a clock that shows the milliseconds since midnight
record IsTimeOf (r : ℕ) (t : Time) : Type 0 where
  pub hour : t.hour ≡ r / 3_600_000
  pub minute : t.minute ≡ r / 60_000 % 60
  pub second : t.second ≡ r / 1_000 % 60
  pub fraction : t.subsec_nanosecond ≡ r % 1_000 * 1_000_000

time_is : (r : ℕ) (t : Time) → time_nanos t ≡ r * 1_000_000 → IsTimeOf r t
time_is r t e = record {
  hour = omega arith;
  minute = omega arith;
  second = omega arith;
  fraction = omega arith;
}

-- a clock that shows the parts of a moment shows its text
clock_is : (n r y mo d h mi s f : ℕ) → year_of n ≡ y → month_in y n ≡ mo → day_in y mo n ≡ d → h ≡ r / 3_600_000 → mi ≡ r / 60_000 % 60 → s ≡ r / 1_000 % 60 → f ≡ r % 1_000 * 1_000_000
    → clock_at y mo d h mi s f ≡ date_text n ++ (84 ∷ time_of_day_text r) ++ codes "+00:00"
clock_is n r y mo d h mi s f year month day hour minute second fraction =
    rw (year, month, day, hour, minute, second, fraction_is (r % 1_000) f fraction) refl

pub text_of_moment : (text : List ℕ) (m : ℕ) → ShowsMoment text m → text ≡ moment_text m
unfolding moment_text
text_of_moment text m s =
    let dt = s.0 in
    let days : epoch_day dt.date ≡ pos (m / 86_400_000) = omega (arith, signed_arith, s.1, civil_nanos-parts dt, time_nanos_bound dt.time) in
    let rest : time_nanos dt.time ≡ m % 86_400_000 * 1_000_000 = omega (arith, signed_arith, s.1, civil_nanos-parts dt, time_nanos_bound dt.time) in
    let date = date_is (m / 86_400_000) dt.date days in
    let time = time_is (m % 86_400_000) dt.time rest in
    s.2 ∙ text_is dt date.year date.year_is
    ∙ clock_is (m / 86_400_000) (m % 86_400_000) _ _ _ _ _ _ _ date.counted_year date.counted_month date.counted_day time.hour time.minute time.second time.fraction
