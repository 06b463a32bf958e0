-- The year, month and day that are counted are those of the day's date.
use Rattle.std.proofs.Common.{ℕ, zero, suc, ◌≡◌, ◌+◌, ◌-◌, ◌*◌, ◌/◌, ◌<◌, ◌≤◌, Bool, true, false, cond, count_by, ap, ◌∙◌, arith}
use Rattle.std.specs.Prelude.{ℤ, pos, ◌≤ℤ◌, ◌<ℤ◌, int_le}
use Rattle.std.proofs.lemmas.Int.{ints}
use Rattle.std.specs.List.{range_with_len}
use Rattle.std.proofs.lemmas.List.Sums.{sum_by-cons}
use Rattle.jiff_core.specs.Calendar.{day_count, days_from_civil, days_in_month, IsCivilDate}
use Rattle.jiff_core.proofs.SignedLemmas.{signed_arith}
use Rattle.jiff_core.proofs.CalendarLemmas.{days_from_civil-day_count, day_count-epoch, days_in_year_bounds, days_of_months_mono, day_count-next_year, day_count-day_of_year, day_count-lt_year, day_count-lt_month, day_count-day}
use Rattle.contest_types.specs.Calendar.{has_come, year_of, month_in, day_in}

-- a test that passes on the first c numbers of a range, and on none after them, counts c
count_to : (p : ℕ → Bool) (a n c : ℕ) → ((k : ℕ) → a ≤ k → k < a + c → p k ≡ true) → ((k : ℕ) → a + c ≤ k → p k ≡ false) → c ≤ n → count_by p (range_with_len a n) ≡ c
count_to p a zero c passes fails h = omega arith
count_to p a (suc n) zero passes fails h =
    let here : ◌≡◌ {A = ℕ} (cond (p a) 1 0) 0 = ap (λ b. cond b 1 0) (fails a (omega arith)) in
    let rest = count_to p (a + 1) n 0 (λ k low high. absurd (omega arith)) (λ k low. fails k (omega arith)) (omega arith) in
    sum_by-cons (λ x. cond (p x) 1 0) a (range_with_len (a + 1) n) ∙ omega (arith, here, rest)
count_to p a (suc n) (suc c) passes fails h =
    let here : ◌≡◌ {A = ℕ} (cond (p a) 1 0) 1 = ap (λ b. cond b 1 0) (passes a (omega arith) (omega arith)) in
    let rest = count_to p (a + 1) n c (λ k low high. passes k (omega arith) (omega arith)) (λ k low. fails k (omega arith)) (omega arith) in
    sum_by-cons (λ x. cond (p x) 1 0) a (range_with_len (a + 1) n) ∙ omega (arith, here, rest)

-- the tests of `int_le`
le_true : (a b : ℤ) → a ≤ℤ b → int_le a b ≡ true
le_true a b h = grind (arith, ints)

le_false : (a b : ℤ) → b <ℤ a → int_le a b ≡ false
le_false a b h = grind (arith, ints)

-- a date has come on each day that isn't before its own
come : (n y m d y2 m2 d2 : ℕ) → days_from_civil (pos y) m d ≡ pos n → day_count (pos y2) m2 d2 ≤ day_count (pos y) m d → has_come n y2 m2 d2 ≡ true
come n y m d y2 m2 d2 e h = le_true (days_from_civil (pos y2) m2 d2) (pos n) (omega (arith, signed_arith, days_from_civil-day_count))

not_come : (n y m d y2 m2 d2 : ℕ) → days_from_civil (pos y) m d ≡ pos n → day_count (pos y) m d < day_count (pos y2) m2 d2 → has_come n y2 m2 d2 ≡ false
not_come n y m d y2 m2 d2 e h = le_false (days_from_civil (pos y2) m2 d2) (pos n) (omega (arith, signed_arith, days_from_civil-day_count))

-- c years have at least 365 days each
years_apart : (y c : ℕ) → day_count (pos y) 1 1 + 365 * c ≤ day_count (pos (c + y)) 1 1
years_apart y zero = let same : 0 + y ≡ y = omega arith in rw same (omega arith)
years_apart y (suc c) =
    let next = day_count-next_year (pos (c + y)) (pos (suc c + y)) (omega (arith, signed_arith)) (omega (arith, signed_arith)) in
    omega (arith, years_apart y c, next, days_in_year_bounds (pos (c + y)))

-- a year begins on its first day, and each year before it so many days earlier
year_begins : (y m d k : ℕ) → 1 ≤ d → k ≤ y → day_count (pos k) 1 1 + 365 * (y - k) ≤ day_count (pos y) m d
year_begins y m d k first h =
    let same : y - k + k ≡ y = omega arith in
    omega (arith, rw same at (years_apart k (y - k)), day_count-day_of_year (pos y) m d first)

pub year_counted : (n y m d : ℕ) → IsCivilDate (pos y) m d → 1970 ≤ y → days_from_civil (pos y) m d ≡ pos n → year_of n ≡ y
unfolding year_of
year_counted n y m d h late e =
    let few : y - 1970 ≤ n / 365 = omega (arith, signed_arith, e, days_from_civil-day_count (pos y) m d, day_count-epoch, year_begins y m d 1970 h.2.0 late) in
    let count = count_to (λ year. has_come n year 1 1) 1971 (n / 365) (y - 1970)
    (λ k low high. come n y m d k 1 1 e (omega (arith, year_begins y m d k h.2.0 (omega arith))))
    (λ k low. not_come n y m d k 1 1 e (day_count-lt_year (pos y) m d (pos k) 1 1 h (omega arith) (omega (arith, signed_arith))))
    few in
    omega (arith, count)

-- a month begins on its first day, at or before the others
month_begins : (y m d k : ℕ) → IsCivilDate (pos y) m d → 1 ≤ k → k ≤ m → day_count (pos y) k 1 ≤ day_count (pos y) m d
month_begins y m d k h low high =
    omega (arith, day_count-day_of_year (pos y) k 1 (omega arith), day_count-day_of_year (pos y) m d h.2.0, days_of_months_mono (pos y) (k - 1) (m - 1) (omega arith))

pub month_counted : (n y m d : ℕ) → IsCivilDate (pos y) m d → days_from_civil (pos y) m d ≡ pos n → month_in y n ≡ m
unfolding month_in
month_counted n y m d h e =
    count_to (λ month. has_come n y month 1) 1 12 m
    (λ k low high. come n y m d y k 1 e (month_begins y m d k h low (omega arith)))
    (λ k low. not_come n y m d y k 1 e (day_count-lt_month (pos y) m d k 1 h (omega arith) (omega arith)))
    h.1.1

pub day_counted : (n y m d : ℕ) → IsCivilDate (pos y) m d → days_from_civil (pos y) m d ≡ pos n → day_in y m n ≡ d
unfolding day_in
day_counted n y m d h e =
    count_to (λ day. has_come n y m day) 1 (days_in_month (pos y) m) d
    (λ k low high. come n y m d y m k e (omega (arith, day_count-day (pos y) m d k h.2.0 low)))
    (λ k low. not_come n y m d y m k e (omega (arith, day_count-day (pos y) m d k h.2.0 (omega arith))))
    h.2.1
