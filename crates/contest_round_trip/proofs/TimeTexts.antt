-- The texts of moments are ASCII.
use Rattle.std.proofs.Common.{◌≤◌, ◌<◌, ◌+◌, ◌/◌, ◌%◌, ℕ, ℤ, Bool, true, false, [], ◌∷◌, ◌++◌, pos, refl, arith, codes}
use Rattle.std.specs.Prelude.{◌==◌, ◌||◌, count_by, if◌then◌else◌}
use Rattle.std.specs.List.{range_with_len}
use Rattle.std.specs.Str.{IsAscii, IsUtf8}
use Rattle.std.proofs.lemmas.List.FromFn.{length-range_with_len}
use Rattle.std.proofs.lemmas.List.Sums.{count_by-le-length}
use Rattle.std.proofs.lemmas.Str.{IsAscii-append, IsUtf8-append, IsUtf8-from_ascii}
use Rattle.std.proofs.lemmas.Str.Ascii.{IsAscii-cons}
use Rattle.json.proofs.Printed.Utf8.{IsUtf8-are_ascii}
use Rattle.jiff_core.specs.Calendar.{days_in_month, is_leap_year}
use Rattle.contest_types.specs.Calendar.{day_in, has_come, month_in, year_of}
use Rattle.contest_types.specs.MomentText.{date_text, four_digits, latest, moment_text, time_of_day_text}
use Rattle.contest_types.specs.RelTimeText.{three_digits, two_digits}

nil_ascii : IsAscii []
nil_ascii i = omega arith

two_ascii : (m : ℕ) → m < 800 → IsAscii (two_digits m)
two_ascii m h = IsAscii-cons (48 + m / 10) ((48 + m % 10) ∷ []) (omega arith) (IsAscii-cons (48 + m % 10) [] (omega arith) nil_ascii)

three_ascii : (m : ℕ) → m < 8_000 → IsAscii (three_digits m)
three_ascii m h = IsAscii-cons (48 + m / 100) ((48 + m / 10 % 10) ∷ (48 + m % 10) ∷ []) (omega arith) (IsAscii-cons (48 + m / 10 % 10) ((48 + m % 10) ∷ []) (omega arith) (IsAscii-cons (48 + m % 10) [] (omega arith) nil_ascii))

at_most : (p : ℕ → Bool) (a n : ℕ) → count_by p (range_with_len a n) ≤ n
at_most p a n = omega (arith, count_by-le-length p (range_with_len a n), length-range_with_len a n)

year_bound : (today : ℕ) → year_of today ≤ 1970 + today / 365
unfolding year_of
year_bound today = omega (arith, at_most (λ year. has_come today year 1 1) 1971 (today / 365))

month_bound : (year today : ℕ) → month_in year today ≤ 12
unfolding month_in
month_bound year today = at_most (λ month. has_come today year month 1) 1 12

few_days : (y : ℤ) (m : ℕ) → days_in_month y m ≤ 31
few_days y m =
    let february : (b : Bool) → (if b then 29 else 28) ≤ 31 = elim [ true ↦ omega arith | false ↦ omega arith ] in
    let others : (b : Bool) → (if b then 30 else 31) ≤ 31 = elim [ true ↦ omega arith | false ↦ omega arith ] in
    let go : (b : Bool) → (if b then (if is_leap_year y then 29 else 28) else (if (m == 4) || (m == 6) || (m == 9) || (m == 11) then 30 else 31)) ≤ 31 =
    elim [ true ↦ february (is_leap_year y) | false ↦ others ((m == 4) || (m == 6) || (m == 9) || (m == 11)) ] in
    go (m == 2)

day_bound : (year month today : ℕ) → day_in year month today ≤ 31
unfolding day_in
day_bound year month today = omega (arith, at_most (λ day. has_come today year month day) 1 (days_in_month (pos year) month), few_days (pos year) month)

date_ascii : (today : ℕ) → today ≤ 20_000_000 → IsAscii (date_text today)
date_ascii today h =
    let year : ℕ = year_of today in
    let month : ℕ = month_in year today in
    let years : year ≤ 1970 + today / 365 = year_bound today in
    let months : month ≤ 12 = month_bound year today in
    let days : day_in year month today ≤ 31 = day_bound year month today in
    let tail = IsAscii-cons 45 (two_digits (day_in year month today)) (omega arith) (two_ascii (day_in year month today) (omega (arith, days))) in
    let middle = IsAscii-cons 45 (two_digits month) (omega arith) (two_ascii month (omega (arith, months))) in
    let front = IsAscii-append (two_digits (year / 100)) (two_digits (year % 100)) (two_ascii (year / 100) (omega (arith, years, h))) (two_ascii (year % 100) (omega arith)) in
    IsAscii-append (four_digits year ++ (45 ∷ two_digits month)) (45 ∷ two_digits (day_in year month today)) (IsAscii-append (four_digits year) (45 ∷ two_digits month) front middle) tail

time_ascii : (n : ℕ) → n < 86_400_000 → IsAscii (time_of_day_text n)
time_ascii n h =
    let hours = two_ascii (n / 3_600_000) (omega (arith, h)) in
    let minutes = IsAscii-cons 58 (two_digits (n / 60_000 % 60)) (omega arith) (two_ascii (n / 60_000 % 60) (omega arith)) in
    let seconds = IsAscii-cons 58 (two_digits (n / 1_000 % 60)) (omega arith) (two_ascii (n / 1_000 % 60) (omega arith)) in
    let decimals = IsAscii-cons 46 (three_digits (n % 1_000)) (omega arith) (three_ascii (n % 1_000) (omega arith)) in
    let a = two_digits (n / 3_600_000) in
    let b = 58 ∷ two_digits (n / 60_000 % 60) in
    let c = 58 ∷ two_digits (n / 1_000 % 60) in
    IsAscii-append (a ++ b ++ c) (46 ∷ three_digits (n % 1_000)) (IsAscii-append (a ++ b) c (IsAscii-append a b hours minutes) seconds) decimals

pub moment_utf8 : (m : ℕ) → m ≤ latest → IsUtf8 (moment_text m)
unfolding moment_text
moment_utf8 m h =
    let today : ℕ = m / 86_400_000 in
    let n : ℕ = m % 86_400_000 in
    let middle = IsAscii-cons 84 (time_of_day_text n) (omega arith) (time_ascii n (omega arith)) in
    let front = date_text today ++ (84 ∷ time_of_day_text n) in
    IsUtf8-append front (codes "+00:00") (IsUtf8-from_ascii front (IsAscii-append (date_text today) (84 ∷ time_of_day_text n) (date_ascii today (omega (arith, h))) middle)) (IsUtf8-are_ascii (codes "+00:00") refl)
