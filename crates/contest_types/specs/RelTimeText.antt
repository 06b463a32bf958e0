-- How a relative time is written: `(-)?(h)*h:mm:ss(.uuu)?`.
use Rattle.std.specs.Prelude.{ℕ, ◌≡◌, ◌+◌, ◌*◌, ◌/◌, ◌%◌, ◌<◌, ◌≤◌, Bool, List, [], ◌∷◌, ◌++◌, length, Option, Some, None, IfSome, ℤ, pos, neg_ℤ, if◌then◌else◌, ◌⊎◌, negsuc}
use Rattle.std.specs.Str.Parse.{IsNumeral, digits_value}
use Rattle.std.specs.Fmt.{decimal}
use Rattle.contest_types.specs.declared.limits.TheConstants.{LAST_MOMENT}

-- the farthest from zero, in milliseconds
abbrev pub farthest : ℕ
farthest = LAST_MOMENT

-- what a text of a relative time shows: a sign, and digits
pub record Fields : Type 0 where
  pub hours : List ℕ
  pub minutes : List ℕ
  pub seconds : List ℕ
  pub decimals : Option (List ℕ)

abbrev pub fraction : Option (List ℕ) → List ℕ
fraction None = []
fraction (Some digits) = 46 ∷ digits

-- `h:mm:ss.uuu`
abbrev pub clock : Fields → List ℕ
clock f = f.hours ++ (58 ∷ f.minutes) ++ (58 ∷ f.seconds) ++ fraction f.decimals

-- exactly so many digits
abbrev pub AreDigits : ℕ → List ℕ → Type 0
AreDigits n digits = IsNumeral 10 digits × (length digits ≡ n)

-- the text is a front, a mark and so many digits, which write the value
pub record Field (text : List ℕ) (mark n : ℕ) (front : List ℕ) (value : ℕ) : Type 0 where
  pub digits : List ℕ
  pub whole : text ≡ front ++ mark ∷ digits
  pub numeral : AreDigits n digits
  pub writes : value ≡ digits_value 10 digits

-- what stands before the fraction, and its thousandths; without one the whole text, and 0
abbrev pub IsSplit : List ℕ → List ℕ → ℕ → Type 0
IsSplit text front t =
    Field text 46 3 front t ⊎ (((f : List ℕ) (v : ℕ) → Field text 46 3 f v → ⊥) × (front ≡ text) × (t ≡ 0))

pub record AreFields (f : Fields) : Type 0 where
  pub hours : IsNumeral 10 f.hours
  pub minutes : AreDigits 2 f.minutes
  pub seconds : AreDigits 2 f.seconds
  pub decimals : IfSome f.decimals (AreDigits 3)
  pub minutes_below : digits_value 10 f.minutes < 60
  pub seconds_below : digits_value 10 f.seconds < 60

abbrev pub thousandths : Option (List ℕ) → ℕ
thousandths None = 0
thousandths (Some digits) = digits_value 10 digits

-- the milliseconds that the fields show
abbrev pub milliseconds : Fields → ℕ
milliseconds f =
    digits_value 10 f.hours * 3_600_000 + digits_value 10 f.minutes * 60_000
    + digits_value 10 f.seconds * 1_000 + thousandths f.decimals

-- the text shows this time with no sign
abbrev pub IsClock : List ℕ → ℕ → Type 0
IsClock text n = (f : Fields) × AreFields f × (text ≡ clock f) × (n ≡ milliseconds f) × (n ≤ farthest)

-- the sign of a time
abbrev pub sign : Bool → List ℕ
sign negative = if negative then 45 ∷ [] else []

abbrev pub signed : Bool → ℕ → ℤ
signed negative n = if negative then neg_ℤ (pos n) else pos n

-- the text shows this time
abbrev pub IsRelTimeText : List ℕ → ℤ → Type 0
IsRelTimeText text time =
    (negative : Bool) × (digits : List ℕ) × (n : ℕ) × IsClock digits n × (text ≡ sign negative ++ digits) × (time ≡ signed negative n)

-- a number below 100 in two digits, and one below 1000 in three
abbrev pub two_digits : ℕ → List ℕ
two_digits n = (48 + n / 10) ∷ (48 + n % 10) ∷ []

abbrev pub three_digits : ℕ → List ℕ
three_digits n = (48 + n / 100) ∷ (48 + n / 10 % 10) ∷ (48 + n % 10) ∷ []

-- `h:mm:ss.uuu` with no leading zeros of hours
abbrev pub clock_text : ℕ → List ℕ
clock_text n =
    decimal (n / 3_600_000) ++ (58 ∷ two_digits (n / 60_000 % 60)) ++ (58 ∷ two_digits (n / 1_000 % 60)) ++ (46 ∷ three_digits (n % 1_000))

-- the text that a time is printed as
abbrev pub rel_time_text : ℤ → List ℕ
rel_time_text (pos n) = clock_text n
rel_time_text (negsuc n) = 45 ∷ clock_text (n + 1)
