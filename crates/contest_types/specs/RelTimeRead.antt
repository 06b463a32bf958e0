-- Relative times read from their texts, as a function of the bytes. It is tied to the spelling of
-- RelTimeText by the law that each text shows exactly the time that is read.
use Rattle.std.specs.Prelude.{ℕ, ◌+◌, ◌-◌, ◌*◌, ◌==◌, ◌&&◌, Bool, List, length, take, drop, slice_index, nat_lt, nat_le, Option, Some, None, ℤ, pos, neg_ℤ, if◌then◌else◌}
use Rattle.std.specs.Option.{option_and_then, option_map}
use Rattle.std.specs.List.{list_all}
use Rattle.std.specs.Char.{digit_value}
use Rattle.std.specs.Str.Parse.{digits_value}
use Rattle.contest_types.specs.RelTimeText.{farthest}

-- one digit or more, and nothing else
abbrev pub are_digits : List ℕ → Bool
are_digits text = nat_lt 0 (length text) && list_all (λ c. nat_lt (digit_value c) 10) text

-- the text ends with a mark and n digits
abbrev pub has_field : List ℕ → (mark n : ℕ) → Bool
has_field text mark n =
    nat_lt n (length text) && (slice_index text (length text - n - 1) == mark) && are_digits (drop (length text - n) text)

-- what stands before the mark, and the number that the digits behind it write
abbrev pub field_of : List ℕ → (mark n : ℕ) → Option (List ℕ × ℕ)
field_of text mark n =
    if has_field text mark n then Some (take (length text - n - 1) text, digits_value 10 (drop (length text - n) text)) else None

-- the text before its fraction, and the thousandths; without one the whole text, and 0
abbrev pub or_whole : List ℕ → Option (List ℕ × ℕ) → List ℕ × ℕ
or_whole text None = (text, 0)
or_whole text (Some split) = split

-- hours, minutes, seconds and thousandths as milliseconds, within their ranges
abbrev pub total_of : (hours : List ℕ) → (minutes seconds thousandths : ℕ) → Option ℕ
total_of hours minutes seconds thousandths =
    let total = digits_value 10 hours * 3_600_000 + minutes * 60_000 + seconds * 1_000 + thousandths in
    if are_digits hours && nat_lt minutes 60 && nat_lt seconds 60 && nat_le total farthest then Some total else None

-- the milliseconds of a text with no sign, from its end
abbrev pub clock_of : List ℕ → Option ℕ
clock_of text =
    let split = or_whole text (field_of text 46 3) in
    option_and_then (λ s. option_and_then (λ m. total_of m.0 m.1 s.1 split.1) (field_of s.0 58 2)) (field_of split.0 58 2)

-- the time that a text shows
abbrev pub reltime_of : List ℕ → Option ℤ
reltime_of text =
    if slice_index text 0 == 45 then option_map (λ n. neg_ℤ (pos n)) (clock_of (drop 1 text)) else option_map (λ n. pos n) (clock_of text)
