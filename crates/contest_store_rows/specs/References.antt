-- The clarification that a visible id names.
use Rattle.std.specs.Prelude.{ℕ, ◌-◌, ◌==◌, ◌&&◌, Bool, not, List, length, nat_le, nat_lt, take, drop, slice_index, Option, Some, None, codes, if◌then◌else◌}
use Rattle.std.specs.Char.{digit_value}
use Rattle.std.specs.List.{list_all, take_while}
use Rattle.std.specs.Option.{option_and_then, option_map}
use Rattle.std.specs.Str.{bytes_eq}
use Rattle.std.specs.Str.Parse.{digits_value}
use Rattle.contest_types.specs.declared.clarification.Addressee.{Addressee}
use Rattle.contest_types.specs.declared.clarification.Addressee.TheVariants.{All as ToAll, Group as ToGroup, Team as ToTeam}
use Rattle.contest_types.specs.declared.clarification.Reference.{Reference}

-- more than any number in an id
abbrev pub largest : ℕ
largest = 999_999_999_999

-- one decimal digit or more, and nothing else
abbrev pub is_numeral : List ℕ → Bool
is_numeral text = nat_lt 0 (length text) && list_all (λ c. nat_lt (digit_value c) 10) text

-- the number that a text writes, if it writes one
abbrev pub number_written : List ℕ → Option ℕ
number_written text = if is_numeral text && nat_le (digits_value 10 text) largest then Some (digits_value 10 text) else None

-- where the first dash stands
abbrev pub dash_in : List ℕ → ℕ
dash_in text = length (take_while (λ b. not (b == 45)) text)

-- `c` and a number is a team, `g` and a number a group; both count from 1
abbrev pub addressee_numbered : (letter n : ℕ) → Option Addressee
addressee_numbered letter n =
    if n == 0 then None else if letter == 99 then Some (ToTeam (n - 1)) else if letter == 103 then Some (ToGroup (n - 1)) else None

-- the addressee that a text names: `g` alone is all, `c<team number>` and `g<group number>` are these, and nothing else is an
-- addressee
abbrev pub addressee_named : List ℕ → Option Addressee
addressee_named text =
    if bytes_eq text (codes "g") then Some ToAll
    else option_and_then (addressee_numbered (slice_index text 0)) (number_written (drop 1 text))

-- `<addressee>-<number>`, and nothing else
abbrev pub reference_of : List ℕ → Option Reference
reference_of text =
    option_and_then (λ addressee. option_map (λ number. record { addressee = addressee; number = number }) (number_written (drop 1 (drop (dash_in text) text))))
    (addressee_named (take (dash_in text) text))
