-- The values that the fields of a file's record spell.
use Rattle.std.specs.Prelude.{ℕ, ◌&&◌, Bool, true, false, List, [], ◌∷◌, Option, Some, None, if◌then◌else◌, codes, ℤ, pos, negsuc, nat_le}
use Rattle.std.specs.Option.{option_and_then, option_map}
use Rattle.std.specs.Str.{bytes_eq}
use Rattle.std.specs.Str.Parse.{digits_value}
use Rattle.contest_types.specs.RelTimeRead.{are_digits, reltime_of}

abbrev pub Text : Type 0
Text = List ℕ

abbrev pub is_empty : Text → Bool
is_empty [] = true
is_empty (c ∷ cs) = false

-- `true` or `false`
abbrev pub flag_of : Text → Option Bool
flag_of field = if bytes_eq field (codes "true") then Some true else (if bytes_eq field (codes "false") then Some false else None)

-- `true`, `false`, or nothing for false
abbrev pub flag_or_empty : Text → Option Bool
flag_or_empty field = if is_empty field then Some false else flag_of field

-- a time that isn't below zero
abbrev pub not_below_zero : ℤ → Option ℕ
not_below_zero (pos n) = Some n
not_below_zero (negsuc n) = None

-- a relative time that isn't below zero
abbrev pub span_of : Text → Option ℕ
span_of field = option_and_then not_below_zero (reltime_of field)

-- a relative time that isn't below zero, or nothing
abbrev pub span_or_empty : Text → Option (Option ℕ)
span_or_empty field = if is_empty field then Some None else option_map Some (span_of field)

-- one or more digits that write a number up to 65535
abbrev pub ordinal_of : Text → Option ℕ
ordinal_of field = if are_digits field && nat_le (digits_value 10 field) 65_535 then Some (digits_value 10 field) else None
