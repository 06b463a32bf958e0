-- Texts of which no decoding is needed to see that they are names.
use Rattle.std.specs.Prelude.{◌&&◌, ℕ, Bool, List, length, nat_le, nat_lt}
use Rattle.std.specs.List.{list_all}
use Rattle.contest_types.specs.declared.limits.TheConstants.{NAME_LENGTH}

-- a space, or a printed character of ASCII
abbrev pub is_printed : ℕ → Bool
is_printed b = nat_le 32 b && nat_lt b 127

abbrev pub is_printed_name : List ℕ → Bool
is_printed_name text = nat_lt 0 (length text) && nat_le (length text) NAME_LENGTH && list_all is_printed text
