-- The identifiers of a contest.
use Rattle.std.specs.Prelude.{nat_lt, nat_le, ◌&&◌, not, Option, Some, None, if◌then◌else◌, ℕ, ◌==◌, ◌||◌, Bool, IsTrue, List, length, slice_index}
use Rattle.std.specs.Char.{is_ascii_alphanumeric}
use Rattle.std.specs.List.{list_all}
use Rattle.contest_types.specs.declared.limits.TheConstants.{ID_LENGTH}

-- a letter, a digit, `_`, `.` or `-`
abbrev pub is_id_byte : ℕ → Bool
is_id_byte b = is_ascii_alphanumeric b || (b == 95) || (b == 46) || (b == 45)

-- 1 to 36 such characters, of which the first is not `-`
abbrev pub is_id : List ℕ → Bool
is_id text = nat_lt 0 (length text) && nat_le (length text) ID_LENGTH && not (slice_index text 0 == 45) && list_all is_id_byte text

abbrev pub IsId : List ℕ → Type 0
IsId text = IsTrue (is_id text)

-- the id that a text spells
abbrev pub id_of : List ℕ → Option (List ℕ)
id_of text = if is_id text then Some text else None
