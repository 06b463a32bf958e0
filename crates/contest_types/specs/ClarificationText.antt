-- The texts of clarifications.
use Rattle.std.specs.Prelude.{ℕ, ◌&&◌, Bool, List, Option, Some, None, if◌then◌else◌, length, nat_lt, nat_le}
use Rattle.std.specs.Str.{is_utf8}
use Rattle.contest_types.specs.declared.limits.TheConstants.{TEXT_LENGTH}

-- 1 to 4,096 bytes
abbrev pub is_text : List ℕ → Bool
is_text text = nat_lt 0 (length text) && nat_le (length text) TEXT_LENGTH

abbrev pub text_of : List ℕ → Option (List ℕ)
text_of text = if is_text text then Some text else None

-- the text that bytes spell
abbrev pub text_from : List ℕ → Option (List ℕ)
text_from bytes = if is_utf8 bytes then text_of bytes else None
