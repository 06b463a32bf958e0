-- The form of a token (RFC 6750, section 2.1: b64token).
use Rattle.std.specs.Prelude.{ℕ, ◌&&◌, ◌||◌, ◌==◌, Bool, not, List, drop, nat_lt}
use Rattle.std.specs.List.{list_all, position_or_len}
use Rattle.std.specs.Char.{is_ascii_alphanumeric}

-- a letter, a digit, `-`, `.`, `_`, `~`, `+` or `/`
abbrev pub is_token_byte : ℕ → Bool
is_token_byte b = is_ascii_alphanumeric b || (b == 45) || (b == 46) || (b == 95) || (b == 126) || (b == 43) || (b == 47)

-- with how many of them a text begins
abbrev pub token_bytes : List ℕ → ℕ
token_bytes text = position_or_len (λ b. not (is_token_byte b)) text

-- one or more of them, then any number of `=`
abbrev pub is_token : List ℕ → Bool
is_token text = nat_lt 0 (token_bytes text) && list_all (λ b. b == 61) (drop (token_bytes text) text)
