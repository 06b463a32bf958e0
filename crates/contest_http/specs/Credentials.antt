-- Who asks and by which key, as the fields of a head say it (RFC 6750, section 2.1; RFC 9110, section 11.4; the
-- field `Idempotency-Key` is own).
use Rattle.std.specs.Prelude.{ℕ, ◌&&◌, ◌==◌, List, [], ◌∷◌, Option, Some, None, not, nat_lt, length, drop, take, codes, if◌then◌else◌}
use Rattle.std.specs.List.{position}
use Rattle.std.specs.Str.{str_eq_ignore_ascii_case}
use Rattle.contest_types.specs.IdText.{id_of}
use Rattle.contest_files.specs.Tokens.{is_token}
use Rattle.contest_requests.specs.declared.request.Credential.{Credential}
use Rattle.contest_requests.specs.declared.request.Credential.TheVariants as credential
use Rattle.contest_requests.specs.declared.request.KeyField.{KeyField}
use Rattle.contest_requests.specs.declared.request.KeyField.TheVariants as key

-- with how many spaces a text begins
abbrev pub spaces : List ℕ → ℕ
spaces text = elim (position (λ b. not (b == 32)) text) [ None ↦ length text | (Some at) ↦ at ]

-- one or more spaces, and then a token
abbrev pub token_after : List ℕ → Option (List ℕ)
token_after rest = if nat_lt 0 (spaces rest) && is_token (drop (spaces rest) rest) then Some (drop (spaces rest) rest) else None

-- the token of the scheme Bearer, in any case
abbrev pub bearer_token : List ℕ → Option (List ℕ)
bearer_token value = if str_eq_ignore_ascii_case (take 6 value) (codes "bearer") then token_after (drop 6 value) else None

abbrev pub token_or_bad : Option (List ℕ) → Credential
token_or_bad None = credential.Bad
token_or_bad (Some token) = credential.Token token

-- by the values of `Authorization`
abbrev pub credential_of : List (List ℕ) → Credential
credential_of [] = credential.Absent
credential_of (v ∷ []) = token_or_bad (bearer_token v)
credential_of (v ∷ w ∷ rest) = credential.Bad

abbrev pub key_or_bad : Option (List ℕ) → KeyField
key_or_bad None = key.Bad
key_or_bad (Some id) = key.Key id

-- by the values of `Idempotency-Key`
abbrev pub key_of : List (List ℕ) → KeyField
key_of [] = key.Absent
key_of (v ∷ []) = key_or_bad (id_of v)
key_of (v ∷ w ∷ rest) = key.Bad
