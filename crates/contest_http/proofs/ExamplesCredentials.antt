-- Worked examples: who asks and by which key.
use Rattle.std.proofs.Common.{◌≡◌, List, ℕ, [], ◌∷◌, refl, Some, None}
use Rattle.std.specs.Prelude.{codes}
use Rattle.contest_requests.specs.declared.request.Credential.TheVariants as credential
use Rattle.contest_requests.specs.declared.request.KeyField.TheVariants as key
use Rattle.contest_http.specs.Credentials.{bearer_token, credential_of, key_of}
use Rattle.contest_http.specs.Fields.{FieldText, values}

-- the scheme in any case, and one space or several
usual : bearer_token (codes "Bearer token-a1") ≡ Some (codes "token-a1")
usual = refl

any_case : bearer_token (codes "bEaReR token-a1") ≡ Some (codes "token-a1")
any_case = refl

three_spaces : bearer_token (codes "Bearer   token-a1") ≡ Some (codes "token-a1")
three_spaces = refl

-- a token's case is its own
token_case : bearer_token (codes "bearer Token") ≡ Some (codes "Token")
token_case = refl

-- padding at the end, and nowhere else
padding : bearer_token (codes "Bearer ab+/-._~9==") ≡ Some (codes "ab+/-._~9==")
padding = refl

padding_inside : bearer_token (codes "Bearer ab=c") ≡ None
padding_inside = refl

padding_alone : bearer_token (codes "Bearer ==") ≡ None
padding_alone = refl

-- a byte that no token has
bad_byte : bearer_token (codes "Bearer ab,c") ≡ None
bad_byte = refl

two_words : bearer_token (codes "Bearer ab cd") ≡ None
two_words = refl

tab : bearer_token (codes "Bearer\tab") ≡ None
tab = refl

-- no space, no token, no scheme, another scheme
no_space : bearer_token (codes "Bearertoken") ≡ None
no_space = refl

scheme_alone : bearer_token (codes "Bearer") ≡ None
scheme_alone = refl

nothing : bearer_token [] ≡ None
nothing = refl

basic : bearer_token (codes "Basic dG9rZW4=") ≡ None
basic = refl

longer_scheme : bearer_token (codes "Bearers token") ≡ None
longer_scheme = refl

-- no field is the public; an empty one, a bad one and two are bad
abbrev one : List ℕ → FieldText
one value = (codes "AUTHORIZATION", value)

absent : credential_of (values (codes "authorization") []) ≡ credential.Absent
absent = refl

named : credential_of (values (codes "authorization") (one (codes "Bearer t1") ∷ [])) ≡ credential.Token (codes "t1")
named = refl

empty : credential_of (values (codes "authorization") (one [] ∷ [])) ≡ credential.Bad
empty = refl

other_scheme : credential_of (values (codes "authorization") (one (codes "Basic t1") ∷ [])) ≡ credential.Bad
other_scheme = refl

twice : credential_of (values (codes "authorization") (one (codes "Bearer t1") ∷ one (codes "Bearer t1") ∷ [])) ≡ credential.Bad
twice = refl

-- a key is an id, once
no_key : key_of [] ≡ key.Absent
no_key = refl

one_key : key_of (codes "k1" ∷ []) ≡ key.Key (codes "k1")
one_key = refl

bad_key : key_of (codes "k 1" ∷ []) ≡ key.Bad
bad_key = refl

empty_key : key_of ([] ∷ []) ≡ key.Bad
empty_key = refl

two_keys : key_of (codes "k1" ∷ codes "k1" ∷ []) ≡ key.Bad
two_keys = refl
