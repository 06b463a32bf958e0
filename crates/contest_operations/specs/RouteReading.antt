-- How a path is read against the table of routes (RFC 3986, section 3.3; names in braces, as matchit has them).
use Rattle.std.specs.Prelude.{ℕ, ◌==◌, ◌&&◌, Bool, true, false, List, [], ◌∷◌, length, nat_lt, if◌then◌else◌}
use Rattle.std.specs.Str.{bytes_eq}
use Rattle.contest_operations.specs.Paths.{slash}

-- a byte in front of the first piece
abbrev pub in_front : ℕ → List (List ℕ) → List (List ℕ)
in_front c [] = (c ∷ []) ∷ []
in_front c (piece ∷ pieces) = (c ∷ piece) ∷ pieces

-- the pieces of a text between its slashes: of `/a/b` an empty one, `a` and `b`
abbrev pub pieces : List ℕ → List (List ℕ)
pieces [] = [] ∷ []
pieces (c ∷ text) = if c == slash then [] ∷ pieces text else in_front c (pieces text)

-- a name in braces
abbrev pub is_name : List ℕ → Bool
is_name [] = false
is_name (c ∷ piece) = c == 123

-- a name stands for any piece that isn't empty, every other piece for itself
abbrev pub takes_piece : (route piece : List ℕ) → Bool
takes_piece route piece = if is_name route then nat_lt 0 (length piece) else bytes_eq route piece

-- piece by piece, as many on both sides
abbrev pub takes_pieces : (route path : List (List ℕ)) → Bool
takes_pieces [] [] = true
takes_pieces [] (piece ∷ path) = false
takes_pieces (r ∷ route) [] = false
takes_pieces (r ∷ route) (piece ∷ path) = takes_piece r piece && takes_pieces route path

-- a path goes by a route's text
abbrev pub goes_by : (text path : List ℕ) → Bool
goes_by text path = takes_pieces (pieces text) (pieces path)
