-- The pieces of a path between its slashes (RFC 3986, section 3.3).
use Rattle.std.specs.Prelude.{ℕ, ◌+◌, ◌==◌, Bool, Option, Some, None, List, [], take, drop, nat_eq, codes}
use Rattle.std.specs.List.{position, starts_with}

-- the code of a slash
abbrev pub slash : ℕ
slash = 47

abbrev pub slash_at : List ℕ → Option ℕ
slash_at path = position (λ b. b == slash) path

-- what comes before the first slash
abbrev pub before_slash : List ℕ → List ℕ
before_slash path = elim (slash_at path) [ None ↦ path | (Some at) ↦ take at path ]

-- what comes after it
abbrev pub after_slash : List ℕ → List ℕ
after_slash path = elim (slash_at path) [ None ↦ [] | (Some at) ↦ drop (at + 1) path ]

-- the path is of a contest, or of something in it
abbrev pub is_of_contest : List ℕ → Bool
is_of_contest path = starts_with nat_eq path (codes "/contests/")

-- `/contests/<this>/..`
abbrev pub contest_piece : List ℕ → List ℕ
contest_piece path = before_slash (after_slash (after_slash path))

-- `/jury/<collection>/<this>..`
abbrev pub jury_piece : List ℕ → List ℕ
jury_piece path = before_slash (after_slash (after_slash (after_slash path)))

-- `/contests/<c>/<collection>/<this>..`
abbrev pub object_piece : List ℕ → List ℕ
object_piece path = before_slash (after_slash (after_slash (after_slash (after_slash path))))
