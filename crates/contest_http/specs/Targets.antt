-- The path that a request's target names (RFC 9112, sections 3.2.1 and 3.2.2: the origin and the absolute form). The
-- query isn't read, and nothing is decoded (own).
use Rattle.std.specs.Prelude.{ℕ, ◌==◌, List, Option, Some, None, drop, take, nat_eq, codes, if◌then◌else◌}
use Rattle.std.specs.List.{position, starts_with}
use Rattle.std.specs.Option.{option_map}

-- what stands from the first slash on, or `/` alone where there is none
abbrev pub from_slash : List ℕ → List ℕ
from_slash rest = elim (position (λ b. b == 47) rest) [ None ↦ codes "/" | (Some at) ↦ drop at rest ]

-- the path with its query: the target where it begins with a slash; after `http://` what stands from the next slash on
abbrev pub path_and_query : List ℕ → Option (List ℕ)
path_and_query target =
    if starts_with nat_eq target (codes "/") then Some target else (
    if starts_with nat_eq target (codes "http://") then Some (from_slash (drop 7 target)) else None)

-- what stands before the first question mark
abbrev pub before_query : List ℕ → List ℕ
before_query path = elim (position (λ b. b == 63) path) [ None ↦ path | (Some at) ↦ take at path ]

abbrev pub path_of : List ℕ → Option (List ℕ)
path_of target = option_map before_query (path_and_query target)
