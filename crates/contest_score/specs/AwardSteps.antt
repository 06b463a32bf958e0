-- How the awards are found: the first solves of a problem, one solve after another, and the least
-- rank of a group.
-- Words of private functions: nothing public is said with them.
use Rattle.std.specs.Prelude.{ℕ, ◌==◌, Bool, true, nat_lt, nat_le, List, [], ◌∷◌, ◌++◌, Option, Some, None, if◌then◌else◌}
use Rattle.std.specs.List.{list_any}
use Rattle.contest_score.specs.declared.row.Row.{Row}
use Rattle.contest_score.specs.declared.solve.Solve.{Solve}

-- the first solves with one more: an earlier one takes their place, one of the same moment joins them
abbrev pub with_solve : List Solve → Solve → List Solve
with_solve [] v = v ∷ []
with_solve (w ∷ ws) v = if nat_lt w.time v.time then w ∷ ws else if nat_lt v.time w.time then v ∷ [] else (w ∷ ws) ++ v ∷ []

-- one of the solves is by the team of the row
abbrev pub has_solve : List Solve → Row → Bool
has_solve solves r = list_any (λ (v : Solve). v.team == r.team) solves

-- the rank isn't greater than the least one, where there is one
abbrev pub is_within : Option ℕ → ℕ → Bool
is_within None rank = true
is_within (Some least) rank = nat_le rank least

-- the lesser of a rank and the least one
abbrev pub lesser : Option ℕ → ℕ → ℕ
lesser None rank = rank
lesser (Some least) rank = if nat_lt least rank then least else rank
