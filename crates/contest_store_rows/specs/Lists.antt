-- Tables whose rows are counted from 1: what a whole table is, row by row.
use Rattle.std.specs.Prelude.{ℕ, List, [], ◌∷◌, map, Option, Some}
use Rattle.std.specs.List.{enumerate_from}
use Rattle.std.specs.Option.{option_and_then, option_map}
use Rattle.sqlite_value.specs.Order.{Row}

-- each one's value; none as soon as one is none
abbrev pub each_some : {X : Type 0} → List (Option X) → Option (List X)
each_some [] = Some []
each_some (x ∷ xs) = option_and_then (λ y. option_map (λ ys. y ∷ ys) (each_some xs)) x

-- what the rows are, counted from a number
abbrev pub list_from : {X : Type 0} → (ℕ → Row → Option X) → ℕ → List Row → Option (List X)
list_from row_in first rows = each_some (map (λ p. row_in p.0 p.1) (enumerate_from first rows))

abbrev pub list_in : {X : Type 0} → (ℕ → Row → Option X) → List Row → Option (List X)
list_in row_in rows = list_from row_in 1 rows
