-- Lists of what may be there.
use Rattle.std.specs.Prelude.{List, [], ◌∷◌, Option, Some}
use Rattle.std.specs.Option.{option_and_then, option_map}

-- all of these, if each is there
abbrev pub all_some : {A : Type 0} → List (Option A) → Option (List A)
all_some [] = Some []
all_some (found ∷ more) = option_and_then (λ a. option_map (λ rest. a ∷ rest) (all_some more)) found
