-- Lists that grow at their ends.
use Rattle.std.specs.Prelude.{◌≡◌, List, ◌++◌}

-- the first list is the front of the second
abbrev pub IsFront : {X : Type 0} → (xs ys : List X) → Type 0
IsFront {X} xs ys = (more : List X) × (ys ≡ xs ++ more)
