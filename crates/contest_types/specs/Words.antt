-- The words of a text.
use Rattle.std.specs.Prelude.{ℕ, ◌==◌, List}
use Rattle.std.specs.List.{slice_split}

-- one space between each two
abbrev pub words : List ℕ → List (List ℕ)
words = slice_split (λ c. c == 32)
