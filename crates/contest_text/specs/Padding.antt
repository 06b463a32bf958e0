-- Texts in columns of a terminal.
use Rattle.std.specs.Prelude.{ℕ, ◌-◌, false, List, ◌++◌, replicate, chars}
use Rattle.unicode_width.specs.Width.{str_width}

-- the columns that a text takes (Unicode Standard Annex 11, as the crate unicode_width counts them)
abbrev pub columns_of : List ℕ → ℕ
columns_of text = str_width false (chars text)

-- the spaces that fill so many columns beside a text; none where it is longer
abbrev pub fill : ℕ → List ℕ → List ℕ
fill columns text = replicate (columns - columns_of text) 32

-- a text at the left of so many columns; a longer one stands whole
abbrev pub left : ℕ → List ℕ → List ℕ
left columns text = text ++ fill columns text

-- a text at the right of so many columns; a longer one stands whole
abbrev pub right : ℕ → List ℕ → List ℕ
right columns text = fill columns text ++ text
