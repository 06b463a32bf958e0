-- The lines of a feed (Contest API 2023-06, event feed: one object a line; the limits are own).
use Rattle.std.specs.Prelude.{ℕ, ◌+◌, ◌==◌, ◌||◌, ◌++◌, Bool, List, [], ◌∷◌, length, nat_lt, if◌then◌else◌}
use Rattle.std.specs.List.{list_all}
use Rattle.contest_files.specs.FieldTexts.{Text, is_empty}
use Rattle.contest_feed_reader.specs.declared.limits.TheConstants.{FEED, FEED_LINE}

-- a line without its newline, and how many bytes it takes with it
pub record Line : Type 0 where
  pub text : Text
  pub bytes : ℕ

-- the lines of bytes, where `so_far` stands before them in the first; the last may lack its newline
abbrev pub lines_after : (so_far : Text) → List ℕ → List Line
lines_after so_far [] = if is_empty so_far then [] else record { text = so_far; bytes = length so_far } ∷ []
lines_after so_far (b ∷ bs) =
    if b == 10 then record { text = so_far; bytes = length so_far + 1 } ∷ lines_after [] bs else lines_after (so_far ++ b ∷ []) bs

abbrev pub lines_of : List ℕ → List Line
lines_of bytes = lines_after [] bytes

-- nothing but spaces, tabs and carriage returns
abbrev pub is_blank : Text → Bool
is_blank text = list_all (λ b. (b == 32) || (b == 9) || (b == 13)) text

-- the line is over its limit, or the bytes up to its end are over that of a feed
abbrev pub is_too_large : (text : Text) → (bytes : ℕ) → Bool
is_too_large text bytes = nat_lt FEED_LINE (length text) || nat_lt FEED bytes
