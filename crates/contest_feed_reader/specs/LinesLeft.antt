-- The lines that a reader of a feed has yet to judge. Words of private functions: nothing public is said with them.
use Rattle.std.specs.Prelude.{ℕ, ◌≡◌, ◌≤◌, ◌+◌, ◌++◌, ◌∷◌, ◌==◌, Bool, true, not, List, Result, Ok, length, if◌then◌else◌}
use Rattle.std.specs.List.{list_all}
use Rattle.contest_types.specs.declared.refusal.Cause.{Cause}
use Rattle.contest_types.specs.declared.refusal.Refusal.{Refusal}
use Rattle.contest_files.specs.FieldTexts.{is_empty}
use Rattle.contest_feed_reader.specs.Lines.{lines_after}
use Rattle.contest_feed_reader.specs.Tables.{after_line, after_lines, or_fault_at}
use Rattle.contest_feed_reader.specs.declared.limits.TheConstants.{FEED, FEED_LINE}
use Rattle.contest_feed_reader.specs.declared.reading.Reading.{Reading}
use Rattle.contest_feed_reader.specs.declared.tables.Tables.{Tables}

-- no newline is among the bytes
abbrev pub is_inside : List ℕ → Bool
is_inside bytes = list_all (λ b. not (b == 10)) bytes

-- the bytes before the first newline, and those behind it
pub record IsSplit (bytes front back : List ℕ) : Type 0 where
  pub whole : bytes ≡ front ++ 10 ∷ back
  pub inside : is_inside front ≡ true

-- what a feed comes to, from what was read of it and the bytes still to come
abbrev pub tables_left : Reading → List ℕ → Result Tables Refusal
tables_left r bytes = after_lines r.tables r.number r.before (lines_after r.line.items bytes)

-- how many bytes were read
abbrev pub bytes_read : Reading → ℕ
bytes_read r = r.before + length r.line.items

-- what was read is within the limits
pub record IsWithin (r : Reading) : Type 0 where
  pub line : length r.line.items ≤ FEED_LINE
  pub all : bytes_read r ≤ FEED
  pub number : r.number ≤ r.before + 1

-- the fault of a line refuses the feed
abbrev pub told_at : (number : ℕ) → Result Tables Cause → Result Tables Refusal
told_at number judged = or_fault_at (λ t. Ok t) number judged

-- the tables after the last line; where no byte of it stands there is none
abbrev pub after_last : Tables → (number : ℕ) → List ℕ → Result Tables Refusal
after_last t number text = if is_empty text then Ok t else told_at number (after_line t number text)
