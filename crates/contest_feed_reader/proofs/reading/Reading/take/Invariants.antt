use Rattle.std.proofs.Common.{◌≡◌, ◌+◌, ◌++◌, ℕ, List, length}
use Rattle.contest_feed_reader.specs.LinesLeft.{IsWithin, bytes_read, tables_left}
use Rattle.contest_feed_reader.proofs.reading.Reading.take.Given as goal

-- what was read and what is left of the piece give what the whole piece does
abbrev pub invariant-loop-front : goal.invariant-loop-front
invariant-loop-front l = record {
  same : (more : List ℕ) → tables_left l.fn.self (l.piece ++ more) ≡ tables_left l.self (l.rest ++ more);
  within : IsWithin l.self;
  count : bytes_read l.self + length l.rest ≡ bytes_read l.fn.self + length l.piece;
}

abbrev pub decreases-loop-front : goal.decreases-loop-front
decreases-loop-front l = length l.rest
