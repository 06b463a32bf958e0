-- Rows that are put as they are read. Words of private functions: nothing public is said with them.
use Rattle.std.specs.Prelude.{ℕ, List, Option, Some, None, Result, Ok, Err, fold, map}
use Rattle.contest_types.specs.declared.refusal.Cause.{Cause}
use Rattle.contest_types.specs.declared.refusal.Cause.TheVariants.{Malformed}
use Rattle.contest_feed_reader.specs.Collections.{Named, put, row_at}
use Rattle.contest_feed_reader.specs.declared.row.Row.{Row}

-- the rows with an object, if there is one
abbrev pub put_found : {A : Type 0} → (line : ℕ) → List (Row A) → Option (Named A) → Result (List (Row A)) Cause
put_found line rows None = Err Malformed
put_found line rows (Some object) = Ok (put rows (row_at line object))

-- the rows with all of these, if there are such
abbrev pub put_all : {A : Type 0} → (line : ℕ) → List (Row A) → Option (List (Named A)) → Result (List (Row A)) Cause
put_all line rows None = Err Malformed
put_all line rows (Some objects) = Ok (fold put rows (map (row_at line) objects))
