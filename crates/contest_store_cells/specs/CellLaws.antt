-- What changes of a contest do to the rows of its cells. Each is the contract of a function of src/laws.rt.
use Rattle.std.specs.Prelude.{◌≡◌, Bool, true, false}
use Rattle.contest_types.specs.Addable.{is_addable}
use Rattle.contest_types.specs.State.{ContestState, add}
use Rattle.contest_types.specs.Valid.{is_valid}
use Rattle.contest_types.specs.declared.entry.Entry.{Entry}
use Rattle.contest_types.specs.declared.entry.Entry.TheVariants.{NewSubmission, NewRelease}
use Rattle.contest_store_cells.specs.CellRows.{cell_rows}

-- a submission, or a release on one
abbrev pub is_on_a_submission : Entry → Bool
is_on_a_submission (NewSubmission s) = true
is_on_a_submission (NewRelease v) = true
is_on_a_submission _ = false

-- nothing else changes a cell of a valid contest: the start is set before the first submission, a thaw shows cells but
-- makes none, another duration leaves each submission as frozen as it was, and a new setting is named by nothing yet
abbrev pub OthersKeepCells : Type 0
OthersKeepCells = (x : ContestState) (e : Entry) → is_valid x ≡ true → is_addable x e ≡ true → is_on_a_submission e ≡ false → cell_rows (add x e) ≡ cell_rows x
