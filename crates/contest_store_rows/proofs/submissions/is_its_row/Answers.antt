use Rattle.std.proofs.Common.{◌≡◌, true, refl, rules}
use Rattle.std.specs.Prelude.{nat_le}
use Rattle.sqlite_value.specs.Order.{column}
use Rattle.contest_types.specs.declared.limits.TheConstants.{POSTED_FILE}
use Rattle.contest_store_rows.specs.Cells.{number_of}
use Rattle.contest_store_rows.proofs.submissions.is_its_row.Goals as goal

pub returns-then-size : goal.returns-then-size
returns-then-size c =
    let size = c.number_at-size.ensures.value in
    let within : nat_le (number_of (column c.args.row.now 8)) POSTED_FILE ≡ true = search rules in
    rw (c.is_row.ensures, c.loaded_cells.ensures, size, within) refl
