-- What was said by the cells of a row, and is kept where the row is its own.
use Rattle.std.proofs.Common.{◌≡◌, Option, Some}
use Rattle.std.specs.Option.{option_and_then}
use Rattle.sqlite_value.specs.Order.{Row}
use Rattle.contest_store_rows.specs.Readings.{if_its_row}

pub kept : {X : Type 0} (row_of : X → Row) (r : Row) (said found : Option X) (x : X) → said ≡ Some x → found ≡ if_its_row row_of r x → found ≡ option_and_then (if_its_row row_of r) said
kept row_of r said found x is kept_is = rw is kept_is
