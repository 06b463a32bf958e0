-- What cells of tables read as: some values are none of their kind, then there is none.
use Rattle.std.specs.Prelude.{ℕ, pos, Bool, ◌==◌, List, Option, Some, None, if◌then◌else◌}
use Rattle.std.specs.Bool.{then_some}
use Rattle.std.specs.Option.{option_map, unwrap_or}
use Rattle.sqlite_value.specs.declared.value.Value.{Value}
use Rattle.sqlite_value.specs.declared.value.Value.TheVariants.{Null, Int, Text}
use Rattle.sqlite_value.specs.Order.{Row}
use Rattle.contest_types.specs.IdText.{id_of}
use Rattle.contest_types.specs.NameText.{name_from}
use Rattle.contest_types.specs.Places.{place_of}
use Rattle.contest_store_rows.specs.Cells.{is_null, number_of, same_row, text_of}

-- the place of the row with the id in the cell, and 0 where none has it
abbrev pub place_in : List (List ℕ) → Value → ℕ
place_in ids v = unwrap_or (place_of (text_of v) ids) 0

-- such a place, or none for NULL
abbrev pub place_if_any : List (List ℕ) → Value → Option ℕ
place_if_any ids v = if is_null v then None else Some (place_in ids v)

-- an id or NULL
abbrev pub id_if_any : Value → Option (Option (List ℕ))
id_if_any Null = Some None
id_if_any (Text t) = option_map Some (id_of t)
id_if_any _ = None

-- a name or NULL
abbrev pub name_if_any : Value → Option (Option (List ℕ))
name_if_any Null = Some None
name_if_any (Text t) = option_map Some (name_from t)
name_if_any _ = None

-- an id, and a name
abbrev pub id_in : Value → Option (List ℕ)
id_in v = id_of (text_of v)

abbrev pub name_in : Value → Option (List ℕ)
name_in v = name_from (text_of v)

-- 1 says that it is so
abbrev pub is_set : Value → Bool
is_set v = number_of v == 1

-- a number or NULL
abbrev pub number_if_any : Value → Option ℕ
number_if_any (Int (pos n)) = Some n
number_if_any _ = None

-- what was said, if the row is its row, cell by cell
abbrev pub if_its_row : {X : Type 0} → (X → Row) → Row → X → Option X
if_its_row row_of r x = then_some (same_row r (row_of x)) x
