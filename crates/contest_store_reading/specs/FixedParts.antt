-- The fixed part of the contest that the rows of four tables are.
use Rattle.std.specs.Prelude.{◌∷◌, [], Bool, false, List, Option, Some, None, if◌then◌else◌}
use Rattle.std.specs.Option.{option_map_or, option_and_then}
use Rattle.sqlite_value.specs.Order.{Row}
use Rattle.contest_types.specs.Setup.{Setup, is_valid_head}
use Rattle.contest_types.specs.State.{FixedPart}
use Rattle.contest_types.specs.declared.contest.ContestHead.{ContestHead}
use Rattle.contest_store_reading.specs.AccountRows.{accounts_in}
use Rattle.contest_store_rows.specs.Cells.{same_row}
use Rattle.contest_store_rows.specs.FixedRows.{contest_row, desk_row}
use Rattle.contest_store_rows.specs.declared.versions.Version.{Version}
use Rattle.contest_store_reading.specs.Heads.{head_in, marks_in}
use Rattle.contest_store_reading.specs.Items.{items_in}

-- the row of a table that has one
abbrev pub only : List Row → Option Row
only (r ∷ []) = Some r
only _ = None

-- the tables are a desk's, in a version of the schema
abbrev pub is_desk : Version → List Row → Bool
is_desk version rows = option_map_or (λ r. same_row r (desk_row version)) (only rows) false

-- a contest with this head and no settings yet
abbrev pub setup_of : ContestHead → Option Setup
setup_of h = if is_valid_head h then Some (record { head = h; types = []; languages = []; problems = []; groups = []; teams = [] }) else None

abbrev pub settings_in : (contest : Row) → (items : List Row) → Option Setup
settings_in contest items = option_and_then (λ h. option_and_then (λ s. items_in s items) (setup_of h)) (head_in contest)

-- what the cells say
abbrev pub fixed_said : (contest : Row) → (items accounts : List Row) → Option FixedPart
fixed_said contest items accounts =
    option_and_then (λ marks. option_and_then (λ s. option_and_then (λ named. Some (record { settings = s; accounts = named; marks = marks }))
    (accounts_in s accounts)) (settings_in contest items)) (marks_in contest)

-- and the contest's row is its own
abbrev pub fixed_if : (contest : Row) → FixedPart → Option FixedPart
fixed_if contest f = if same_row contest (contest_row f) then Some f else None

abbrev pub fixed_of_row : (contest : Row) → (items accounts : List Row) → Option FixedPart
fixed_of_row contest items accounts = option_and_then (fixed_if contest) (fixed_said contest items accounts)

abbrev pub fixed_in : Version → (desk contest items accounts : List Row) → Option FixedPart
fixed_in version desk contest items accounts =
    if is_desk version desk then option_and_then (λ r. fixed_of_row r items accounts) (only contest) else None
