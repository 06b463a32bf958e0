-- A scoreboard of another system, as a file holds it (Contest API 2020-03, 2022-07 and 2023-06, scoreboard; the
-- ids and numbers that are taken are own). A member that is null is as one that isn't there; one that isn't named
-- here is ignored.
use Rattle.std.specs.Prelude.{ℕ, ◌/◌, List, [], Option, Some, None, if◌then◌else◌, codes, is_some, map}
use Rattle.std.specs.Option.{option_and_then, option_map}
use Rattle.serde_json.specs.Data.{Data}
use Rattle.serde_json.specs.Find.{as_array, as_number, as_str, get}
use Rattle.contest_types.specs.Options.{all_some}
use Rattle.contest_types.specs.Places.{are_different}
use Rattle.contest_types.specs.declared.minute.Minute.{Minute}
use Rattle.contest_files.specs.FieldTexts.{Text, span_of}
use Rattle.contest_files.specs.JsonMembers.{data_of, flag_or_false, id_in, list_of, number_in, number_or, number_to, optional, or_usual, present_in}
use Rattle.contest_comparison.specs.declared.other_row.OtherCell.{OtherCell}
use Rattle.contest_comparison.specs.declared.other_row.OtherRow.{OtherRow}
use Rattle.contest_comparison.specs.declared.values.CellValues.{CellValues}
use Rattle.contest_comparison.specs.declared.values.RowValues.{RowValues}

-- the largest number that is read
abbrev pub most_number : ℕ
most_number = 4_294_967_295

-- whole minutes of a time: a number of them, or a relative time that isn't below zero, which is cut
abbrev pub minutes_of : Data → Option ℕ
minutes_of d =
    if is_some (as_number d) then number_to most_number d else option_map (λ span. span / 60_000) (option_and_then span_of (as_str d))

abbrev pub minute_of : Data → Option Minute
minute_of d = option_map (λ n. record { 0 = n }) (minutes_of d)

abbrev pub optional_minute : Data → Option (Option Minute)
optional_minute d = option_map Some (minute_of d)

-- rows of which no two have one id
abbrev pub if_different : {A : Type 0} → (id : A → Text) → List A → Option (List A)
if_different id rows = if are_different (map id rows) then Some rows else None

-- the rows of an array, if each item is one and no two have one id
abbrev pub listed : {A : Type 0} → (members : Data → Option A) → (id : A → Text) → Data → Option (List A)
listed members id d = option_and_then (if_different id) (option_and_then (λ items. all_some (map members (list_of items))) (as_array d))

-- what a cell says: `solved`, `time`, `num_judged` and `num_pending`, none of which has to be there
abbrev pub cell_values_in : Data → Option CellValues
cell_values_in d =
    option_and_then (λ solved. option_and_then (λ time. option_and_then (λ judged. option_map
    (λ pending. record { solved = solved; time = time; judged = judged; pending = pending })
    (number_or 0 most_number (codes "num_pending") d)) (number_or 0 most_number (codes "num_judged") d))
    (optional optional_minute (present_in (codes "time") d))) (flag_or_false (codes "solved") d)

-- a cell, by the id of its problem
abbrev pub cell_members : Data → Option OtherCell
cell_members d =
    option_and_then (λ problem. option_map (λ values. record { problem = problem; values = values }) (cell_values_in d))
    (id_in (codes "problem_id") d)

abbrev pub cell_id : OtherCell → Text
cell_id cell = cell.problem

-- what a row with this rank says by its score: `num_solved` and `total_time`
abbrev pub score_values : (rank : ℕ) → Data → Option RowValues
score_values rank d =
    option_and_then (λ solved. option_map (λ total. record { rank = rank; solved = solved; total = total })
    (option_and_then minutes_of (get (codes "total_time") d))) (number_in most_number (codes "num_solved") d)

-- what a row says beside its cells: `rank` and `score`
abbrev pub row_values_in : Data → Option RowValues
row_values_in d =
    option_and_then (λ rank. option_and_then (score_values rank) (get (codes "score") d)) (number_in most_number (codes "rank") d)

-- a row, by the id of its team; it has no cells where `problems` isn't there
abbrev pub row_members : Data → Option OtherRow
row_members d =
    option_and_then (λ team. option_and_then (λ values. option_map
    (λ cells. record { team = team; values = values; cells = cells })
    (or_usual [] (listed cell_members cell_id) (present_in (codes "problems") d))) (row_values_in d)) (id_in (codes "team_id") d)

abbrev pub row_id : OtherRow → Text
row_id row = row.team

-- the rows of a scoreboard
abbrev pub rows_in : Data → Option (List OtherRow)
rows_in d = option_and_then (listed row_members row_id) (get (codes "rows") d)

-- the rows of the scoreboard that bytes are the text of
abbrev pub scoreboard_of : List ℕ → Option (List OtherRow)
scoreboard_of bytes = option_and_then rows_in (data_of bytes)
