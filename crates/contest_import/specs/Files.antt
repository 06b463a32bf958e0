-- The rows that a file adds to what stands, or why it is refused (own).
use Rattle.std.specs.Prelude.{ℕ, List, [], ◌∷◌, Option, Some, None, Result, Err, if◌then◌else◌}
use Rattle.csv.specs.Reading.{default_config, records, strip_bom}
use Rattle.contest_types.specs.State.{FixedPart}
use Rattle.contest_types.specs.declared.entry.Entry.{Entry}
use Rattle.contest_types.specs.declared.refusal.Refusal.{Refusal}
use Rattle.contest_types.specs.declared.refusal.Refusal.TheVariants.{Malformed}
use Rattle.contest_files.specs.FieldTexts.{Text}
use Rattle.contest_files.specs.JsonMembers.{items_in}
use Rattle.contest_import.specs.CsvFiles.{FourFields, account_names, account_record, is_header, team_names, team_record}
use Rattle.contest_import.specs.RowAdditions.{rows_of}
use Rattle.contest_import.specs.SettingsObjects.{object_row}
use Rattle.contest_types.specs.declared.import_kind.FixedKind.{FixedKind}
use Rattle.contest_types.specs.declared.import_kind.FixedKind.TheVariants as kind
use Rattle.contest_types.specs.declared.import_kind.SettingsKind.{SettingsKind}

-- the records below the header, which are numbered from 1; none where the header isn't these names
abbrev pub records_under : FourFields → List (List Text) → Option (List (List Text))
records_under names [] = None
records_under names (header ∷ rows) = if is_header names header then Some rows else None

-- the records of a CSV file below its header
abbrev pub csv_records : FourFields → List ℕ → Option (List (List Text))
csv_records names bytes = records_under names (records default_config (strip_bom bytes))

-- a file without records, as an array or a header would give them, is off its form
abbrev pub or_off_form : {A : Type 0} → (List A → Result (List Entry) Refusal) → Option (List A) → Result (List Entry) Refusal
or_off_form rows None = Err Malformed
or_off_form rows (Some found) = rows found

-- a JSON array of judgement types, languages, problems, groups or teams
abbrev pub settings_rows : SettingsKind → FixedPart → List ℕ → Result (List Entry) Refusal
settings_rows kind f bytes = or_off_form (rows_of (object_row kind) f) (items_in bytes)

-- `id,name,group_ids,hidden`
abbrev pub team_rows : FixedPart → List ℕ → Result (List Entry) Refusal
team_rows f bytes = or_off_form (rows_of team_record f) (csv_records team_names bytes)

-- `id,role,team_id,token`
abbrev pub account_rows : FixedPart → List ℕ → Result (List Entry) Refusal
account_rows f bytes = or_off_form (rows_of account_record f) (csv_records account_names bytes)

abbrev pub rows_in : FixedKind → FixedPart → List ℕ → Result (List Entry) Refusal
rows_in (kind.Settings settings) f bytes = settings_rows settings f bytes
rows_in kind.TeamsCsv f bytes = team_rows f bytes
rows_in kind.AccountsCsv f bytes = account_rows f bytes
