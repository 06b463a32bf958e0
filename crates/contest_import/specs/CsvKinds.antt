-- The two kinds of CSV files read by one function.
-- Words of private functions: nothing public is said with them.
use Rattle.std.specs.Prelude.{ℕ, List, Result}
use Rattle.contest_types.specs.State.{FixedPart}
use Rattle.contest_types.specs.declared.entry.Entry.{Entry}
use Rattle.contest_types.specs.declared.refusal.Cause.{Cause}
use Rattle.contest_types.specs.declared.refusal.Refusal.{Refusal}
use Rattle.contest_files.specs.FieldTexts.{Text}
use Rattle.contest_import.specs.CsvFiles.{FourFields, account_names, account_record, team_names, team_record}
use Rattle.contest_import.specs.Files.{csv_records, or_off_form}
use Rattle.contest_import.specs.RowAdditions.{rows_of}
use Rattle.contest_import.specs.declared.csv_files.CsvKind.{CsvKind}
use Rattle.contest_import.specs.declared.csv_files.CsvKind.TheVariants as kind

abbrev pub names_of : CsvKind → FourFields
names_of kind.Teams = team_names
names_of kind.Accounts = account_names

abbrev pub record_row : CsvKind → FixedPart → List Text → Result Entry Cause
record_row kind.Teams f row = team_record f row
record_row kind.Accounts f row = account_record f row

abbrev pub kind_rows : CsvKind → FixedPart → List ℕ → Result (List Entry) Refusal
kind_rows k f bytes = or_off_form (rows_of (record_row k) f) (csv_records (names_of k) bytes)
