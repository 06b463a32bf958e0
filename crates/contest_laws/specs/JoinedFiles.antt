-- An import in two files is the import of both in one (own). Each law is the contract of a function of src/laws.rt.
use Rattle.std.specs.Prelude.{◌≡◌, ◌⊎◌, ◌≤◌, ◌+◌, ◌++◌, ℕ, List, [], codes, length, Option, Some, Ok, Err}
use Rattle.std.specs.Option.{option_map_or}
use Rattle.contest_types.specs.State.{ContestState}
use Rattle.contest_types.specs.declared.import_kind.FixedKind.TheVariants as fixed
use Rattle.contest_types.specs.declared.import_kind.ImportKind.{ImportKind}
use Rattle.contest_types.specs.declared.import_kind.ImportKind.TheVariants as kind
use Rattle.contest_types.specs.declared.limits.TheConstants.{IMPORTED_FILE}
use Rattle.contest_types.specs.declared.refusal.Cause.{Cause}
use Rattle.contest_types.specs.declared.refusal.Refusal.TheVariants.{ImportRow}
use Rattle.contest_files.specs.JsonMembers.{items_in}
use Rattle.contest_import.specs.CsvFiles.{account_names, team_names}
use Rattle.contest_import.specs.Files.{csv_records}
use Rattle.contest_import_verdicts.specs.VerdictFiles.{verdict_records}
use Rattle.contest_desk.specs.Imports.{import_step}

-- what is read of the joined file is what is read of the first, and then what is read of the second
pub record ReadsAsBoth {R : Type 0} (read : List ℕ → Option (List R)) (first second joined : List ℕ) : Type 0 where
  pub front : List R
  pub back : List R
  pub of_first : read first ≡ Some front
  pub of_second : read second ≡ Some back
  pub of_joined : read joined ≡ Some (front ++ back)

-- the records of the first file and then those of the second, below one header; or the elements of both, in one array
abbrev pub AreJoined : ImportKind → (first second joined : List ℕ) → Type 0
AreJoined (kind.Fixed (fixed.Settings settings)) = ReadsAsBoth items_in
AreJoined (kind.Fixed fixed.TeamsCsv) = ReadsAsBoth (csv_records team_names)
AreJoined (kind.Fixed fixed.AccountsCsv) = ReadsAsBoth (csv_records account_names)
AreJoined kind.VerdictsCsv = ReadsAsBoth verdict_records

-- the second file is imported no earlier than the first; one of verdicts, which have the moment of their file, at the same moment
abbrev pub Follows : ImportKind → (now later : ℕ) → Type 0
Follows (kind.Fixed k) now later = now ≤ later
Follows kind.VerdictsCsv now later = later ≡ now

-- two files that are accepted one after the other come to the same as the joined one in place of the first, which is accepted too
-- if it isn't too large: as many records add something, and the contest is the same
abbrev pub ImportsJoin : Type 0
ImportsJoin =
    (x y z : ContestState) (now later : ℕ) (k : ImportKind) (first second joined : List ℕ) (n m : ℕ) → Follows k now later → AreJoined k first second joined → length joined ≤ IMPORTED_FILE
    → import_step x now k first ≡ (Ok n, y) → import_step y later k second ≡ (Ok m, z) → import_step x now k joined ≡ (Ok (n + m), z)

-- an import of each of two files, the second after the first
pub record AreAccepted (x z : ContestState) (now : ℕ) (k : ImportKind) (first second : List ℕ) (total : ℕ) : Type 0 where
  pub between : ContestState
  pub n : ℕ
  pub m : ℕ
  pub of_first : import_step x now k first ≡ (Ok n, between)
  pub of_second : import_step between now k second ≡ (Ok m, z)
  pub both : n + m ≡ total

-- and where the joined file is accepted both are, one after the other at its moment, if they aren't too large
abbrev pub ImportsPart : Type 0
ImportsPart =
    (x z : ContestState) (now : ℕ) (k : ImportKind) (first second joined : List ℕ) (total : ℕ) → AreJoined k first second joined → length first ≤ IMPORTED_FILE → length second ≤ IMPORTED_FILE
    → import_step x now k joined ≡ (Ok total, z) → AreAccepted x z now k first second total

-- how many records a file has, or elements
abbrev pub records_in : ImportKind → List ℕ → ℕ
records_in (kind.Fixed (fixed.Settings settings)) file = option_map_or length (items_in file) 0
records_in (kind.Fixed fixed.TeamsCsv) file = option_map_or length (csv_records team_names file) 0
records_in (kind.Fixed fixed.AccountsCsv) file = option_map_or length (csv_records account_names file) 0
records_in kind.VerdictsCsv file = option_map_or length (verdict_records file) 0

-- a record at fault in the first file is at fault in the joined one, and one in the second is, behind those of the first: for the
-- same cause, and the joined file adds nothing
pub record FaultsJoin : Type 0 where
  pub of_first :
      (x : ContestState) (now : ℕ) (k : ImportKind) (first second joined : List ℕ) (at : ℕ) (cause : Cause) → AreJoined k first second joined → length joined ≤ IMPORTED_FILE
      → (import_step x now k first).0 ≡ Err (ImportRow at cause) → import_step x now k joined ≡ (Err (ImportRow at cause), x)
  pub of_second :
      (x y : ContestState) (now later : ℕ) (k : ImportKind) (first second joined : List ℕ) (n at : ℕ) (cause : Cause) → Follows k now later → AreJoined k first second joined → length joined ≤ IMPORTED_FILE
      → import_step x now k first ≡ (Ok n, y) → (import_step y later k second).0 ≡ Err (ImportRow at cause) → import_step x now k joined ≡ (Err (ImportRow (records_in k first + at) cause), x)

-- rows below a header line that end in a line's end which is no part of a field: without it the same is read. Or none
abbrev pub EndsLine : {R : Type 0} → (read : List ℕ → Option (List R)) → (header rows : List ℕ) → Type 0
EndsLine read header rows = (rows ≡ []) ⊎ ((text : List ℕ) × (rows ≡ text ++ codes "\n") × (read (header ++ text) ≡ read (header ++ rows)))

-- the rows of the second file may stand below those of the first as they are, below one header line
abbrev pub RowsJoin : {R : Type 0} → (read : List ℕ → Option (List R)) → (header : List ℕ) → Type 0
RowsJoin read header = (rows others : List ℕ) → EndsLine read header rows → ReadsAsBoth read (header ++ rows) (header ++ others) (header ++ (rows ++ others))

-- so it is with the files of each kind that are CSV
pub record CsvRowsJoin : Type 0 where
  pub teams : RowsJoin (csv_records team_names) (codes "id,name,group_ids,hidden\n")
  pub accounts : RowsJoin (csv_records account_names) (codes "id,role,team_id,token\n")
  pub verdicts : RowsJoin verdict_records (codes "submission_id,judgement_type_id\n")
