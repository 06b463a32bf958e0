-- A sound contest is what its rows are read as, files and all.
use Rattle.std.proofs.Common.{◌≡◌, ◌∙◌, ◌+◌, ℕ, List, [], ◌∷◌, length, map, Some, refl, ap}
use Rattle.std.specs.Prelude.{zip}
use Rattle.std.specs.Option.{option_map, option_and_then}
use Rattle.contest_types.specs.Loads.{without_file}
use Rattle.contest_types.specs.Setup.{Setup}
use Rattle.contest_types.specs.State.{ContestState}
use Rattle.contest_types.specs.declared.submission.Submission.{Submission}
use Rattle.contest_store_rows.specs.ListRows.{loaded_submission_row, submission_row}
use Rattle.contest_store_rows.specs.Tables.{rows_of}
use Rattle.contest_store_rows.proofs.ListLaws.{rows_from}
use Rattle.contest_store_reading.specs.SpellingLaws.{loaded_rows_of}
use Rattle.contest_store_reading.specs.Spelling.{lists_in}
use Rattle.contest_store_reading.proofs.SpellingLaws.{contests_read_back}
use Rattle.sqlite_value.specs.Order.{Row}
use Rattle.contest_store_cells.specs.CellRows.{cell_rows}
use Rattle.contest_store_tables.specs.Statements.{loaded_row}
use Rattle.contest_store_tables.specs.declared.table_name.TableName.TheVariants.{Submissions}
use Rattle.contest_store_changes.specs.ContestTables.{if_scored, if_valid, listed_in, loaded_tables, rows_with, valid_listed_in, with_file, with_files}
use Rattle.contest_store_changes.specs.Laws.{SoundContestsReadBack}
use Rattle.contest_store_changes.specs.Sound.{IsSound}
use Rattle.contest_store_changes.proofs.CellsRead.{cells_themselves}
use Rattle.contest_store_changes.proofs.Writable.{writable}

-- a load shows the type and the size of a file in place of it
pub rows_loaded : (s : Setup) (n : ℕ) (xs : List Submission) → map (loaded_row Submissions) (rows_from (submission_row s) n xs) ≡ rows_from (λ m x. loaded_submission_row s m (length x.file) x) n xs
rows_loaded s n [] = refl
rows_loaded s n (x ∷ xs) = ap (λ rows. loaded_submission_row s n (length x.file) x ∷ rows) (rows_loaded s (n + 1) xs)

pub tables_loaded : (cells : List Row) (x : ContestState) → loaded_tables (rows_with cells x) ≡ loaded_rows_of x
tables_loaded cells x = ap (λ rows. record (rows_of x) { submissions = rows }) (rows_loaded x.fixed.settings 1 x.submissions)

-- each submission gets its file back from its row
pub files_back : (s : Setup) (n : ℕ) (xs : List Submission) → map (λ p. with_file p.0 p.1) (zip (map without_file xs) (rows_from (submission_row s) n xs)) ≡ xs
files_back s n [] = refl
files_back s n (x ∷ xs) = ap (λ others. x ∷ others) (files_back s (n + 1) xs)

contest_is_read : (cells : List Row) (x : ContestState) → IsSound x → listed_in (rows_with cells x) ≡ Some x
contest_is_read cells x h =
    ap (λ t. option_map (with_files (rows_of x).submissions) (lists_in t)) (tables_loaded cells x)
    ∙ ap (option_map (with_files (rows_of x).submissions)) (contests_read_back x (writable x h))
    ∙ ap (λ submissions. Some (record x { submissions = submissions })) (files_back x.fixed.settings 1 x.submissions)

pub sound_listed_reads_back : (cells : List Row) (x : ContestState) → IsSound x → valid_listed_in (rows_with cells x) ≡ Some x
sound_listed_reads_back cells x h = ap (option_and_then if_valid) (contest_is_read cells x h) ∙ (rw h.valid refl)

pub sound_contests_read_back : SoundContestsReadBack
sound_contests_read_back x h = ap (option_and_then (if_scored (cell_rows x))) (sound_listed_reads_back (cell_rows x) x h) ∙ (rw (cells_themselves x) refl)
