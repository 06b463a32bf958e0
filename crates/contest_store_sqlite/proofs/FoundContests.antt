-- Valid lists that were read of rows are, with the files in the rows, the valid contest whose lists the rows are.
use Rattle.std.proofs.Common.{◌≡◌, ◌∙◌, ◌+◌, ◌≤◌, ℕ, true, List, [], ◌∷◌, length, map, zip, Some, refl, sym, ap, ap₂, subst}
use Rattle.std.specs.Prelude.{◌&&◌, nat_le}
use Rattle.std.specs.List.{AllByRecursion, list_all}
use Rattle.std.specs.Option.{option_and_then, option_map}
use Rattle.std.proofs.lemmas.Bool.{le-leb}
use Rattle.sqlite_sql.specs.Text.{length_of}
use Rattle.sqlite_value.specs.declared.value.Value.TheVariants.{Blob}
use Rattle.sqlite_value.specs.Order.{Row, column}
use Rattle.contest_types.specs.Loads.{without_file}
use Rattle.contest_types.specs.Setup.{Setup}
use Rattle.contest_types.specs.State.{ContestState}
use Rattle.contest_types.specs.Valid.{is_valid}
use Rattle.contest_types.specs.declared.limits.TheConstants.{POSTED_FILE}
use Rattle.contest_types.specs.declared.submission.Submission.{Submission}
use Rattle.contest_lists.specs.Lists.{loaded}
use Rattle.contest_store_rows.specs.Cells.{number_of}
use Rattle.contest_store_rows.specs.ListRows.{loaded_submission_row}
use Rattle.contest_store_rows.specs.declared.versions.Version.{Version}
use Rattle.contest_store_reading.specs.SpellingLaws.{AreSubmissionRows}
use Rattle.contest_store_reading.specs.Spelling.{lists_in_version}
use Rattle.contest_store_reading.proofs.SpellingLaws.{contests_write_back}
use Rattle.contest_store_tables.specs.Statements.{loaded_row}
use Rattle.contest_store_tables.specs.Tables.{TableRows}
use Rattle.contest_store_tables.specs.declared.table_name.TableName.TheVariants.{Submissions}
use Rattle.contest_store_changes.specs.ContestTables.{file_in, if_valid, loaded_tables, valid_listed_in_version, with_file, with_files}
use Rattle.contest_store_changes.specs.Kinds.{AreOfKinds}
use Rattle.contest_store_changes.proofs.FiledRows.{blob_is}
use Rattle.contest_store_changes.proofs.ValidSound.{loaded_kinds}
use Rattle.contest_store_sqlite.specs.Loading.{AreChecked}
use Rattle.contest_store_sqlite.proofs.FilelessLists.{HasNoFile, lists_fileless}

-- without their files they are as they were read
fileless_back : (s : Setup) (n : ℕ) (xs : List Submission) (rows : List Row) → AreSubmissionRows s n xs (map (loaded_row Submissions) rows) → AllByRecursion HasNoFile xs
    → map without_file (map (λ p. with_file p.0 p.1) (zip xs rows)) ≡ xs
fileless_back s n [] [] are none = refl
fileless_back s n [] (r ∷ rows) are none = absurd are
fileless_back s n (x ∷ xs) [] are none = absurd are
fileless_back s n (x ∷ xs) (r ∷ rows) are none = ap₂ ◌∷◌ (ap (λ file. record x { file = file }) (sym none.0)) (fileless_back s (n + 1) xs rows are.1 none.1)

-- a loaded row tells the size of its file
size_is : (s : Setup) (n size : ℕ) (x : Submission) (r : Row) → loaded_row Submissions r ≡ loaded_submission_row s n size x → length (file_in r) ≡ size
size_is s n size x r is =
    let blob : column r 7 ≡ Blob (file_in r) = blob_is (column r 7) (ap (λ q. column q 7) is) in
    ap (λ v. number_of (length_of v)) (sym blob) ∙ ap (λ q. number_of (column q 8)) is

small_files : (s : Setup) (n : ℕ) (xs : List Submission) (rows : List Row) → AreSubmissionRows s n xs (map (loaded_row Submissions) rows)
    → list_all (λ (y : Submission). nat_le (length y.file) POSTED_FILE) (map (λ p. with_file p.0 p.1) (zip xs rows)) ≡ true
small_files s n [] [] are = refl
small_files s n [] (r ∷ rows) are = absurd are
small_files s n (x ∷ xs) [] are = absurd are
small_files s n (x ∷ xs) (r ∷ rows) are =
    ap₂ ◌&&◌ (le-leb (length (file_in r)) POSTED_FILE (subst (λ size. size ≤ POSTED_FILE) (sym (size_is s n are.0.0 x r are.0.2)) are.0.1)) (small_files s (n + 1) xs rows are.1)

-- the contest that was found
pub record Found (version : Version) (rows : TableRows) (lists : ContestState) : Type 0 where
  pub contest : ContestState
  pub read : valid_listed_in_version version rows ≡ Some contest
  pub valid : is_valid contest ≡ true
  pub held : loaded contest ≡ lists
  pub kinds : AreOfKinds contest

pub found : (version : Version) (rows : TableRows) (lists : ContestState) → lists_in_version version (loaded_tables rows) ≡ Some lists → AreChecked lists → Found version rows lists
found version rows lists is checked =
    let x = with_files (rows Submissions) lists in
    let are = (contests_write_back version (loaded_tables rows) lists is).submissions in
    let held : loaded x ≡ lists = ap (λ submissions. record lists { submissions = submissions }) (fileless_back lists.fixed.settings 1 lists.submissions (rows Submissions) are (lists_fileless version (loaded_tables rows) lists is)) in
    let whole : is_valid x ≡ true = sym (checked.valid x held) ∙ small_files lists.fixed.settings 1 lists.submissions (rows Submissions) are in
    record {
      contest = x;
      read = ap (λ o. option_and_then if_valid (option_map (with_files (rows Submissions)) o)) is ∙ (rw whole refl);
      valid = whole;
      held = held;
      kinds = loaded_kinds x (subst AreOfKinds (sym held) checked.kinds);
    }
