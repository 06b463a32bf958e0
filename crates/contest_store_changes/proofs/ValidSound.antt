-- A valid contest that rows are is sound, and these are its rows.
use Rattle.std.proofs.Common.{◌≡◌, true, List, [], ◌∷◌, map, Some, refl, sym, subst, rules}
use Rattle.std.specs.List.{AllByRecursion}
use Rattle.contest_lists.specs.Lists.{loaded}
use Rattle.contest_types.specs.Loads.{without_file}
use Rattle.contest_types.specs.State.{ContestState}
use Rattle.contest_types.specs.Valid.{is_valid}
use Rattle.contest_types.specs.declared.submission.Submission.{Submission}
use Rattle.contest_store_rows.specs.declared.versions.TheConstants.{VERSION}
use Rattle.contest_store_reading.specs.SpellingLaws.{AreRows}
use Rattle.contest_store_reading.specs.Spelling.{lists_in}
use Rattle.contest_store_reading.proofs.SpellingLaws.{contests_write_back}
use Rattle.sqlite_value.specs.Order.{Row}
use Rattle.contest_store_cells.specs.CellRows.{cell_rows}
use Rattle.contest_store_tables.specs.Statements.{loaded_row}
use Rattle.contest_store_tables.specs.Steps.{Rises}
use Rattle.contest_store_tables.specs.Tables.{TableRows}
use Rattle.contest_store_tables.specs.declared.table_name.TableName.TheVariants.{Accounts, Submissions, Clarifications, Cells}
use Rattle.contest_store_reading.proofs.OptionSteps.{bound, where_true}
use Rattle.contest_store_changes.specs.ContestTables.{if_scored, if_valid, listed_in, loaded_tables, rows_with, same_rows, valid_listed_in, with_files}
use Rattle.contest_store_changes.specs.Kinds.{AreOfKinds, IsOfKindsSubmission}
use Rattle.contest_store_changes.specs.Laws.{IsWide, ListedContestsAreSound, RowsAreTheirContests, ValidContestsAreSound}
use Rattle.contest_store_changes.specs.Sound.{IsSound}
use Rattle.contest_store_changes.proofs.AccountsRise.{stand_by_id}
use Rattle.contest_store_changes.proofs.CellsRead.{one_list}
use Rattle.contest_store_changes.proofs.FiledRows.{filed_rows}
use Rattle.contest_store_changes.proofs.OneMoreRow.{same_tables}
use Rattle.contest_store_changes.proofs.FoundSteps.{made, of_found}

none_mapped : (f : Row → Row) (rows : List Row) → map f rows ≡ [] → [] ≡ rows
none_mapped f [] none = refl
none_mapped f (r ∷ rows) none = absurd (cc none)

-- the contest that rows are, with its files, has these rows
rows_are : (rows : TableRows) (y : ContestState) → AllByRecursion (IsWide Submissions) (rows Submissions) → AreRows VERSION y (loaded_tables rows) → rows_with (rows Cells) (with_files (rows Submissions) y) ≡ rows
rows_are rows y wide are =
    same_tables _ rows (sym are.fixed.desk) (sym are.fixed.contest) (sym are.fixed.items) (sym are.fixed.accounts) (filed_rows y.fixed.settings 1 y.submissions (rows Submissions) wide are.submissions)
    (sym are.proposals) (sym are.releases) (sym are.rejudgings) (sym are.members) (none_mapped (loaded_row Clarifications) (rows Clarifications) are.clarifications.0) refl (sym are.clarifications.1)

pub listed_rows : RowsAreTheirContests
listed_rows rows x wide is =
    let m = made (with_files (rows Submissions)) (lists_in (loaded_tables rows)) x is in
    subst (λ y. rows_with (rows Cells) y ≡ rows) m.whole (rows_are rows m.x wide (contests_write_back VERSION (loaded_tables rows) m.x m.first_is))

found_sound : (rows : TableRows) (x : ContestState) → Rises Accounts (rows Accounts) → AllByRecursion (IsWide Submissions) (rows Submissions) → listed_in rows ≡ Some x → is_valid x ≡ true → AreOfKinds x → IsSound x × (rows_with (rows Cells) x ≡ rows)
found_sound rows x up wide is valid kinds =
    let own = listed_rows rows x wide is in
    (record { valid = valid; kinds = kinds; by_id = stand_by_id x.fixed.settings x.fixed.accounts (subst (λ (all : TableRows). Rises Accounts (all Accounts)) (sym own) up) }, own)

pub listed_sound : ListedContestsAreSound
listed_sound rows x up wide kinds is =
    let b = bound if_valid (listed_in rows) x is in
    let own = where_true (is_valid b.x) (Some b.x) x b.next_is in
    of_found (λ y. AreOfKinds y → IsSound y × (rows_with (rows Cells) y ≡ rows)) b.x x own.1 (found_sound rows b.x up wide b.first_is own.0) kinds

pub valid_sound : ValidContestsAreSound
valid_sound rows x up wide kinds is =
    let b = bound (if_scored (rows Cells)) (valid_listed_in rows) x is in
    let own = where_true (same_rows (rows Cells) (cell_rows b.x)) (Some b.x) x b.next_is in
    let found = of_found (λ y. valid_listed_in rows ≡ Some y) b.x x own.1 b.first_is in
    let cells = of_found (λ y. rows Cells ≡ cell_rows y) b.x x own.1 (one_list (rows Cells) (cell_rows b.x) own.0) in
    let sound = listed_sound rows x up wide kinds found in
    (sound.0, subst (λ (cells : List Row). rows_with cells x ≡ rows) cells sound.1)

-- a file has no kind
unloaded : (xs : List Submission) → AllByRecursion IsOfKindsSubmission (map without_file xs) → AllByRecursion IsOfKindsSubmission xs
unloaded [] all = tt
unloaded (x ∷ xs) all = (let own = all.0 in search (rules, own), unloaded xs all.1)

pub loaded_kinds : (x : ContestState) → AreOfKinds (loaded x) → AreOfKinds x
loaded_kinds x w =
    record { settings = w.settings; accounts = w.accounts; marks = w.marks; submissions = unloaded x.submissions w.submissions; proposals = w.proposals; releases = w.releases; clarifications = w.clarifications; rejudgings = w.rejudgings }
