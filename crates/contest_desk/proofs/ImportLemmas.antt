-- What an import adds, and that it never fails of itself.
use Rattle.std.proofs.Common.{◌≡◌, ◌≢◌, ◌+◌, ◌∙◌, ℕ, Bool, true, false, List, [], ◌∷◌, length, Option, Some, None, Result, Ok, Err, refl, sym, ap, inl, inr}
use Rattle.std.specs.Prelude.{◌&&◌, ◌||◌, count_by, nat_lt, if◌then◌else◌}
use Rattle.std.proofs.lemmas.Bool.{false≢true}
use Rattle.std.proofs.lemmas.List.{length-map}
use Rattle.contest_types.specs.Addable.{are_addable}
use Rattle.contest_types.specs.Clock.{reached}
use Rattle.contest_types.specs.Loads.{without_file}
use Rattle.contest_types.specs.State.{FixedPart, ContestState, add_all}
use Rattle.contest_types.specs.Valid.{is_valid}
use Rattle.contest_types.specs.declared.entry.Entry.{Entry}
use Rattle.contest_types.specs.declared.limits.TheConstants.{IMPORTED_FILE}
use Rattle.contest_types.specs.declared.refusal.Cause.{Cause}
use Rattle.contest_types.specs.declared.refusal.Refusal.{Refusal}
use Rattle.contest_types.specs.declared.refusal.Refusal.TheVariants.{BodyTooLarge, SettingsClosed, StoreFault}
use Rattle.contest_types.proofs.AddEntry.{adding_all}
use Rattle.contest_lists.specs.Lists.{loaded}
use Rattle.contest_files.specs.FieldTexts.{Text}
use Rattle.contest_files.specs.JsonMembers.{items_in}
use Rattle.contest_files.specs.Refused.{Refuses}
use Rattle.contest_import.specs.CsvFiles.{account_names, account_record, team_names, team_record}
use Rattle.contest_import.specs.Files.{csv_records, or_off_form, rows_in}
use Rattle.contest_import.specs.RowAdditions.{Additions, after_records, none_yet, rows_of, rows_or_refusal}
use Rattle.contest_import.specs.SettingsObjects.{object_row}
use Rattle.contest_types.specs.declared.import_kind.ImportKind.{ImportKind}
use Rattle.contest_types.specs.declared.import_kind.ImportKind.TheVariants as kind
use Rattle.contest_types.specs.declared.import_kind.FixedKind.{FixedKind}
use Rattle.contest_types.specs.declared.import_kind.FixedKind.TheVariants as fixed
use Rattle.contest_import.proofs.SoundRows.{rows_in_addable}
use Rattle.contest_rules.specs.declared.proposing.NewVerdict.{NewVerdict}
use Rattle.contest_import_verdicts.specs.VerdictFiles.{after_record, after_records as verdicts_after, entries_if, or_fault_of, verdict_records, verdicts_in}
use Rattle.contest_import_verdicts.proofs.AddableLemmas.{verdicts_are_addable}
use Rattle.contest_desk.specs.Imports.{are_closed, count_of, entries_of, file_rows, import_step, imported, is_of_record, is_of_settings, unless_closed}
use Rattle.contest_desk.specs.Items.{HasStoreError, has_failed}
use Rattle.contest_desk.specs.UnseenLaws.{RefusedImport, UnseenImport}
use Rattle.contest_desk.specs.declared.item.Answer.TheVariants as answer
use Rattle.contest_desk.proofs.UnseenLemmas.{unseen_entries}

-- what holds of the rows of a file, and of the refusals of an import, holds of what it imports
closed_holds : (P : Result (List Entry) Refusal → Type 0) (closed : Bool) (r : Result (List Entry) Refusal) → P (Err SettingsClosed) → P r → P (unless_closed closed r)
closed_holds P closed (Err refusal) shut h = h
closed_holds P closed (Ok []) shut h = h
closed_holds P true (Ok (row ∷ rows)) shut h = shut
closed_holds P false (Ok (row ∷ rows)) shut h = h

pub imported_holds : (P : Result (List Entry) Refusal → Type 0) (x : ContestState) (now : ℕ) (k : ImportKind) (file : List ℕ)
    → P (Err BodyTooLarge) → P (Err SettingsClosed) → P (file_rows x now k file) → P (imported x now k file)
imported_holds P x now k file large shut h =
    let go : (b : Bool) → P (if b then Err BodyTooLarge else unless_closed (is_of_settings k && are_closed x now) (file_rows x now k file)) = elim [
      | true ↦ large
      | false ↦ closed_holds P (is_of_settings k && are_closed x now) (file_rows x now k file) shut h
    ] in
    go (nat_lt IMPORTED_FILE (length file))

-- whether settings are closed is known without the files
pub closed_loaded : (x lists : ContestState) (now : ℕ) → lists ≡ loaded x → are_closed lists now ≡ are_closed x now
closed_loaded x lists now read =
    ap (λ (y : ContestState). are_closed y now) read ∙ ap (λ n. reached x.fixed.marks.start now || nat_lt 0 n) (length-map x.submissions without_file)

-- the refusal of a file is no failure
abbrev IsOrdinaryAnswer : Result (List Entry) Refusal → Type 0
IsOrdinaryAnswer r = has_failed (answer.Imported (count_of r)) ≡ false

ordinary_rows : (q : Result Additions (ℕ × Cause)) → IsOrdinaryAnswer (rows_or_refusal q)
ordinary_rows (Ok a) = refl
ordinary_rows (Err fault) = refl

ordinary_records : {A : Type 0} (row_of : FixedPart → A → Result Entry Cause) (f : FixedPart) (o : Option (List A)) → IsOrdinaryAnswer (or_off_form (rows_of row_of f) o)
ordinary_records row_of f None = refl
ordinary_records row_of f (Some found) = ordinary_rows (after_records row_of (none_yet f) 1 found)

ordinary_rows_in : (k : FixedKind) (f : FixedPart) (file : List ℕ) → IsOrdinaryAnswer (rows_in k f file)
ordinary_rows_in (fixed.Settings s) f file = ordinary_records (object_row s) f (items_in file)
ordinary_rows_in fixed.TeamsCsv f file = ordinary_records team_record f (csv_records team_names file)
ordinary_rows_in fixed.AccountsCsv f file = ordinary_records account_record f (csv_records account_names file)

ordinary_verdicts : (x : ContestState) (now : ℕ) (so_far : List NewVerdict) (n : ℕ) (rows : List (List Text)) → IsOrdinaryAnswer (entries_if (verdicts_after x now so_far n rows))
ordinary_verdicts x now so_far n [] = refl
ordinary_verdicts x now so_far n (row ∷ rows) =
    let go : (r : Result (List NewVerdict) Cause) → IsOrdinaryAnswer (entries_if (or_fault_of n (λ more. verdicts_after x now more (n + 1) rows) r)) = elim [
      | (Err c) ↦ refl
      | (Ok more) ↦ ordinary_verdicts x now more (n + 1) rows
    ] in
    go (after_record x now so_far row)

ordinary_verdicts_in : (x : ContestState) (now : ℕ) (o : Option (List (List Text))) → IsOrdinaryAnswer (entries_if (verdicts_in x now o))
ordinary_verdicts_in x now None = refl
ordinary_verdicts_in x now (Some rows) = ordinary_verdicts x now [] 1 rows

ordinary_file : (x : ContestState) (now : ℕ) (k : ImportKind) (file : List ℕ) → IsOrdinaryAnswer (file_rows x now k file)
ordinary_file x now (kind.Fixed k) file = ordinary_rows_in k x.fixed file
ordinary_file x now kind.VerdictsCsv file = ordinary_verdicts_in x now (verdict_records file)

-- no file is refused because the store failed
pub fixed_file_refuses : (k : FixedKind) (f : FixedPart) (file : List ℕ) (e : Refusal) → Refuses e (rows_in k f file) → e ≢ StoreFault
fixed_file_refuses k f file e (inl memory) is = absurd (cc (memory, is))
fixed_file_refuses k f file e (inr refuses) is =
    false≢true (sym (ordinary_rows_in k f file) ∙ ap (λ r. has_failed (answer.Imported (count_of r))) (refuses ∙ ap Err is))

pub import_ordinary : (x : ContestState) (now : ℕ) (k : ImportKind) (file : List ℕ) → has_failed (answer.Imported (import_step x now k file).0) ≡ false
import_ordinary x now k file = imported_holds IsOrdinaryAnswer x now k file refl refl (ordinary_file x now k file)

pub error_has_failed : (r : Result ℕ Refusal) → HasStoreError r → has_failed (answer.Imported r) ≡ true
error_has_failed r (inl e) = ap (λ q. has_failed (answer.Imported q)) e
error_has_failed r (inr e) = ap (λ q. has_failed (answer.Imported q)) e

pub imports_never_fail : (x : ContestState) (now : ℕ) (k : ImportKind) (file : List ℕ) → HasStoreError (import_step x now k file).0 → ⊥
imports_never_fail x now k file fails = false≢true (sym (import_ordinary x now k file) ∙ error_has_failed (import_step x now k file).0 fails)

-- what an import adds may be added
file_addable : (x : ContestState) (r : Result (List Entry) Refusal) → ((rows : List Entry) → r ≡ Ok rows → are_addable x rows ≡ true) → are_addable x (entries_of r) ≡ true
file_addable x (Ok rows) h = h rows refl
file_addable x (Err refusal) h = refl

rows_addable : (x : ContestState) (now : ℕ) (k : ImportKind) (file : List ℕ) (rows : List Entry) → file_rows x now k file ≡ Ok rows → are_addable x rows ≡ true
rows_addable x now (kind.Fixed k) file rows is = rows_in_addable k x file rows is
rows_addable x now kind.VerdictsCsv file rows is = verdicts_are_addable x now file rows is

pub import_addable : (x : ContestState) (now : ℕ) (k : ImportKind) (file : List ℕ) → are_addable x (entries_of (imported x now k file)) ≡ true
import_addable x now k file =
    imported_holds (λ r. are_addable x (entries_of r) ≡ true) x now k file refl refl (file_addable x (file_rows x now k file) (rows_addable x now k file))

pub imports_keep_valid : (x : ContestState) (now : ℕ) (k : ImportKind) (file : List ℕ) → is_valid x ≡ true → is_valid (import_step x now k file).1 ≡ true
imports_keep_valid x now k file valid = adding_all x (entries_of (imported x now k file)) valid (import_addable x now k file)

refused_none : (r : Result (List Entry) Refusal) (refusal : Refusal) → count_of r ≡ Err refusal → entries_of r ≡ []
refused_none (Ok rows) refusal e = absurd (let no : ◌≡◌ {A = Result ℕ Refusal} (Ok (count_by is_of_record rows)) (Err refusal) = e in cc no)
refused_none (Err other) refusal e = refl

pub refused_import : RefusedImport
refused_import x now k file refusal e = ap (add_all x) (refused_none (imported x now k file) refusal e)

pub unseen_import : UnseenImport
unseen_import a x now k file unseen = unseen_entries a x (entries_of (imported x now k file)) unseen
