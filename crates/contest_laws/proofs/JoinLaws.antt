-- An import in two files is the import of both in one.
use Rattle.std.proofs.Common.{◌≡◌, ◌∙◌, ◌≤◌, ◌+◌, ◌++◌, ℕ, Bool, true, false, List, [], ◌∷◌, length, Option, Some, None, Result, Ok, Err, refl, sym, ap, subst, arith, cond}
use Rattle.std.specs.Prelude.{◌&&◌, ◌||◌, IfOk, count_by, nat_lt, if◌then◌else◌}
use Rattle.std.specs.Option.{option_map_or}
use Rattle.std.proofs.lemmas.Bool.{false≢true, le-leb, le-ltb, leb-true}
use Rattle.std.proofs.lemmas.List.Sums.{sum_by-append}
use Rattle.contest_types.specs.Clock.{reached}
use Rattle.contest_types.specs.Order.{Has}
use Rattle.contest_types.specs.State.{ContestState, FixedPart, add, add_all}
use Rattle.contest_types.specs.declared.entry.Entry.{Entry}
use Rattle.contest_types.specs.declared.entry.Entry.TheVariants.{NewSubmission, NewProposal, NewRelease, NewClarification, NewRejudging, SetMember, SetRejudging, SetStart, SetThaw, SetFinalized, SetDuration, SetTeamName, SetDigest, NewType, NewLanguage, NewProblem, NewGroup, NewTeam, NewAccount}
use Rattle.contest_types.specs.declared.import_kind.FixedKind.TheVariants as fixed
use Rattle.contest_types.specs.declared.import_kind.ImportKind.{ImportKind}
use Rattle.contest_types.specs.declared.import_kind.ImportKind.TheVariants as kind
use Rattle.contest_types.specs.declared.limits.TheConstants.{IMPORTED_FILE}
use Rattle.contest_types.specs.declared.refusal.Cause.{Cause}
use Rattle.contest_types.specs.declared.refusal.Refusal.{Refusal}
use Rattle.contest_types.specs.declared.refusal.Refusal.TheVariants.{BodyTooLarge, ImportRow}
use Rattle.contest_files.specs.JsonMembers.{items_in}
use Rattle.contest_import.specs.CsvFiles.{account_names, account_record, team_names, team_record}
use Rattle.contest_import.specs.Files.{csv_records, or_off_form}
use Rattle.contest_import.specs.RowAdditions.{rows_of}
use Rattle.contest_import.specs.SettingsObjects.{object_row}
use Rattle.contest_import.proofs.RowLemmas.{IsSoundRow}
use Rattle.contest_import.proofs.SoundRows.{sound_account_record, sound_object, sound_team_record}
use Rattle.contest_import_verdicts.specs.VerdictFiles.{entries_if, verdicts_in}
use Rattle.contest_desk.specs.Imports.{are_closed, count_of, entries_of, file_rows, import_step, imported, is_of_record, is_of_settings, unless_closed}
use Rattle.contest_desk.specs.declared.item.Item.TheVariants as item
use Rattle.contest_laws.specs.JoinedFiles.{AreAccepted, AreJoined, FaultsJoin, Follows, ImportsJoin, ImportsPart, ReadsAsBoth, records_in}
use Rattle.contest_laws.specs.Sources.{IsFileRow}
use Rattle.contest_laws.proofs.JoinedRows.{rows_at_fault, rows_behind, rows_joined, verdicts_at_fault, verdicts_joined}
use Rattle.contest_laws.proofs.RunKeeps.{entries_keep}
use Rattle.contest_laws.proofs.SourceLemmas.{item_adds_so}

-- ---- what the joined file adds

form_joined : {A : Type 0} (row_of : FixedPart → A → Result Entry Cause) → ((f : FixedPart) (r : A) → IfOk (row_of f r) IsSoundRow) → (read : List ℕ → Option (List A)) (x : ContestState) (first second both : List ℕ) (es : List Entry)
    → ReadsAsBoth read first second both → or_off_form (rows_of row_of x.fixed) (read first) ≡ Ok es
    → or_off_form (rows_of row_of x.fixed) (read both) ≡ rows_behind (option_map_or length (read first) 0) es (or_off_form (rows_of row_of (add_all x es).fixed) (read second))
form_joined row_of sound read x first second both es h is =
    ap (or_off_form (rows_of row_of x.fixed)) h.of_joined
    ∙ rows_joined row_of sound x h.front h.back es (ap (or_off_form (rows_of row_of x.fixed)) (sym h.of_first) ∙ is)
    ∙ (λ i. rows_behind (option_map_or length (sym h.of_first i) 0) es (or_off_form (rows_of row_of (add_all x es).fixed) (sym h.of_second i)))

form_at_fault : {A : Type 0} (row_of : FixedPart → A → Result Entry Cause) (read : List ℕ → Option (List A)) (f : FixedPart) (first second both : List ℕ) (refusal : Refusal)
    → ReadsAsBoth read first second both → or_off_form (rows_of row_of f) (read first) ≡ Err refusal → or_off_form (rows_of row_of f) (read both) ≡ Err refusal
form_at_fault row_of read f first second both refusal h is =
    ap (or_off_form (rows_of row_of f)) h.of_joined ∙ rows_at_fault row_of f h.front h.back refusal (ap (or_off_form (rows_of row_of f)) (sym h.of_first) ∙ is)

rows_join : (x : ContestState) (now : ℕ) (k : ImportKind) (first second both : List ℕ) (es : List Entry) → AreJoined k first second both → file_rows x now k first ≡ Ok es
    → file_rows x now k both ≡ rows_behind (records_in k first) es (file_rows (add_all x es) now k second)
rows_join x now (kind.Fixed (fixed.Settings s)) first second both es h is = form_joined (object_row s) (sound_object s) items_in x first second both es h is
rows_join x now (kind.Fixed fixed.TeamsCsv) first second both es h is = form_joined team_record sound_team_record (csv_records team_names) x first second both es h is
rows_join x now (kind.Fixed fixed.AccountsCsv) first second both es h is = form_joined account_record sound_account_record (csv_records account_names) x first second both es h is
rows_join x now kind.VerdictsCsv first second both es h is =
    ap (λ o. entries_if (verdicts_in x now o)) h.of_joined
    ∙ verdicts_joined x now h.front h.back es (ap (λ o. entries_if (verdicts_in x now o)) (sym h.of_first) ∙ is)
    ∙ (λ i. rows_behind (option_map_or length (sym h.of_first i) 0) es (entries_if (verdicts_in (add_all x es) now (sym h.of_second i))))

first_fault : (x : ContestState) (now : ℕ) (k : ImportKind) (first second both : List ℕ) (refusal : Refusal) → AreJoined k first second both → file_rows x now k first ≡ Err refusal → file_rows x now k both ≡ Err refusal
first_fault x now (kind.Fixed (fixed.Settings s)) first second both refusal h is = form_at_fault (object_row s) items_in x.fixed first second both refusal h is
first_fault x now (kind.Fixed fixed.TeamsCsv) first second both refusal h is = form_at_fault team_record (csv_records team_names) x.fixed first second both refusal h is
first_fault x now (kind.Fixed fixed.AccountsCsv) first second both refusal h is = form_at_fault account_record (csv_records account_names) x.fixed first second both refusal h is
first_fault x now kind.VerdictsCsv first second both refusal h is =
    ap (λ o. entries_if (verdicts_in x now o)) h.of_joined ∙ verdicts_at_fault x now h.front h.back refusal (ap (λ o. entries_if (verdicts_in x now o)) (sym h.of_first) ∙ is)

-- ---- what is taken of a file

abbrev closes : ContestState → (now : ℕ) → ImportKind → Bool
closes x now k = is_of_settings k && are_closed x now

record IsTaken (x : ContestState) (now : ℕ) (k : ImportKind) (file : List ℕ) (es : List Entry) : Type 0 where
  pub size : nat_lt IMPORTED_FILE (length file) ≡ false
  pub rows : file_rows x now k file ≡ Ok es
  pub may : closes x now k ≡ true → es ≡ []

open_rows : (closed : Bool) (r : Result (List Entry) Refusal) (es : List Entry) → unless_closed closed r ≡ Ok es → (r ≡ Ok es) × (closed ≡ true → es ≡ [])
open_rows closed (Err refusal) es h = absurd (cc h)
open_rows closed (Ok []) es h = (h, λ c. (let none : ◌≡◌ {A = List Entry} [] es = cc h in sym none))
open_rows true (Ok (row ∷ rows)) es h = absurd (cc h)
open_rows false (Ok (row ∷ rows)) es h = (h, λ c. absurd (false≢true c))

rows_open : (closed : Bool) (r : Result (List Entry) Refusal) (es : List Entry) → r ≡ Ok es → (closed ≡ true → es ≡ []) → unless_closed closed r ≡ Ok es
rows_open closed r [] is may = ap (unless_closed closed) is
rows_open true r (row ∷ rows) is may = absurd (cc (may refl))
rows_open false r (row ∷ rows) is may = ap (unless_closed false) is

taken : (x : ContestState) (now : ℕ) (k : ImportKind) (file : List ℕ) (es : List Entry) → imported x now k file ≡ Ok es → IsTaken x now k file es
taken x now k file es = go (nat_lt IMPORTED_FILE (length file)) refl
  where
    go : (b : Bool) → nat_lt IMPORTED_FILE (length file) ≡ b → (if b then Err BodyTooLarge else unless_closed (closes x now k) (file_rows x now k file)) ≡ Ok es → IsTaken x now k file es
    go true e h = absurd (cc h)
    go false e h = let r = open_rows (closes x now k) (file_rows x now k file) es h in record { size = e; rows = r.0; may = r.1 }

take : (x : ContestState) (now : ℕ) (k : ImportKind) (file : List ℕ) (es : List Entry) → IsTaken x now k file es → imported x now k file ≡ Ok es
take x now k file es t = ap (λ b. if b then Err BodyTooLarge else unless_closed (closes x now k) (file_rows x now k file)) t.size ∙ rows_open (closes x now k) (file_rows x now k file) es t.rows t.may

-- an import that is accepted
record IsAccepted (x : ContestState) (now : ℕ) (k : ImportKind) (file : List ℕ) (n : ℕ) (y : ContestState) : Type 0 where
  pub rows : List Entry
  pub is : imported x now k file ≡ Ok rows
  pub counted : count_by is_of_record rows ≡ n
  pub contest : y ≡ add_all x rows

accepted : (x : ContestState) (now : ℕ) (k : ImportKind) (file : List ℕ) (n : ℕ) (y : ContestState) → import_step x now k file ≡ (Ok n, y) → IsAccepted x now k file n y
accepted x now k file n y = go (imported x now k file) refl
  where
    go : (r : Result (List Entry) Refusal) → imported x now k file ≡ r → ◌≡◌ {A = Result ℕ Refusal × ContestState} (count_of r, add_all x (entries_of r)) (Ok n, y) → IsAccepted x now k file n y
    go (Err refusal) e h = absurd (let no : ◌≡◌ {A = Result ℕ Refusal} (Err refusal) (Ok n) = ap (λ p. p.0) h in cc no)
    go (Ok es) e h = (let same : ◌≡◌ {A = Result ℕ Refusal} (Ok (count_by is_of_record es)) (Ok n) = ap (λ p. p.0) h in record { rows = es; is = e; counted = cc same; contest = sym (ap (λ p. p.1) h) })

import_is : (x : ContestState) (now : ℕ) (k : ImportKind) (file : List ℕ) (r : Result (List Entry) Refusal) → imported x now k file ≡ r → import_step x now k file ≡ (count_of r, add_all x (entries_of r))
import_is x now k file r is = ap (λ q. (count_of q, add_all x (entries_of q))) is

-- rows of a file leave the settings as open or closed as they were
leaves : (now : ℕ) (z : ContestState) (e : Entry) → IsFileRow e → are_closed (add z e) now ≡ are_closed z now
leaves now z (NewType t) h = refl
leaves now z (NewLanguage l) h = refl
leaves now z (NewProblem p) h = refl
leaves now z (NewGroup g) h = refl
leaves now z (NewTeam t) h = refl
leaves now z (NewAccount a) h = refl
leaves now z (NewSubmission s) h = absurd h
leaves now z (NewProposal p) h = absurd h
leaves now z (NewRelease v) h = absurd h
leaves now z (NewClarification c) h = absurd h
leaves now z (NewRejudging r) h = absurd h
leaves now z (SetMember n place state) h = absurd h
leaves now z (SetRejudging n state) h = absurd h
leaves now z (SetStart start) h = absurd h
leaves now z (SetThaw thaw) h = absurd h
leaves now z (SetFinalized finalized) h = absurd h
leaves now z (SetDuration duration freeze) h = absurd h
leaves now z (SetTeamName team name) h = absurd h
leaves now z (SetDigest id digest) h = absurd h

closes_still : (x : ContestState) (now later : ℕ) (k : ImportKind) (file : List ℕ) (es : List Entry) → imported x now k file ≡ Ok es → closes (add_all x es) later k ≡ closes x later k
closes_still x now later kind.VerdictsCsv file es is = refl
closes_still x now later (kind.Fixed k) file es is =
    let row : (e : Entry) → Has es e → IsFileRow e = λ e h. item_adds_so x (item.Import (record { now = now; kind = kind.Fixed k; file = file })) e (subst (λ r. Has (entries_of r) e) (sym is) h) in
    ap (λ b. is_of_settings (kind.Fixed k) && b) (entries_keep (λ z. are_closed z later ≡ are_closed x later) es x (λ z e h same. leaves later z e (row e h) ∙ same) refl)

-- ---- at a later moment

-- what a file adds goes by the moment for verdicts alone
rows_later : (x : ContestState) (now later : ℕ) (k : ImportKind) (file : List ℕ) → Follows k now later → file_rows x later k file ≡ file_rows x now k file
rows_later x now later (kind.Fixed k) file h = refl
rows_later x now later kind.VerdictsCsv file h = ap (λ t. file_rows x t kind.VerdictsCsv file) h

-- settings that are closed stay so
reached_later : (start : Option ℕ) (now later : ℕ) → now ≤ later → reached start now ≡ true → reached start later ≡ true
reached_later None now later h e = e
reached_later (Some moment) now later h e = le-leb moment later (omega (arith, h, leb-true moment now e))

either_still : (p q r : Bool) → (p ≡ true → q ≡ true) → (p || r) ≡ true → (q || r) ≡ true
either_still true q r on e = ap (λ c. c || r) (on refl)
either_still false true r on e = refl
either_still false false r on e = e

closed_later : (x : ContestState) (now later : ℕ) → now ≤ later → are_closed x now ≡ true → are_closed x later ≡ true
closed_later x now later h = either_still (reached x.fixed.marks.start now) (reached x.fixed.marks.start later) (nat_lt 0 (length x.submissions)) (reached_later x.fixed.marks.start now later h)

closes_later : (x : ContestState) (now later : ℕ) (k : ImportKind) → Follows k now later → closes x now k ≡ true → closes x later k ≡ true
closes_later x now later (kind.Fixed (fixed.Settings s)) h e = closed_later x now later h e
closes_later x now later (kind.Fixed fixed.TeamsCsv) h e = closed_later x now later h e
closes_later x now later (kind.Fixed fixed.AccountsCsv) h e = e
closes_later x now later kind.VerdictsCsv h e = e

-- ---- accepted

added_both : (x : ContestState) (es fs : List Entry) → add_all x (es ++ fs) ≡ add_all (add_all x es) fs
added_both x [] fs = refl
added_both x (e ∷ es) fs = added_both (add x e) es fs

counted_both : (es fs : List Entry) → count_by is_of_record (es ++ fs) ≡ count_by is_of_record es + count_by is_of_record fs
counted_both es fs = sum_by-append (λ e. cond (is_of_record e) 1 0) es fs

pub imports_join : ImportsJoin
imports_join x y z now later k first second both n m follows h small one two =
    let a = accepted x now k first n y one in
    let es = a.rows in
    let w = add_all x es in
    let b = accepted w later k second m z (subst (λ c. import_step c later k second ≡ (Ok m, z)) a.contest two) in
    let fs = b.rows in
    let s = taken x now k first es a.is in
    let t = taken w later k second fs b.is in
    let is = take x now k both (es ++ fs) (record {
      size = le-ltb IMPORTED_FILE (length both) small;
      rows = rows_join x now k first second both es h s.rows ∙ ap (rows_behind (records_in k first) es) (sym (rows_later w now later k second follows) ∙ t.rows);
      may = λ c i. s.may c i ++ t.may (closes_still x now later k first es a.is ∙ closes_later x now later k follows c) i;
    }) in
    let counted : count_by is_of_record (es ++ fs) ≡ n + m = counted_both es fs ∙ (λ i. a.counted i + b.counted i) in
    let contest : add_all x (es ++ fs) ≡ z = added_both x es fs ∙ sym b.contest in
    import_is x now k both (Ok (es ++ fs)) is ∙ (λ i. (Ok (counted i), contest i))

none_of : {X : Type 0} (xs ys : List X) → xs ++ ys ≡ [] → (xs ≡ []) × (ys ≡ [])
none_of [] ys h = (refl, h)
none_of (x ∷ xs) ys h = absurd (cc h)

pub imports_part : ImportsPart
imports_part x z now k first second both total h few small done = go (file_rows x now k first) refl
  where
    j : IsAccepted x now k both total z
    j = accepted x now k both total z done

    t : IsTaken x now k both j.rows
    t = taken x now k both j.rows j.is

    parted : (es fs : List Entry) → file_rows x now k first ≡ Ok es → file_rows (add_all x es) now k second ≡ Ok fs → j.rows ≡ es ++ fs → AreAccepted x z now k first second total
    parted es fs one two same =
        let none : closes x now k ≡ true → (es ≡ []) × (fs ≡ []) = λ c. none_of es fs (sym same ∙ t.may c) in
        let first_is = take x now k first es (record { size = le-ltb IMPORTED_FILE (length first) few; rows = one; may = λ c. (none c).0 }) in
        let second_is = take (add_all x es) now k second fs (record { size = le-ltb IMPORTED_FILE (length second) small; rows = two; may = λ c. (none (sym (closes_still x now now k first es first_is) ∙ c)).1 }) in
        let contest : add_all (add_all x es) fs ≡ z = sym (added_both x es fs) ∙ ap (add_all x) (sym same) ∙ sym j.contest in
        record {
          between = add_all x es;
          n = count_by is_of_record es;
          m = count_by is_of_record fs;
          of_first = import_is x now k first (Ok es) first_is;
          of_second = import_is (add_all x es) now k second (Ok fs) second_is ∙ (λ i. (Ok (count_by is_of_record fs), contest i));
          both = sym (counted_both es fs) ∙ ap (count_by is_of_record) (sym same) ∙ j.counted;
        }

    after : (es : List Entry) → file_rows x now k first ≡ Ok es → (r : Result (List Entry) Refusal) → file_rows (add_all x es) now k second ≡ r → Ok j.rows ≡ rows_behind (records_in k first) es r → AreAccepted x z now k first second total
    after es one (Ok fs) two is = parted es fs one two (cc is)
    after es one (Err refusal) two is = absurd (cc is)

    go : (r : Result (List Entry) Refusal) → file_rows x now k first ≡ r → AreAccepted x z now k first second total
    go (Ok es) one = after es one (file_rows (add_all x es) now k second) refl (sym t.rows ∙ rows_join x now k first second both es h one)
    go (Err refusal) one = absurd (let no : ◌≡◌ {A = Result (List Entry) Refusal} (Ok j.rows) (Err refusal) = sym t.rows ∙ first_fault x now k first second both refusal h one in cc no)

-- ---- at fault

row_fault : (closed : Bool) (r : Result (List Entry) Refusal) (at : ℕ) (cause : Cause) → unless_closed closed r ≡ Err (ImportRow at cause) → r ≡ Err (ImportRow at cause)
row_fault closed (Err refusal) at cause h = h
row_fault closed (Ok []) at cause h = absurd (cc h)
row_fault true (Ok (row ∷ rows)) at cause h = absurd (cc h)
row_fault false (Ok (row ∷ rows)) at cause h = absurd (cc h)

-- a record at fault is at fault in what the file reads as
file_fault : (x : ContestState) (now : ℕ) (k : ImportKind) (file : List ℕ) (at : ℕ) (cause : Cause) → (import_step x now k file).0 ≡ Err (ImportRow at cause) → file_rows x now k file ≡ Err (ImportRow at cause)
file_fault x now k file at cause = go (nat_lt IMPORTED_FILE (length file))
  where
    refused : (r : Result (List Entry) Refusal) → count_of r ≡ Err (ImportRow at cause) → r ≡ Err (ImportRow at cause)
    refused (Ok es) h = absurd (cc h)
    refused (Err refusal) h = (let same : refusal ≡ ImportRow at cause = cc h in ap Err same)

    go : (b : Bool) → count_of (if b then Err BodyTooLarge else unless_closed (closes x now k) (file_rows x now k file)) ≡ Err (ImportRow at cause) → file_rows x now k file ≡ Err (ImportRow at cause)
    go true h = absurd (cc h)
    go false h = row_fault (closes x now k) (file_rows x now k file) at cause (refused (unless_closed (closes x now k) (file_rows x now k file)) h)

-- a file that isn't too large is refused for it
refused_for : (x : ContestState) (now : ℕ) (k : ImportKind) (file : List ℕ) (refusal : Refusal) → length file ≤ IMPORTED_FILE → file_rows x now k file ≡ Err refusal → import_step x now k file ≡ (Err refusal, x)
refused_for x now k file refusal small is =
    import_is x now k file (Err refusal)
    (ap (λ b. if b then Err BodyTooLarge else unless_closed (closes x now k) (file_rows x now k file)) (le-ltb IMPORTED_FILE (length file) small) ∙ ap (unless_closed (closes x now k)) is)

pub faults_join : FaultsJoin
faults_join = record {
  of_first = λ x now k first second both at cause h small one.
      refused_for x now k both (ImportRow at cause) small (first_fault x now k first second both (ImportRow at cause) h (file_fault x now k first at cause one));
  of_second = λ x y now later k first second both n at cause follows h small one two.
      let a = accepted x now k first n y one in
      let w = add_all x a.rows in
      let fault = sym (rows_later w now later k second follows) ∙ file_fault w later k second at cause (subst (λ c. (import_step c later k second).0 ≡ Err (ImportRow at cause)) a.contest two) in
      let rows = rows_join x now k first second both a.rows h (taken x now k first a.rows a.is).rows ∙ ap (rows_behind (records_in k first) a.rows) fault in
      refused_for x now k both (ImportRow (records_in k first + at) cause) small rows;
}
