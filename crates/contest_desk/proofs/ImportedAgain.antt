-- A file that was imported adds nothing when it is imported again.
use Rattle.std.proofs.Common.{◌≡◌, ◌∙◌, ℕ, Bool, true, false, List, [], ◌∷◌, length, Result, Ok, Err, refl, sym, ap, subst}
use Rattle.std.specs.Prelude.{◌&&◌, nat_lt, if◌then◌else◌}
use Rattle.contest_types.specs.State.{ContestState, add_all}
use Rattle.contest_types.specs.declared.entry.Entry.{Entry}
use Rattle.contest_types.specs.declared.import_kind.ImportKind.{ImportKind}
use Rattle.contest_types.specs.declared.import_kind.ImportKind.TheVariants as kind
use Rattle.contest_types.specs.declared.limits.TheConstants.{IMPORTED_FILE}
use Rattle.contest_types.specs.declared.refusal.Refusal.{Refusal}
use Rattle.contest_types.specs.declared.refusal.Refusal.TheVariants.{BodyTooLarge}
use Rattle.contest_import.proofs.AgainLemmas.{rows_in_again}
use Rattle.contest_import_verdicts.proofs.AgainLemmas.{verdicts_add_nothing_again}
use Rattle.contest_desk.specs.Imports.{are_closed, count_of, entries_of, file_rows, import_step, imported, is_of_settings, unless_closed}
use Rattle.contest_desk.specs.Laws.{ImportedAgainAddsNothing}

-- rows that are added are those of the file
taken : (closed : Bool) (r : Result (List Entry) Refusal) (added : ℕ) → count_of (unless_closed closed r) ≡ Ok added → unless_closed closed r ≡ r
taken closed (Err refusal) added h = refl
taken closed (Ok []) added h = refl
taken true (Ok (row ∷ rows)) added h = absurd (cc h)
taken false (Ok (row ∷ rows)) added h = refl

rows_again : (x : ContestState) (now later : ℕ) (k : ImportKind) (file : List ℕ) (rows : List Entry) → file_rows x now k file ≡ Ok rows → file_rows (add_all x rows) later k file ≡ Ok []
rows_again x now later (kind.Fixed k) file rows is = rows_in_again k x file rows is
rows_again x now later kind.VerdictsCsv file rows is = verdicts_add_nothing_again x now later file rows is

-- to the contest that has them it adds nothing
adds_none : (x : ContestState) (now later : ℕ) (kind : ImportKind) (file : List ℕ) (rows : List Entry) → nat_lt IMPORTED_FILE (length file) ≡ false → file_rows x now kind file ≡ Ok rows
    → imported (add_all x rows) later kind file ≡ Ok []
adds_none x now later kind file rows small is =
    rw small (ap (unless_closed (is_of_settings kind && are_closed (add_all x rows) later)) (rows_again x now later kind file rows is))

abbrev Again : (x : ContestState) (later : ℕ) (kind : ImportKind) (file : List ℕ) → Result (List Entry) Refusal → Type 0
Again x later kind file o = import_step (add_all x (entries_of o)) later kind file ≡ (Ok 0, add_all x (entries_of o))

again : (x : ContestState) (now later : ℕ) (kind : ImportKind) (file : List ℕ) (o : Result (List Entry) Refusal) (added : ℕ) → nat_lt IMPORTED_FILE (length file) ≡ false → file_rows x now kind file ≡ o → count_of o ≡ Ok added
    → Again x later kind file o
again x now later kind file (Err refusal) added small is h = absurd (cc h)
again x now later kind file (Ok rows) added small is h =
    let y = add_all x rows in
    ap (λ (r : Result (List Entry) Refusal). (count_of r, add_all y (entries_of r))) (adds_none x now later kind file rows small is)

pub imported_again : ImportedAgainAddsNothing
imported_again x now later kind file added h =
    let r = file_rows x now kind file in
    let closed = is_of_settings kind && are_closed x now in
    let go : (b : Bool) → nat_lt IMPORTED_FILE (length file) ≡ b → count_of (if b then Err BodyTooLarge else unless_closed closed r) ≡ Ok added → Again x later kind file (if b then Err BodyTooLarge else unless_closed closed r) = elim [
      | true ↦ λ large k. absurd (cc k)
      | false ↦ λ small k. (let all : unless_closed closed r ≡ r = taken closed r added k in
          subst (Again x later kind file) (sym all) (again x now later kind file r added small refl (ap count_of (sym all) ∙ k)))
    ] in
    go (nat_lt IMPORTED_FILE (length file)) refl h
