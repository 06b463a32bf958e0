-- The rows that a look for a file gives, and the file.
use Rattle.std.proofs.Common.{◌≡◌, ◌∙◌, ◌≤◌, ◌<◌, ◌+◌, ℕ, zero, suc, Bool, true, false, List, [], ◌∷◌, length, map, filter, Option, Some, None, refl, sym, ap, subst, arith}
use Rattle.std.specs.Prelude.{◌==◌, ◌&&◌, All, IsPermutation, find, slice_get, if◌then◌else◌}
use Rattle.std.specs.Option.{option_map}
use Rattle.std.proofs.lemmas.List.{length-map, nil_from_length}
use Rattle.std.proofs.lemmas.List.Sorted.{All-permutation, length_permutation}
use Rattle.sqlite_value.specs.Order.{Row, column}
use Rattle.sqlite_value.specs.declared.value.Value.TheVariants.{Blob}
use Rattle.contest_types.specs.Loads.{file_of}
use Rattle.contest_types.specs.Setup.{Setup}
use Rattle.contest_types.specs.State.{ContestState, names, of_submission}
use Rattle.contest_types.specs.declared.limits.TheConstants.{TEAM_SUBMISSIONS, TEAMS}
use Rattle.contest_types.specs.declared.submission.Submission.{Submission}
use Rattle.contest_store_rows.specs.Cells.{number}
use Rattle.contest_store_rows.specs.ListRows.{submission_row}
use Rattle.contest_store_rows.proofs.ListLaws.{rows_from}
use Rattle.contest_store_tables.specs.Statements.{files_of, is_submission}
use Rattle.contest_store_tables.specs.declared.table_name.TableName.TheVariants.{Submissions}
use Rattle.contest_store_changes.specs.ContestTables.{bytes_of, table_rows}
use Rattle.contest_store_changes.specs.Sound.{IsSound}
use Rattle.contest_store_changes.proofs.SameNumbers.{same_after, same_number}
use Rattle.contest_store_changes.proofs.OwnNumbers.{named_by, none_numbered, none_teamed, one_named}
use Rattle.contest_store_changes.proofs.Writable.{writable}

-- the row of one column
abbrev file_row : Submission → Row
file_row s = Blob s.file ∷ []

ends_true : (a b : Bool) → (a && (b && true)) ≡ (a && b)
ends_true a true = refl
ends_true a false = refl

-- SQL finds the submission that has the team and the number
is_named : (s : Setup) (team n place : ℕ) (x : Submission) → is_submission (number (team + 1)) (number n) (submission_row s place x) ≡ names team n (of_submission x)
is_named s team n place x = rw (same_number (x.team + 1) (team + 1), same_after x.team team, same_number x.number n) (ends_true (x.team == team) (x.number == n))

files_from : (s : Setup) (team n place : ℕ) (xs : List Submission)
    → files_of (number (team + 1)) (number n) (rows_from (submission_row s) place xs) ≡ map file_row (named_by team n xs)
files_from s team n place [] = refl
files_from s team n place (x ∷ xs) =
    let rest = files_from s team n (place + 1) xs in
    let all = rows_from (submission_row s) (place + 1) xs in
    let is = is_submission (number (team + 1)) (number n) in
    let go : (b : Bool) → map (λ r. column r 7 ∷ []) (if b then submission_row s place x ∷ filter is all else filter is all)
    ≡ map file_row (if b then x ∷ named_by team n xs else named_by team n xs) =
    elim [ true ↦ ap (λ rows. file_row x ∷ rows) rest | false ↦ rest ] in
    rw (is_named s team n place x) (go (names team n (of_submission x)))

one_row : {X : Type 0} (x : X) (ys : List X) → length ys ≡ 1 → All (λ y. y ≡ x) ys → ys ≡ x ∷ []
one_row x [] e all = absurd (omega (arith, e))
one_row x (y ∷ []) e all = ap (λ z. z ∷ []) (all 0 y (omega arith))
one_row x (y ∷ z ∷ ys) e all = absurd (omega (arith, e))

itself : {X : Type 0} (x : X) → All (λ y. y ≡ x) (x ∷ [])
itself x zero d l = refl
itself x (suc i) d l = absurd (omega (arith, l))

-- one row at most is the same list in any order
same_list : {X : Type 0} (xs ys : List X) → length xs ≤ 1 → IsPermutation xs ys → ys ≡ xs
same_list [] ys few p = nil_from_length ys (length_permutation [] ys p)
same_list (x ∷ []) ys few p = one_row x ys (length_permutation (x ∷ []) ys p) (All-permutation (λ y. y ≡ x) (x ∷ []) ys p (itself x))
same_list (x ∷ y ∷ xs) ys few p = absurd (omega (arith, few))

-- the first of those that are found
first_found : {X Y : Type 0} (f : X → Y) (p : X → Bool) (xs : List X) → slice_get (map f (filter p xs)) 0 ≡ option_map f (find p xs)
first_found f p [] = refl
first_found f p (x ∷ xs) =
    let go : (b : Bool) → slice_get (map f (if b then x ∷ filter p xs else filter p xs)) 0 ≡ option_map f (if b then Some x else find p xs) =
    elim [ true ↦ refl | false ↦ first_found f p xs ] in
    go (p x)

bytes_back : (o : Option Submission) → option_map (λ r. bytes_of (column r 0)) (option_map file_row o) ≡ option_map (λ (s : Submission). s.file) o
bytes_back None = refl
bytes_back (Some s) = refl

first_bytes : (team n : ℕ) (xs : List Submission) → option_map (λ r. bytes_of (column r 0)) (slice_get (map file_row (named_by team n xs)) 0)
    ≡ option_map (λ (s : Submission). s.file) (find (λ (s : Submission). names team n (of_submission s)) xs)
first_bytes team n xs = ap (option_map (λ r. bytes_of (column r 0))) (first_found file_row (λ (s : Submission). names team n (of_submission s)) xs) ∙ bytes_back _

-- the first row that was found has the file
pub found_file : (x : ContestState) (team n : ℕ) (loaded : List Row) → IsSound x → IsPermutation (files_of (number (team + 1)) (number n) (table_rows x Submissions)) loaded
    → option_map (λ r. bytes_of (column r 0)) (slice_get loaded 0) ≡ file_of x team n
found_file x team n loaded sound p =
    let own = named_by team n x.submissions in
    let found = subst (λ l. IsPermutation l loaded) (files_from x.fixed.settings team n 1 x.submissions) p in
    let few : length (map file_row own) ≤ 1 = omega (arith, length-map own file_row, one_named x team n sound.valid) in
    ap (λ l. option_map (λ r. bytes_of (column r 0)) (slice_get l 0)) (same_list (map file_row own) loaded few found) ∙ first_bytes team n x.submissions

-- a submission that isn't there has none
no_file : (x : ContestState) (team n : ℕ) → named_by team n x.submissions ≡ [] → file_of x team n ≡ None
no_file x team n none = sym (first_bytes team n x.submissions) ∙ ap (λ l. option_map (λ r. bytes_of (column r 0)) (slice_get (map file_row l) 0)) none

pub no_such_team : (x : ContestState) (team n : ℕ) → IsSound x → TEAMS ≤ team → file_of x team n ≡ None
no_such_team x team n sound beyond = no_file x team n (none_teamed x team n sound.valid (writable x sound).valid.few_teams beyond)

pub no_such_number : (x : ContestState) (team n : ℕ) → IsSound x → TEAM_SUBMISSIONS < n → file_of x team n ≡ None
no_such_number x team n sound beyond = no_file x team n (none_numbered x team n sound.valid beyond)
