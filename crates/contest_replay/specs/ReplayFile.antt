-- What a replay file says: its records, judged in order, each against the ones before it.
use Rattle.std.specs.Prelude.{ℕ, ◌+◌, ◌||◌, ◌&&◌, Bool, true, false, List, [], ◌∷◌, Option, Some, None, Result, Ok, Err, if◌then◌else◌, codes}
use Rattle.std.specs.Str.{bytes_eq}
use Rattle.csv.specs.Reading.{default_config, strip_bom, records}
use Rattle.contest_types.specs.declared.refusal.Refusal.{Refusal}
use Rattle.contest_types.specs.declared.refusal.Refusal.TheVariants.{Malformed, ImportRow}
use Rattle.contest_types.specs.declared.refusal.Cause.{Cause}
use Rattle.contest_types.specs.declared.refusal.Cause.TheVariants as cause
use Rattle.contest_files.specs.FieldTexts.{Text}
use Rattle.contest_replay.specs.ReplayRecord.{FiveFields, five_of}
use Rattle.contest_replay.specs.ReplayLists.{ReplayLists, Judged, lists_after}

-- a record that can't be read is off its form
abbrev pub lists_after_row : Option ReplayLists → Option FiveFields → Judged
lists_after_row so_far None = Err cause.Malformed
lists_after_row so_far (Some fields) = lists_after so_far fields

-- what follows a record, or that record's fault with its number
abbrev pub or_first_fault : (Option ReplayLists → Result (Option ReplayLists) (ℕ × Cause)) → ℕ → Judged → Result (Option ReplayLists) (ℕ × Cause)
or_first_fault more n (Ok r) = more (Some r)
or_first_fault more n (Err c) = Err (n, c)

-- the contest after records n, n + 1 and so on, or the first of them at fault
abbrev pub lists_after_all : Option ReplayLists → ℕ → List (List Text) → Result (Option ReplayLists) (ℕ × Cause)
lists_after_all so_far n [] = Ok so_far
lists_after_all so_far n (row ∷ rows) = or_first_fault (λ r. lists_after_all r (n + 1) rows) n (lists_after_row so_far (five_of row))

-- a record that can be read, whose first field is `contest`
abbrev pub names_contest_by : Option FiveFields → Bool
names_contest_by None = false
names_contest_by (Some fields) = bytes_eq fields.kind (codes "contest")

abbrev pub names_contest : List Text → Bool
names_contest row = names_contest_by (five_of row)

abbrev pub any_names_contest : List (List Text) → Bool
any_names_contest [] = false
any_names_contest (row ∷ rows) = names_contest row || any_names_contest rows

-- the contest, or the refusal of the first record at fault
abbrev pub as_refusal : Result (Option ReplayLists) (ℕ × Cause) → Result ReplayLists Refusal
as_refusal (Ok None) = Err Malformed
as_refusal (Ok (Some r)) = Ok r
as_refusal (Err fault) = Err (ImportRow fault.0 fault.1)

-- a file without a contest record is off its form, else its first fault is told
abbrev pub contest_under : List (List Text) → Result ReplayLists Refusal
contest_under rows = if any_names_contest rows then as_refusal (lists_after_all None 1 rows) else Err Malformed

-- the header is `kind,id,f1,f2,f3`
abbrev pub is_header_text : FiveFields → Bool
is_header_text f =
    bytes_eq f.kind (codes "kind") && bytes_eq f.id (codes "id") && bytes_eq f.f1 (codes "f1") && bytes_eq f.f2 (codes "f2") && bytes_eq f.f3 (codes "f3")

abbrev pub is_header_by : Option FiveFields → Bool
is_header_by None = false
is_header_by (Some f) = is_header_text f

abbrev pub is_header : List Text → Bool
is_header row = is_header_by (five_of row)

-- the contest of a file of these records, or why it is refused; the header is no record
abbrev pub contest_of_records : List (List Text) → Result ReplayLists Refusal
contest_of_records [] = Err Malformed
contest_of_records (header ∷ rows) = if is_header header then contest_under rows else Err Malformed

-- the contest of a file's bytes, or why it is refused
abbrev pub contest_in_file : List ℕ → Result ReplayLists Refusal
contest_in_file bytes = contest_of_records (records default_config (strip_bom bytes))

-- Words of private functions, from here on: nothing public is said with them.

-- what reading comes to, from what was read so far and the records still to come
abbrev pub result_after : Option ReplayLists → Option (ℕ × Cause) → ℕ → List (List Text) → Result (Option ReplayLists) (ℕ × Cause)
result_after so_far None n rows = lists_after_all so_far n rows
result_after so_far (Some fault) n rows = Err fault

abbrev pub result_from : Option ReplayLists → Option (ℕ × Cause) → (named : Bool) → ℕ → List (List Text) → Result ReplayLists Refusal
result_from so_far fault named n rows = if named || any_names_contest rows then as_refusal (result_after so_far fault n rows) else Err Malformed

-- what is kept of a record that is taken
abbrev pub as_some : Judged → Result (Option ReplayLists) Cause
as_some (Ok r) = Ok (Some r)
as_some (Err c) = Err c

-- what a file comes to where this was read of it
abbrev pub ended : {A : Type 0} → (named : Bool) → Option (ℕ × Cause) → Option A → Result A Refusal
ended false fault so_far = Err Malformed
ended true (Some fault) so_far = Err (ImportRow fault.0 fault.1)
ended true None None = Err Malformed
ended true None (Some r) = Ok r
