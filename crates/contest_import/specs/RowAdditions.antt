-- The rows that a file adds: its records are judged in order, each against what stands and the records
-- before it (own).
use Rattle.std.specs.Prelude.{ℕ, ◌+◌, ◌++◌, ◌∷◌, [], List, Bool, Result, Ok, Err, if◌then◌else◌}
use Rattle.contest_types.specs.Accounts.{account_addition}
use Rattle.contest_types.specs.SetupAdditions.{type_addition, language_addition, problem_addition, group_addition, team_addition}
use Rattle.contest_types.specs.State.{FixedPart, ContestState, add}
use Rattle.contest_types.specs.declared.entry.Entry.{Entry}
use Rattle.contest_types.specs.declared.entry.Entry.TheVariants.{NewType, NewLanguage, NewProblem, NewGroup, NewTeam, NewAccount}
use Rattle.contest_types.specs.declared.refusal.Cause.{Cause}
use Rattle.contest_types.specs.declared.refusal.Cause.TheVariants as cause
use Rattle.contest_types.specs.declared.refusal.Refusal.{Refusal}
use Rattle.contest_types.specs.declared.refusal.Refusal.TheVariants.{ImportRow}

-- whether a row is added to what stands, or why it can't be: an equal one that stands adds nothing
abbrev pub row_addition : FixedPart → Entry → Result Bool Cause
row_addition f (NewType t) = type_addition f.settings t
row_addition f (NewLanguage l) = language_addition f.settings l
row_addition f (NewProblem p) = problem_addition f.settings p
row_addition f (NewGroup g) = group_addition f.settings g
row_addition f (NewTeam t) = team_addition f.settings t
row_addition f (NewAccount a) = account_addition f.settings f.accounts a
-- no file holds another change
row_addition f _ = Err cause.Malformed

-- a contest of these settings, accounts and marks, with no rows
abbrev pub bare : FixedPart → ContestState
bare f = record { fixed = f; submissions = []; proposals = []; releases = []; clarifications = []; rejudgings = [] }

-- what stands after one more row
abbrev pub with_row : FixedPart → Entry → FixedPart
with_row f row = (add (bare f) row).fixed

-- what was read of a file: what stands with it, and the rows that it adds
pub record Additions : Type 0 where
  pub fixed : FixedPart
  pub rows : List Entry

-- nothing was read yet
abbrev pub none_yet : FixedPart → Additions
none_yet f = record { fixed = f; rows = [] }

abbrev pub grown_by : Additions → Entry → (added : Bool) → Additions
grown_by a row added = if added then (record { fixed = with_row a.fixed row; rows = a.rows ++ row ∷ [] }) else a

abbrev pub after_addition : Additions → Entry → Result Bool Cause → Result Additions Cause
after_addition a row (Ok added) = Ok (grown_by a row added)
after_addition a row (Err c) = Err c

-- one more row
abbrev pub with_addition : Additions → Entry → Result Additions Cause
with_addition a row = after_addition a row (row_addition a.fixed row)

-- one more record: the row that it says, or its own fault
abbrev pub after_record : Additions → Result Entry Cause → Result Additions Cause
after_record a (Ok row) = with_addition a row
after_record a (Err c) = Err c

-- what follows a record, or that record's fault with its number
abbrev pub or_first_fault : (Additions → Result Additions (ℕ × Cause)) → ℕ → Result Additions Cause → Result Additions (ℕ × Cause)
or_first_fault more n (Ok a) = more a
or_first_fault more n (Err c) = Err (n, c)

-- what is added after records n, n + 1 and so on, or the first of them at fault
abbrev pub after_records : {A : Type 0} → (FixedPart → A → Result Entry Cause) → Additions → ℕ → List A → Result Additions (ℕ × Cause)
after_records row_of a n [] = Ok a
after_records row_of a n (r ∷ rs) = or_first_fault (λ b. after_records row_of b (n + 1) rs) n (after_record a (row_of a.fixed r))

abbrev pub rows_or_refusal : Result Additions (ℕ × Cause) → Result (List Entry) Refusal
rows_or_refusal (Ok a) = Ok a.rows
rows_or_refusal (Err fault) = Err (ImportRow fault.0 fault.1)

-- the rows that the records of a file add, or its first fault; they are numbered from 1
abbrev pub rows_of : {A : Type 0} → (FixedPart → A → Result Entry Cause) → FixedPart → List A → Result (List Entry) Refusal
rows_of row_of f records = rows_or_refusal (after_records row_of (none_yet f) 1 records)
