-- A change of what stands is one changed row.
use Rattle.std.proofs.Common.{◌≡◌, ℕ, ◌+◌, true, List, [], ◌∷◌, refl, ap, sym}
use Rattle.std.specs.Prelude.{All, ◌&&◌, if◌then◌else◌}
use Rattle.std.proofs.Math.Path.{fun_ext}
use Rattle.std.proofs.lemmas.List.Elements.{All-append, All-cons, All-nil}
use Rattle.sqlite_value.specs.Order.{Row}
use Rattle.contest_types.specs.Setup.{Setup}
use Rattle.contest_types.specs.State.{ContestState, FixedPart, add, with_marks}
use Rattle.contest_types.specs.declared.entry.Entry.TheVariants.{SetMember, SetRejudging}
use Rattle.contest_types.specs.declared.marks.Marks.{Marks}
use Rattle.contest_types.specs.declared.rejudging.MemberState.{MemberState}
use Rattle.contest_types.specs.declared.rejudging.Rejudging.{Rejudging}
use Rattle.contest_types.specs.declared.rejudging.RejudgingState.{RejudgingState}
use Rattle.contest_store_rows.specs.FixedRows.{contest_row}
use Rattle.contest_store_rows.specs.ListRows.{member_row, rejudging_row}
use Rattle.contest_store_rows.proofs.ListLaws.{rows_from}
use Rattle.contest_store_rows.proofs.TableLaws.{state_is_one_cell}
use Rattle.contest_store_tables.specs.Changes.{IsHeld, change_row, changed_row}
use Rattle.contest_store_tables.specs.Schema.{form_of}
use Rattle.contest_store_tables.specs.Steps.{with_rows}
use Rattle.contest_store_tables.specs.declared.row_change.RowChange.TheVariants as row_change
use Rattle.contest_store_tables.specs.declared.table_name.TableName.{TableName}
use Rattle.contest_store_tables.specs.declared.table_name.TableName.TheVariants.{Desk, Contest, Items, Accounts, Submissions, Proposals, Releases, Rejudgings, Members, Clarifications, Cells, Notices}
use Rattle.contest_store_changes.specs.ContestTables.{list_rows}
use Rattle.contest_store_reading.specs.Heads.{marks_row}
use Rattle.contest_store_changes.specs.Laws.{MarksAreChanged, MemberIsChanged, RejudgingIsChanged}
use Rattle.contest_store_changes.proofs.HeldRows.{contest_held, member_held, rejudging_held}
use Rattle.contest_store_changes.proofs.RisingRows.{rises_but_accounts}
use Rattle.contest_store_changes.proofs.RowChanges.{members_are_changed, members_from, rejudgings_stay, states_changed}
use Rattle.contest_store_changes.proofs.SameNumbers.{same_number}

-- the rows of whole lists are held
pub rows_held : {X : Type 0} (P : Row → Type 0) (row : ℕ → X → Row) → ((n : ℕ) (x : X) → P (row n x)) → (n : ℕ) (xs : List X) → All P (rows_from row n xs)
rows_held P row each n [] = All-nil P
rows_held P row each n (x ∷ xs) = All-cons P (row n x) (rows_from row (n + 1) xs) (each n x) (rows_held P row each (n + 1) xs)

members_held : (s : Setup) (n : ℕ) (rs : List Rejudging) → All (IsHeld (form_of Members)) (members_from s n rs)
members_held s n [] = All-nil (IsHeld (form_of Members))
members_held s n (r ∷ rs) =
    All-append (IsHeld (form_of Members)) (rows_from (member_row s n) 1 r.members) (members_from s (n + 1) rs)
    (rows_held (IsHeld (form_of Members)) (member_row s n) (member_held s n) 1 r.members) (members_held s (n + 1) rs)

-- the only row of the contest has the number that is given
marks_changed : (f : FixedPart) (m : Marks) → contest_row (record f { marks = m }) ≡ change_row row_change.Marks (marks_row m) (contest_row f)
marks_changed f m = ap (λ b. if b && true then changed_row row_change.Marks (marks_row m) (contest_row f) else contest_row f) (sym (same_number 1 1))

-- of the marks only the table of the contest tells
marks_alone : (x : ContestState) (m : Marks) (name : TableName) → with_rows Contest (list_rows (with_marks x m) Contest) (list_rows x) name ≡ list_rows (with_marks x m) name
marks_alone x m Desk = refl
marks_alone x m Contest = refl
marks_alone x m Items = refl
marks_alone x m Accounts = refl
marks_alone x m Submissions = refl
marks_alone x m Proposals = refl
marks_alone x m Releases = refl
marks_alone x m Rejudgings = refl
marks_alone x m Members = refl
marks_alone x m Clarifications = refl
marks_alone x m Cells = refl
marks_alone x m Notices = refl

-- the marks are one changed row
pub marks_are_changed : MarksAreChanged
marks_are_changed x m = record {
  of_lists = refl;
  changed = record {
    is = ap (λ row. row ∷ []) (marks_changed x.fixed m);
    held = All-cons (IsHeld (form_of Contest)) (contest_row (with_marks x m).fixed) [] (contest_held (with_marks x m).fixed) (All-nil (IsHeld (form_of Contest)));
    rises = rises_but_accounts (with_marks x m) Contest (λ e. cc);
  };
  others = fun_ext (marks_alone x m);
}

-- of the state of a rejudging only the table of rejudgings tells
rejudging_alone : (x : ContestState) (n : ℕ) (st : RejudgingState) (name : TableName) →
    with_rows Rejudgings (list_rows (add x (SetRejudging n st)) Rejudgings) (list_rows x) name ≡ list_rows (add x (SetRejudging n st)) name
rejudging_alone x n st Desk = refl
rejudging_alone x n st Contest = refl
rejudging_alone x n st Items = refl
rejudging_alone x n st Accounts = refl
rejudging_alone x n st Submissions = refl
rejudging_alone x n st Proposals = refl
rejudging_alone x n st Releases = refl
rejudging_alone x n st Rejudgings = refl
rejudging_alone x n st Members = ap (λ t. t.members) (sym (state_is_one_cell x n st))
rejudging_alone x n st Clarifications = refl
rejudging_alone x n st Cells = refl
rejudging_alone x n st Notices = refl

-- the state of a rejudging is one changed row
pub rejudging_is_changed : RejudgingIsChanged
rejudging_is_changed x n st = record {
  of_lists = refl;
  changed = record {
    is = states_changed 1 n st x.rejudgings;
    held = rows_held (IsHeld (form_of Rejudgings)) rejudging_row rejudging_held 1 (add x (SetRejudging n st)).rejudgings;
    rises = rises_but_accounts (add x (SetRejudging n st)) Rejudgings (λ e. cc);
  };
  others = fun_ext (rejudging_alone x n st);
}

-- of the state of a member only the table of members tells
member_alone : (x : ContestState) (n place : ℕ) (st : MemberState) (name : TableName) →
    with_rows Members (list_rows (add x (SetMember n place st)) Members) (list_rows x) name ≡ list_rows (add x (SetMember n place st)) name
member_alone x n place st Desk = refl
member_alone x n place st Contest = refl
member_alone x n place st Items = refl
member_alone x n place st Accounts = refl
member_alone x n place st Submissions = refl
member_alone x n place st Proposals = refl
member_alone x n place st Releases = refl
member_alone x n place st Rejudgings = sym (rejudgings_stay x.fixed.settings n place st 1 x.rejudgings)
member_alone x n place st Members = refl
member_alone x n place st Clarifications = refl
member_alone x n place st Cells = refl
member_alone x n place st Notices = refl

-- the state of a member is one changed row
pub member_is_changed : MemberIsChanged
member_is_changed x n place st = record {
  of_lists = refl;
  changed = record {
    is = members_are_changed x.fixed.settings n place st 1 x.rejudgings;
    held = members_held x.fixed.settings 1 (add x (SetMember n place st)).rejudgings;
    rises = rises_but_accounts (add x (SetMember n place st)) Members (λ e. cc);
  };
  others = fun_ext (member_alone x n place st);
}
