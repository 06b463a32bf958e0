-- A list with one more element is one more row of one table.
use Rattle.std.proofs.Common.{◌≡◌, ◌∙◌, ◌+◌, List, [], ◌∷◌, ◌++◌, length, refl, ap, sym, append_assoc, append-nil}
use Rattle.sqlite_value.specs.Order.{Row}
use Rattle.contest_types.specs.State.{ContestState, add}
use Rattle.contest_types.specs.declared.entry.Entry.TheVariants.{NewSubmission, NewProposal, NewRelease, NewClarification, NewRejudging}
use Rattle.contest_types.specs.declared.rejudging.Member.{Member}
use Rattle.contest_types.specs.declared.rejudging.Rejudging.{Rejudging}
use Rattle.contest_store_rows.specs.ListRows.{clarification_row, member_row, members_rows, proposal_row, rejudging_row, release_row, submission_row}
use Rattle.contest_store_rows.specs.Tables.{Tables}
use Rattle.contest_store_rows.proofs.ListLaws.{one_more, rows_from}
use Rattle.contest_store_rows.proofs.TableLaws.{rejudging_is_its_rows}
use Rattle.contest_store_tables.specs.declared.table_name.TableName.TheVariants.{Submissions, Proposals, Releases, Rejudgings, Members, Notices}
use Rattle.contest_store_changes.specs.Laws.{ClarificationIsAdded, MemberIsAdded, ProposalIsAdded, RejudgingIsAdded, ReleaseIsAdded, SubmissionIsAdded, with_members}
use Rattle.contest_store_changes.proofs.HeldRows.{clarification_given, member_given_row, proposal_given, rejudging_given, release_given, submission_given}
use Rattle.contest_store_changes.proofs.OneMoreRow.{one_row_at_end, same_tables}
use Rattle.contest_store_changes.proofs.RisingRows.{rises_but_accounts}

pub submission_is_added : SubmissionIsAdded
submission_is_added x s sound =
    let n = length x.submissions + 1 in
    let y = add x (NewSubmission s) in
    one_row_at_end Submissions (submission_row x.fixed.settings n s) x y refl (submission_given x.fixed.settings n s) (one_more (submission_row x.fixed.settings) 1 x.submissions s) (rises_but_accounts y Submissions (λ e. cc))
    (same_tables _ _ refl refl refl refl refl refl refl refl refl refl refl refl)

pub proposal_is_added : ProposalIsAdded
proposal_is_added x p sound =
    let n = length x.proposals + 1 in
    let y = add x (NewProposal p) in
    one_row_at_end Proposals (proposal_row x.fixed.settings n p) x y refl (proposal_given x.fixed.settings n p) (one_more (proposal_row x.fixed.settings) 1 x.proposals p) (rises_but_accounts y Proposals (λ e. cc))
    (same_tables _ _ refl refl refl refl refl refl refl refl refl refl refl refl)

pub release_is_added : ReleaseIsAdded
release_is_added x v sound =
    let n = length x.releases + 1 in
    let y = add x (NewRelease v) in
    one_row_at_end Releases (release_row x.fixed.settings n v) x y refl (release_given x.fixed.settings n v) (one_more (release_row x.fixed.settings) 1 x.releases v) (rises_but_accounts y Releases (λ e. cc))
    (same_tables _ _ refl refl refl refl refl refl refl refl refl refl refl refl)

pub clarification_is_added : ClarificationIsAdded
clarification_is_added x c sound =
    let n = length x.clarifications + 1 in
    let y = add x (NewClarification c) in
    one_row_at_end Notices (clarification_row x.fixed.settings n c) x y refl (clarification_given x.fixed.settings n c) (one_more (clarification_row x.fixed.settings) 1 x.clarifications c)
    (rises_but_accounts y Notices (λ e. cc)) (same_tables _ _ refl refl refl refl refl refl refl refl refl refl refl refl)

-- the members of the rejudgings with one more
abbrev members_after : ContestState → Rejudging → List Row
members_after x r = members_rows x.fixed.settings (x.rejudgings ++ r ∷ [])

abbrev own_members : ContestState → List Member → List Row
own_members x members = rows_from (member_row x.fixed.settings (length x.rejudgings + 1)) 1 members

after_all : (x : ContestState) (r : Rejudging) → members_after x r ≡ members_rows x.fixed.settings x.rejudgings ++ own_members x r.members
after_all x r = ap (λ (t : Tables). t.members) (rejudging_is_its_rows x r)

no_members_yet : (x : ContestState) (r : Rejudging) → members_rows x.fixed.settings x.rejudgings ≡ members_after x (with_members r [])
no_members_yet x r = sym (after_all x (with_members r []) ∙ append-nil (members_rows x.fixed.settings x.rejudgings))

pub rejudging_is_added : RejudgingIsAdded
rejudging_is_added x r sound =
    let n = length x.rejudgings + 1 in
    let y = add x (NewRejudging (with_members r [])) in
    one_row_at_end Rejudgings (rejudging_row n r) x y refl (rejudging_given n r) (one_more rejudging_row 1 x.rejudgings (with_members r [])) (rises_but_accounts y Rejudgings (λ e. cc))
    (same_tables _ _ refl refl refl refl refl refl refl refl (no_members_yet x r) refl refl refl)

-- the row of a rejudging does not name its members
same_rejudgings : (x : ContestState) (r : Rejudging) (members more : List Member) → rows_from rejudging_row 1 (x.rejudgings ++ with_members r members ∷ []) ≡ rows_from rejudging_row 1 (x.rejudgings ++ with_members r more ∷ [])
same_rejudgings x r members more = one_more rejudging_row 1 x.rejudgings (with_members r members) ∙ sym (one_more rejudging_row 1 x.rejudgings (with_members r more))

last_member : (x : ContestState) (r : Rejudging) (members : List Member) (m : Member) →
    members_after x (with_members r (members ++ m ∷ [])) ≡ members_after x (with_members r members) ++ member_row x.fixed.settings (length x.rejudgings + 1) (length members + 1) m ∷ []
last_member x r members m =
    let before = members_rows x.fixed.settings x.rejudgings in
    let row = member_row x.fixed.settings (length x.rejudgings + 1) (length members + 1) m in
    after_all x (with_members r (members ++ m ∷ []))
    ∙ ap (λ rows. before ++ rows) (one_more (member_row x.fixed.settings (length x.rejudgings + 1)) 1 members m)
    ∙ sym (append_assoc before (own_members x members) (row ∷ []))
    ∙ ap (λ rows. rows ++ row ∷ []) (sym (after_all x (with_members r members)))

pub member_is_added : MemberIsAdded
member_is_added x r members m sound =
    let n = length x.rejudgings + 1 in
    let place = length members + 1 in
    let y = add x (NewRejudging (with_members r (members ++ m ∷ []))) in
    one_row_at_end Members (member_row x.fixed.settings n place m) (add x (NewRejudging (with_members r members))) y refl (member_given_row x.fixed.settings n place m) (last_member x r members m)
    (rises_but_accounts y Members (λ e. cc)) (same_tables _ _ refl refl refl refl refl refl refl (same_rejudgings x r members (members ++ m ∷ [])) refl refl refl refl)
