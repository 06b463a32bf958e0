-- What a change of a contest makes of the rows of its tables.
use Rattle.std.proofs.Common.{◌≡◌, ◌∙◌, ℕ, ◌+◌, Bool, true, false, List, [], ◌∷◌, ◌++◌, length, refl, ap, sym, append_assoc, append-nil, arith}
use Rattle.std.specs.Prelude.{◌==◌, slice_set, if◌then◌else◌}
use Rattle.std.specs.List.{enumerate_from, flat_map}
use Rattle.sqlite_value.specs.Order.{Row}
use Rattle.contest_types.specs.Setup.{Setup}
use Rattle.contest_types.specs.State.{changed_at}
use Rattle.contest_types.specs.declared.rejudging.Rejudging.{Rejudging}
use Rattle.contest_types.specs.declared.rejudging.RejudgingState.{RejudgingState}
use Rattle.contest_store_rows.specs.Cells.{number}
use Rattle.contest_store_rows.specs.ListRows.{clarification_row, member_row, proposal_row, rejudging_row, release_row, state_number, submission_row}
use Rattle.contest_store_rows.specs.Tables.{rows_of, SubmissionIsOneRow, ProposalIsOneRow, ReleaseIsOneRow, ClarificationIsOneRow, RejudgingIsItsRows, StateIsOneCell, StartIsOneCell, ThawIsOneCell, FinalizedIsOneCell}
use Rattle.contest_store_rows.proofs.ListLaws.{one_more, rows_from}

pub submission_is_one_row : SubmissionIsOneRow
submission_is_one_row x s = ap (λ rows. record (rows_of x) { submissions = rows }) (one_more (submission_row x.fixed.settings) 1 x.submissions s)

pub proposal_is_one_row : ProposalIsOneRow
proposal_is_one_row x p = ap (λ rows. record (rows_of x) { proposals = rows }) (one_more (proposal_row x.fixed.settings) 1 x.proposals p)

pub release_is_one_row : ReleaseIsOneRow
release_is_one_row x v = ap (λ rows. record (rows_of x) { releases = rows }) (one_more (release_row x.fixed.settings) 1 x.releases v)

pub clarification_is_one_row : ClarificationIsOneRow
clarification_is_one_row x c = ap (λ rows. record (rows_of x) { notices = rows }) (one_more (clarification_row x.fixed.settings) 1 x.clarifications c)

abbrev members_from : Setup → ℕ → List Rejudging → List Row
members_from s n rs = flat_map (λ r. rows_from (member_row s r.0) 1 (r.1).members) (enumerate_from n rs)

more_members : (s : Setup) (n : ℕ) (rs : List Rejudging) (r : Rejudging) → members_from s n (rs ++ r ∷ []) ≡ members_from s n rs ++ rows_from (member_row s (length rs + n)) 1 r.members
more_members s n [] r =
    let first : 0 + n ≡ n = omega arith in
    rw first (append-nil (rows_from (member_row s n) 1 r.members))
more_members s n (q ∷ qs) r =
    let own = rows_from (member_row s n) 1 q.members in
    let count : length qs + (n + 1) ≡ length (q ∷ qs) + n = omega arith in
    ap (λ rows. own ++ rows) (more_members s (n + 1) qs r ∙ ap (λ m. members_from s (n + 1) qs ++ rows_from (member_row s m) 1 r.members) count)
    ∙ sym (append_assoc own (members_from s (n + 1) qs) (rows_from (member_row s (length (q ∷ qs) + n)) 1 r.members))

pub rejudging_is_its_rows : RejudgingIsItsRows
rejudging_is_its_rows x r =
    ap (λ rows. record (rows_of x) { rejudgings = rows; members = members_from x.fixed.settings 1 (x.rejudgings ++ r ∷ []) }) (one_more rejudging_row 1 x.rejudgings r)
    ∙ ap (λ rows. record (rows_of x) { rejudgings = (rows_of x).rejudgings ++ rejudging_row (length x.rejudgings + 1) r ∷ []; members = rows }) (more_members x.fixed.settings 1 x.rejudgings r)

abbrev in_state : RejudgingState → Rejudging → Rejudging
in_state st r = record r { state = st }

abbrev state_cell : RejudgingState → Row → Row
state_cell st cells = slice_set cells 2 (number (state_number st))

one_state : (n : ℕ) (st : RejudgingState) (r : Rejudging) (b : Bool) → rejudging_row n (if b then in_state st r else r) ≡ (if b then state_cell st (rejudging_row n r) else rejudging_row n r)
one_state n st r true = refl
one_state n st r false = refl

same_members : (st : RejudgingState) (r : Rejudging) (b : Bool) → (if b then in_state st r else r).members ≡ r.members
same_members st r true = refl
same_members st r false = refl

states : (first at : ℕ) (st : RejudgingState) (rs : List Rejudging) → rows_from rejudging_row first (changed_at first at (in_state st) rs) ≡ changed_at first at (state_cell st) (rows_from rejudging_row first rs)
states first at st [] = refl
states first at st (r ∷ rs) = rw (one_state first st r (first == at), states (first + 1) at st rs) refl

no_members : (s : Setup) (n at : ℕ) (st : RejudgingState) (rs : List Rejudging) → members_from s n (changed_at n at (in_state st) rs) ≡ members_from s n rs
no_members s n at st [] = refl
no_members s n at st (r ∷ rs) = rw (same_members st r (n == at), no_members s (n + 1) at st rs) refl

pub state_is_one_cell : StateIsOneCell
state_is_one_cell x n st =
    ap (λ rows. record (rows_of x) { rejudgings = rows; members = members_from x.fixed.settings 1 (changed_at 1 n (in_state st) x.rejudgings) }) (states 1 n st x.rejudgings)
    ∙ ap (λ rows. record (rows_of x) { rejudgings = changed_at 1 n (state_cell st) (rows_of x).rejudgings; members = rows }) (no_members x.fixed.settings 1 n st x.rejudgings)

pub start_is_one_cell : StartIsOneCell
start_is_one_cell x start = refl

pub thaw_is_one_cell : ThawIsOneCell
thaw_is_one_cell x thaw = refl

pub finalized_is_one_cell : FinalizedIsOneCell
finalized_is_one_cell x finalized = refl
