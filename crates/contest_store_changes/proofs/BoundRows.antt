-- Rows without real numbers are bound as they are lent.
use Rattle.std.proofs.Common.{◌≡◌, ◌∙◌, ℕ, Bool, List, [], ◌∷◌, map, Option, None, Some, refl, ap, rules}
use Rattle.std.specs.Option.{option_map}
use Rattle.sqlite.specs.Values.{bound, bound_value, or_null}
use Rattle.sqlite_value.specs.Order.{Row}
use Rattle.sqlite_value.specs.Value.{owned}
use Rattle.sqlite_value.specs.declared.value.Value.TheVariants.{Text}
use Rattle.sqlite_value.specs.declared.value.ValueRef.{ValueRef}
use Rattle.contest_types.specs.ProblemPlaces.{problem_id_at}
use Rattle.contest_types.specs.SettingsNames.{type_id_at}
use Rattle.contest_types.specs.Setup.{Setup}
use Rattle.contest_types.specs.State.{FixedPart}
use Rattle.contest_types.specs.declared.account.Account.{Account}
use Rattle.contest_types.specs.declared.clarification.Clarification.{Clarification}
use Rattle.contest_types.specs.declared.marks.Marks.{Marks}
use Rattle.contest_types.specs.declared.proposal.Proposal.{Proposal}
use Rattle.contest_types.specs.declared.rejudging.Member.{Member}
use Rattle.contest_types.specs.declared.rejudging.MemberState.{MemberState}
use Rattle.contest_types.specs.declared.rejudging.Rejudging.{Rejudging}
use Rattle.contest_types.specs.declared.rejudging.RejudgingState.{RejudgingState}
use Rattle.contest_types.specs.declared.submission.Release.{Release}
use Rattle.contest_types.specs.declared.submission.Submission.{Submission}
use Rattle.contest_types.specs.declared.minute.Minute.{Minute}
use Rattle.contest_types.specs.declared.sight.Mask.{Mask}
use Rattle.contest_score.specs.declared.cell.Cell.{Cell}
use Rattle.contest_store_cells.specs.CellRows.{cell_row}
use Rattle.contest_store_rows.specs.Cells.{lent, number}
use Rattle.contest_store_rows.specs.FixedRows.{account_row, contest_row, desk_row, item_row, role_team}
use Rattle.contest_store_rows.specs.ListRows.{clarification_row, member_account, member_row, member_type, proposal_row, reference_id, rejudging_row, release_row, submission_row}
use Rattle.contest_store_rows.specs.declared.versions.TheConstants.{VERSION}
use Rattle.contest_store_reading.specs.AccountRows.{digest_row}
use Rattle.contest_store_reading.specs.Heads.{duration_row, marks_row}
use Rattle.contest_store_reading.specs.Items.{team_name_row}
use Rattle.contest_store_changes.specs.Laws.{member_state_given, state_given}

abbrev pub Unreal : Row → Type 0
Unreal row = map bound_value row ≡ row

bound_lent : (cells : List ValueRef) → bound cells ≡ map bound_value (lent cells)
bound_lent [] = refl
bound_lent (v ∷ vs) = ap (λ row. bound_value (owned v) ∷ row) (bound_lent vs)

pub bound_as : (cells : List ValueRef) (row : Row) → Unreal row → lent cells ≡ row → bound cells ≡ row
bound_as cells row unreal is = bound_lent cells ∙ ap (map bound_value) is ∙ unreal

text : (o : Option (List ℕ)) → bound_value (or_null Text o) ≡ or_null Text o
text None = refl
text (Some t) = refl

moment : (o : Option ℕ) → bound_value (or_null number o) ≡ or_null number o
moment None = refl
moment (Some n) = refl

-- the rows of each list
pub submission_unreal : (s : Setup) (n : ℕ) (x : Submission) → Unreal (submission_row s n x)
submission_unreal s n x = search (rules, text)

pub proposal_unreal : (s : Setup) (n : ℕ) (p : Proposal) → Unreal (proposal_row s n p)
proposal_unreal s n p = refl

pub release_unreal : (s : Setup) (n : ℕ) (v : Release) → Unreal (release_row s n v)
release_unreal s n v = refl

pub clarification_unreal : (s : Setup) (n : ℕ) (c : Clarification) → Unreal (clarification_row s n c)
clarification_unreal s n c = rw (text (option_map (problem_id_at s.problems) c.problem), text (option_map reference_id c.reply), text c.key) refl

pub rejudging_unreal : (n : ℕ) (r : Rejudging) → Unreal (rejudging_row n r)
rejudging_unreal n r = refl

pub member_unreal : (s : Setup) (n place : ℕ) (m : Member) → Unreal (member_row s n place m)
member_unreal s n place m = rw (text (option_map (type_id_at s) (member_type m.state)), text (member_account m.state)) refl

-- of settings and accounts
pub item_unreal : (kind n : ℕ) (id name label : List ℕ) (ordinal : ℕ) (flag_a flag_b : Bool) (group_ids : List ℕ) → Unreal (item_row kind n id name label ordinal flag_a flag_b group_ids)
item_unreal kind n id name label ordinal flag_a flag_b group_ids = refl

pub account_unreal : (s : Setup) (a : Account) → Unreal (account_row s a)
account_unreal s a = rw (text (role_team s a.role)) refl

-- of what is set up
pub desk_unreal : Unreal (desk_row VERSION)
desk_unreal = refl

pub contest_unreal : (f : FixedPart) → Unreal (contest_row f)
contest_unreal f = rw (moment f.settings.head.freeze, moment f.marks.start, moment f.marks.thaw, moment f.marks.finalized) refl

-- of the cells
pub cell_unreal : (s : Setup) (mask : Mask) (team problem : ℕ) (c : Cell) → Unreal (cell_row s mask team problem c)
cell_unreal s mask team problem c = rw (moment (option_map (λ (m : Minute). m.0) c.solved)) refl

-- and what changes of rows are given
pub marks_unreal : (m : Marks) → Unreal (marks_row m)
marks_unreal m = rw (moment m.start, moment m.thaw, moment m.finalized) refl

pub duration_unreal : (duration : ℕ) (freeze : Option ℕ) → Unreal (duration_row duration freeze)
duration_unreal duration freeze = rw (moment freeze) refl

pub team_name_unreal : (n : ℕ) (name : List ℕ) → Unreal (team_name_row n name)
team_name_unreal n name = refl

pub digest_unreal : (id digest : List ℕ) → Unreal (digest_row id digest)
digest_unreal id digest = refl

pub state_given_unreal : (n : ℕ) (state : RejudgingState) → Unreal (state_given n state)
state_given_unreal n state = refl

pub member_state_given_unreal : (s : Setup) (n place : ℕ) (state : MemberState) → Unreal (member_state_given s n place state)
member_state_given_unreal s n place state = rw (text (option_map (type_id_at s) (member_type state)), text (member_account state)) refl
