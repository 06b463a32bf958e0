-- Every row that a contest writes is held by its table as it is given.
use Rattle.std.proofs.Common.{◌≡◌, ℕ, Bool, true, List, ◌∙◌, refl, ap, rules}
use Rattle.std.specs.Option.{option_map}
use Rattle.sqlite.specs.Rowids.TheVariants.{Chosen}
use Rattle.sqlite_rules.specs.Edit.{with_rowid}
use Rattle.sqlite_schema.specs.declared.schema.Table.{Table}
use Rattle.sqlite_value.specs.Order.{Row}
use Rattle.contest_types.specs.ProblemPlaces.{problem_id_at}
use Rattle.contest_types.specs.SettingsNames.{type_id_at}
use Rattle.contest_types.specs.Setup.{Setup}
use Rattle.contest_types.specs.State.{FixedPart}
use Rattle.contest_types.specs.declared.account.Account.{Account}
use Rattle.contest_types.specs.declared.clarification.Clarification.{Clarification}
use Rattle.contest_types.specs.declared.proposal.Proposal.{Proposal}
use Rattle.contest_types.specs.declared.rejudging.Member.{Member}
use Rattle.contest_types.specs.declared.rejudging.Rejudging.{Rejudging}
use Rattle.contest_types.specs.declared.submission.Release.{Release}
use Rattle.contest_types.specs.declared.submission.Submission.{Submission}
use Rattle.contest_store_rows.specs.FixedRows.{account_row, contest_row, desk_row, item_row, role_team}
use Rattle.contest_store_rows.specs.ListRows.{clarification_row, member_account, member_row, member_type, proposal_row, reference_id, rejudging_row, release_row, submission_row}
use Rattle.contest_store_rows.specs.declared.versions.TheConstants.{VERSION}
use Rattle.contest_store_tables.specs.Changes.{IsHeld}
use Rattle.contest_store_tables.specs.Schema.{form_of}
use Rattle.contest_store_tables.specs.Steps.{IsHeldAsGiven}
use Rattle.contest_store_tables.specs.Tables.{show}
use Rattle.contest_store_tables.specs.declared.table_name.TableName.TheVariants.{Desk, Contest, Items, Accounts, Submissions, Proposals, Releases, Rejudgings, Members, Notices}
use Rattle.contest_store_changes.proofs.CastLemmas.{cast_row_same, fits_number, fits_text, put_for, row_fits}

-- the cells of the row have the types of their columns
abbrev pub Fits : Table → Row → Type 0
Fits t row = row_fits t (put_for t row) ≡ true

submission_fits : (s : Setup) (n : ℕ) (x : Submission) → Fits (form_of Submissions) (submission_row s n x)
submission_fits s n x = search (rules, fits_text)

proposal_fits : (s : Setup) (n : ℕ) (p : Proposal) → Fits (form_of Proposals) (proposal_row s n p)
proposal_fits s n p = refl

release_fits : (s : Setup) (n : ℕ) (v : Release) → Fits (form_of Releases) (release_row s n v)
release_fits s n v = refl

clarification_fits : (s : Setup) (n : ℕ) (c : Clarification) → Fits (form_of Notices) (clarification_row s n c)
clarification_fits s n c = rw (fits_text (option_map (problem_id_at s.problems) c.problem), fits_text (option_map reference_id c.reply), fits_text c.key) refl

rejudging_fits : (n : ℕ) (r : Rejudging) → Fits (form_of Rejudgings) (rejudging_row n r)
rejudging_fits n r = refl

member_fits : (s : Setup) (n place : ℕ) (m : Member) → Fits (form_of Members) (member_row s n place m)
member_fits s n place m = rw (fits_text (option_map (type_id_at s) (member_type m.state)), fits_text (member_account m.state)) refl

account_fits : (s : Setup) (a : Account) → Fits (form_of Accounts) (account_row s a)
account_fits s a = rw (fits_text (role_team s a.role)) refl

item_fits : (kind n : ℕ) (id name label : List ℕ) (ordinal : ℕ) (flag_a flag_b : Bool) (group_ids : List ℕ) → Fits (form_of Items) (item_row kind n id name label ordinal flag_a flag_b group_ids)
item_fits kind n id name label ordinal flag_a flag_b group_ids = refl

pub desk_fits : Fits (form_of Desk) (desk_row VERSION)
desk_fits = refl

contest_fits : (f : FixedPart) → Fits (form_of Contest) (contest_row f)
contest_fits f = rw (fits_number f.settings.head.freeze, fits_number f.marks.start, fits_number f.marks.thaw, fits_number f.marks.finalized) refl

-- a new row is held as given where its cells fit
pub given : (t : Table) (row : Row) → Fits t row → ((rows : List Row) → show t (with_rowid Chosen rows (put_for t row)) ≡ row) → IsHeldAsGiven t row
given t row fit shown rows = ap (λ r. show t (with_rowid Chosen rows r)) (cast_row_same t (put_for t row) fit) ∙ shown rows

pub submission_given : (s : Setup) (n : ℕ) (x : Submission) → IsHeldAsGiven (form_of Submissions) (submission_row s n x)
submission_given s n x = given (form_of Submissions) (submission_row s n x) (submission_fits s n x) (λ rows. refl)

pub proposal_given : (s : Setup) (n : ℕ) (p : Proposal) → IsHeldAsGiven (form_of Proposals) (proposal_row s n p)
proposal_given s n p = given (form_of Proposals) (proposal_row s n p) (proposal_fits s n p) (λ rows. refl)

pub release_given : (s : Setup) (n : ℕ) (v : Release) → IsHeldAsGiven (form_of Releases) (release_row s n v)
release_given s n v = given (form_of Releases) (release_row s n v) (release_fits s n v) (λ rows. refl)

pub clarification_given : (s : Setup) (n : ℕ) (c : Clarification) → IsHeldAsGiven (form_of Notices) (clarification_row s n c)
clarification_given s n c = given (form_of Notices) (clarification_row s n c) (clarification_fits s n c) (λ rows. refl)

pub rejudging_given : (n : ℕ) (r : Rejudging) → IsHeldAsGiven (form_of Rejudgings) (rejudging_row n r)
rejudging_given n r = given (form_of Rejudgings) (rejudging_row n r) (rejudging_fits n r) (λ rows. refl)

pub member_given_row : (s : Setup) (n place : ℕ) (m : Member) → IsHeldAsGiven (form_of Members) (member_row s n place m)
member_given_row s n place m = given (form_of Members) (member_row s n place m) (member_fits s n place m) (λ rows. refl)

pub account_given : (s : Setup) (a : Account) → IsHeldAsGiven (form_of Accounts) (account_row s a)
account_given s a = given (form_of Accounts) (account_row s a) (account_fits s a) (λ rows. refl)

pub item_given : (kind n : ℕ) (id name label : List ℕ) (ordinal : ℕ) (flag_a flag_b : Bool) (group_ids : List ℕ) → IsHeldAsGiven (form_of Items) (item_row kind n id name label ordinal flag_a flag_b group_ids)
item_given kind n id name label ordinal flag_a flag_b group_ids = given (form_of Items) (item_row kind n id name label ordinal flag_a flag_b group_ids) (item_fits kind n id name label ordinal flag_a flag_b group_ids) (λ rows. refl)

pub desk_given : IsHeldAsGiven (form_of Desk) (desk_row VERSION)
desk_given = given (form_of Desk) (desk_row VERSION) desk_fits (λ rows. refl)

pub contest_given : (f : FixedPart) → IsHeldAsGiven (form_of Contest) (contest_row f)
contest_given f = given (form_of Contest) (contest_row f) (contest_fits f) (λ rows. refl)

-- and so is a row where it stands
pub held : (t : Table) (row : Row) → Fits t row → show t (put_for t row) ≡ row → IsHeld t row
held t row fit shown = ap (show t) (cast_row_same t (put_for t row) fit) ∙ shown

pub item_held : (kind n : ℕ) (id name label : List ℕ) (ordinal : ℕ) (flag_a flag_b : Bool) (group_ids : List ℕ) → IsHeld (form_of Items) (item_row kind n id name label ordinal flag_a flag_b group_ids)
item_held kind n id name label ordinal flag_a flag_b group_ids = held (form_of Items) (item_row kind n id name label ordinal flag_a flag_b group_ids) (item_fits kind n id name label ordinal flag_a flag_b group_ids) refl

pub account_held : (s : Setup) (a : Account) → IsHeld (form_of Accounts) (account_row s a)
account_held s a = held (form_of Accounts) (account_row s a) (account_fits s a) refl

pub rejudging_held : (n : ℕ) (r : Rejudging) → IsHeld (form_of Rejudgings) (rejudging_row n r)
rejudging_held n r = held (form_of Rejudgings) (rejudging_row n r) (rejudging_fits n r) refl

pub member_held : (s : Setup) (n place : ℕ) (m : Member) → IsHeld (form_of Members) (member_row s n place m)
member_held s n place m = held (form_of Members) (member_row s n place m) (member_fits s n place m) refl

pub contest_held : (f : FixedPart) → IsHeld (form_of Contest) (contest_row f)
contest_held f = held (form_of Contest) (contest_row f) (contest_fits f) refl
