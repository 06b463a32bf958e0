-- The rows of each table of a contest rise by its key.
use Rattle.std.proofs.Common.{◌≡◌, ℕ, ◌+◌, List, [], ◌∷◌, drop, map, refl, Less, Equal}
use Rattle.std.specs.Prelude.{IsTrue}
use Rattle.std.specs.List.{enumerate_from, flat_map}
use Rattle.sqlite_keyed.proofs.ListLemmas.{ascending-map, ascending_weaker}
use Rattle.sqlite_trees.specs.Tree.{IsAscending}
use Rattle.sqlite_value.specs.Order.{Row}
use Rattle.contest_types.specs.Accounts.{comes_before}
use Rattle.contest_types.specs.Setup.{Setup}
use Rattle.contest_types.specs.State.{ContestState}
use Rattle.contest_types.specs.declared.account.Account.{Account}
use Rattle.contest_types.specs.declared.rejudging.Rejudging.{Rejudging}
use Rattle.contest_store_rows.specs.FixedRows.{account_row, group_row, items_rows, language_row, problem_row, team_row, type_row}
use Rattle.contest_store_rows.specs.ListRows.{clarification_row, member_row, proposal_row, rejudging_row, release_row, submission_row}
use Rattle.contest_store_rows.proofs.ListLaws.{rows_from}
use Rattle.contest_store_tables.specs.Schema.{form_of}
use Rattle.contest_store_tables.specs.Steps.{Rises}
use Rattle.contest_store_tables.specs.Tables.{by_key}
use Rattle.contest_store_tables.specs.declared.table_name.TableName.{TableName}
use Rattle.contest_store_tables.specs.declared.table_name.TableName.TheVariants.{Desk, Contest, Items, Accounts, Submissions, Proposals, Releases, Rejudgings, Members, Clarifications, Cells, Notices}
use Rattle.contest_store_changes.specs.ContestTables.{list_rows}
use Rattle.contest_store_changes.proofs.RisingLists.{RiseFrom, lower_number, lower_text, next_group, no_group, one_group, rows_rise}

-- one comes below the other by the key of the table
abbrev pub BelowIn : TableName → Row → Row → Type 0
BelowIn name a b = by_key (form_of name) a b ≡ Less

items_rise : (s : Setup) → Rises Items (items_rows s)
items_rise s =
    let teams = one_group 4 (λ n t. drop 2 (team_row s n t)) s.teams in
    let problems = next_group 3 (λ n p. drop 2 (problem_row n p)) s.problems _ teams in
    let groups = next_group 2 (λ n g. drop 2 (group_row n g)) s.groups _ problems in
    let languages = next_group 1 (λ n l. drop 2 (language_row n l)) s.languages _ groups in
    (next_group 0 (λ n t. drop 2 (type_row n t)) s.types _ languages).rises

members_rise : (s : Setup) (n : ℕ) (rs : List Rejudging) → RiseFrom n (flat_map (λ r. rows_from (member_row s r.0) 1 (r.1).members) (enumerate_from n rs))
members_rise s n [] = no_group n
members_rise s n (r ∷ rs) = next_group n (λ place m. drop 2 (member_row s n place m)) r.members _ (members_rise s (n + 1) rs)

account_below : (s : Setup) (a b : Account) → IsTrue (comes_before a b) → BelowIn Accounts (account_row s a) (account_row s b)
account_below s a b before = lower_text a.id b.id before

pub accounts_rise : (s : Setup) (accounts : List Account) → IsAscending (λ a b. IsTrue (comes_before a b)) accounts → Rises Accounts (map (account_row s) accounts)
accounts_rise s accounts up =
    ascending-map (BelowIn Accounts) (account_row s) accounts
    (ascending_weaker (λ a b. IsTrue (comes_before a b)) (λ a b. BelowIn Accounts (account_row s a) (account_row s b)) (account_below s) accounts up)

pub rises_but_accounts : (x : ContestState) (name : TableName) → (name ≡ Accounts → ⊥) → Rises name (list_rows x name)
rises_but_accounts x Desk other = (tt, tt)
rises_but_accounts x Contest other = (tt, tt)
rises_but_accounts x Items other = items_rise x.fixed.settings
rises_but_accounts x Accounts other = absurd (other refl)
rises_but_accounts x Submissions other = rows_rise (BelowIn Submissions) (submission_row x.fixed.settings) (λ m n a b l. lower_number m n Equal l) 1 x.submissions
rises_but_accounts x Proposals other = rows_rise (BelowIn Proposals) (proposal_row x.fixed.settings) (λ m n a b l. lower_number m n Equal l) 1 x.proposals
rises_but_accounts x Releases other = rows_rise (BelowIn Releases) (release_row x.fixed.settings) (λ m n a b l. lower_number m n Equal l) 1 x.releases
rises_but_accounts x Rejudgings other = rows_rise (BelowIn Rejudgings) rejudging_row (λ m n a b l. lower_number m n Equal l) 1 x.rejudgings
rises_but_accounts x Members other = (members_rise x.fixed.settings 1 x.rejudgings).rises
rises_but_accounts x Cells other = tt
rises_but_accounts x Clarifications other = tt
rises_but_accounts x Notices other = rows_rise (BelowIn Notices) (clarification_row x.fixed.settings) (λ m n a b l. lower_number m n Equal l) 1 x.clarifications

pub rises : (x : ContestState) → IsAscending (λ a b. IsTrue (comes_before a b)) x.fixed.accounts → (name : TableName) → Rises name (list_rows x name)
rises x by_id Desk = rises_but_accounts x Desk (λ e. cc)
rises x by_id Contest = rises_but_accounts x Contest (λ e. cc)
rises x by_id Items = rises_but_accounts x Items (λ e. cc)
rises x by_id Accounts = accounts_rise x.fixed.settings x.fixed.accounts by_id
rises x by_id Submissions = rises_but_accounts x Submissions (λ e. cc)
rises x by_id Proposals = rises_but_accounts x Proposals (λ e. cc)
rises x by_id Releases = rises_but_accounts x Releases (λ e. cc)
rises x by_id Rejudgings = rises_but_accounts x Rejudgings (λ e. cc)
rises x by_id Members = rises_but_accounts x Members (λ e. cc)
rises x by_id Clarifications = rises_but_accounts x Clarifications (λ e. cc)
rises x by_id Cells = rises_but_accounts x Cells (λ e. cc)
rises x by_id Notices = rises_but_accounts x Notices (λ e. cc)
