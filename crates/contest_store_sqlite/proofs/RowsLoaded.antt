-- The rows of the tables of the lists, loaded one table after the other.
use Rattle.std.proofs.Common.{◌≡◌, ◌∙◌, ℕ, ◌+◌, ◌<◌, ◌≤◌, List, map, fold, take, get_or, Ok, sym, ap, arith}
use Rattle.std.proofs.lemmas.List.{map-id, take_all}
use Rattle.std.proofs.lemmas.List.Sums.{fold_more}
use Rattle.sqlite.specs.State.{HasCleanDisk, State}
use Rattle.sqlite_value.specs.Order.{Row}
use Rattle.contest_store_rows.specs.Tables.{Tables}
use Rattle.contest_store_tables.specs.Statements.{loaded_row}
use Rattle.contest_store_tables.specs.Steps.{Content, Full, MakesNone, Rises, Showing, Within}
use Rattle.contest_store_tables.specs.Tables.{TableRows}
use Rattle.contest_store_tables.specs.declared.counts.Counts.{Counts}
use Rattle.contest_store_tables.specs.declared.table_name.TableName.{TableName}
use Rattle.contest_store_tables.specs.declared.table_name.TableName.TheVariants.{Desk, Contest, Items, Accounts, Submissions, Proposals, Releases, Rejudgings, Members, Clarifications, Notices}
use Rattle.contest_store_tables.proofs.StepLemmas.{answers, no_step}
use Rattle.contest_store_changes.specs.ContestTables.{loaded_tables}
use Rattle.contest_store_sqlite.specs.Loading.{list_tables, no_rows, with_loaded}
use Rattle.contest_store_sqlite.proofs.LaterSteps.{Reads, full_then, still_within}

-- one table more
abbrev with_table : TableRows → Tables → TableName → Tables
with_table now t name = with_loaded name (map (loaded_row name) (now name)) t

-- the first so many tables
abbrev first_loaded : ℕ → TableRows → Tables
first_loaded i now = fold (with_table now) no_rows (take i list_tables)

next_loaded : (now : TableRows) (i : ℕ) (d : TableName) → i < 11 → first_loaded (i + 1) now ≡ with_table now (first_loaded i now) (get_or list_tables i d)
next_loaded now i d more = fold_more (with_table now) no_rows list_tables i d more

-- only submissions and the first schema's clarifications are loaded otherwise than they stand
each_loaded : (now : TableRows) → fold (with_table now) no_rows list_tables ≡ loaded_tables now
each_loaded now i = record {
  desk = map-id (now Desk) i;
  contest = map-id (now Contest) i;
  items = map-id (now Items) i;
  accounts = map-id (now Accounts) i;
  submissions = map (loaded_row Submissions) (now Submissions);
  proposals = map-id (now Proposals) i;
  releases = map-id (now Releases) i;
  rejudgings = map-id (now Rejudgings) i;
  members = map-id (now Members) i;
  clarifications = map (loaded_row Clarifications) (now Clarifications);
  notices = map-id (now Notices) i;
}

all_loaded : (now : TableRows) (i : ℕ) → 11 ≤ i → first_loaded i now ≡ loaded_tables now
all_loaded now i past = ap (fold (with_table now) no_rows) (take_all i list_tables past) ∙ each_loaded now

-- where the rows of each table rise by its key, these are what is loaded of them
abbrev pub AreLoaded : (old cur : State) (loaded : Tables) → (TableRows → Tables) → Type 0
AreLoaded old cur loaded of =
    HasCleanDisk cur → (now : TableRows) (kept : Content) → Within old (Showing now) kept → ((name : TableName) → Rises name (now name)) → loaded ≡ of now

-- so many tables were loaded
pub record LoadsFirst (old cur : State) (b m : Counts) (i : ℕ) (loaded : Tables) : Type 0 where
  pub step : Reads {T = Unit {0}} (Ok tt) old cur b m
  pub rows : AreLoaded old cur loaded (first_loaded i)

pub none_loaded : (s : State) (b : Counts) (loaded : Tables) → loaded ≡ no_rows → LoadsFirst s s b b 0 loaded
none_loaded s b loaded is = record { step = no_step tt s b Full Full (MakesNone s Full) (λ now kept h. h); rows = λ clean now kept within up. is }

-- what the load of one table gives
abbrev pub LoadsTable : (mid new : State) → TableName → List Row → Type 0
LoadsTable mid new name found =
    HasCleanDisk new → (now : TableRows) (kept : Content) → Within mid (Showing now) kept → Rises name (now name) → found ≡ map (loaded_row name) (now name)

-- and then the next
module _ {T : Type 0} (x : T) (old mid new : State) (b m a : Counts) (i : ℕ) (d : TableName) (before after : Tables) (found : List Row)
    (one : LoadsFirst old mid b m i before) (more : i < 11) (two : Reads (Ok x) mid new m a)
    (loads : LoadsTable mid new (get_or list_tables i d) found) (put : after ≡ with_loaded (get_or list_tables i d) found before) where
  rows_after : AreLoaded old new after (first_loaded (i + 1))
  rows_after clean now kept within up =
      let name = get_or list_tables i d in
      let early : HasCleanDisk mid = omega (arith, clean, two.survives.clean) in
      let is = loads clean now kept (still_within tt old mid b m now kept one.step early within) (up name) in
      put ∙ ap (λ rows. with_loaded name rows before) is ∙ ap (λ t. with_table now t name) (one.rows early now kept within up) ∙ sym (next_loaded now i d more)

  pub one_more_loaded : LoadsFirst old new b a (i + 1) after
  one_more_loaded = record { step = answers x tt old new b a Full Full (MakesNone old Full) (full_then tt (Ok x) old mid new b m a one.step two); rows = rows_after }

-- and so all of them
pub all_rows_loaded : (old cur : State) (b m : Counts) (i : ℕ) (loaded : Tables) → LoadsFirst old cur b m i loaded → 11 ≤ i → AreLoaded old cur loaded loaded_tables
all_rows_loaded old cur b m i loaded h past clean now kept within up = h.rows clean now kept within up ∙ all_loaded now i past
