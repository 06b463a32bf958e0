-- Another duration, another name of a team and another token of an account are each one changed row.
use Rattle.std.proofs.Common.{◌≡◌, ◌∙◌, ℕ, ◌+◌, Bool, true, false, List, [], ◌∷◌, ◌++◌, map, Option, Some, refl, ap, ap₂, sym}
use Rattle.std.specs.Prelude.{All, ◌==◌, ◌&&◌, if◌then◌else◌}
use Rattle.std.specs.Str.{bytes_eq}
use Rattle.std.proofs.Math.Path.{fun_ext}
use Rattle.std.proofs.lemmas.List.{map-append}
use Rattle.std.proofs.lemmas.List.Elements.{All-append, All-cons, All-nil}
use Rattle.sqlite.specs.Collation.TheVariants.{Binary}
use Rattle.sqlite.specs.Values.{or_null}
use Rattle.sqlite_schema.specs.Rules.{equal}
use Rattle.sqlite_value.specs.Order.{Row, column}
use Rattle.sqlite_value.specs.declared.value.Value.TheVariants.{Text, Blob}
use Rattle.contest_types.specs.Setup.{Setup}
use Rattle.contest_types.specs.State.{ContestState, FixedPart, add, changed_at, with_digest, with_duration, with_team_name}
use Rattle.contest_types.specs.TeamPlaces.{team_id_at}
use Rattle.contest_types.specs.declared.account.Account.{Account}
use Rattle.contest_types.specs.declared.account.Role.{Role}
use Rattle.contest_types.specs.declared.account.Role.TheVariants as role
use Rattle.contest_types.specs.declared.entry.Entry.TheVariants.{SetDuration, SetTeamName, SetDigest}
use Rattle.contest_types.specs.declared.objects.Team.{Team}
use Rattle.contest_types.proofs.NameLemmas.{id_stays}
use Rattle.contest_store_rows.specs.Cells.{number}
use Rattle.contest_store_rows.specs.FixedRows.{account_row, contest_row, group_row, items_rows, language_row, problem_row, role_number, role_team, team_row, type_row}
use Rattle.contest_store_rows.proofs.ListLaws.{rows_from}
use Rattle.contest_store_tables.specs.Changes.{IsHeld, change_row, changed_row}
use Rattle.contest_store_tables.specs.Schema.{form_of}
use Rattle.contest_store_tables.specs.Steps.{with_rows}
use Rattle.contest_store_tables.specs.declared.row_change.RowChange.TheVariants as row_change
use Rattle.contest_store_tables.specs.declared.table_name.TableName.{TableName}
use Rattle.contest_store_tables.specs.declared.table_name.TableName.TheVariants.{Desk, Contest, Items, Accounts, Submissions, Proposals, Releases, Rejudgings, Members, Clarifications, Cells, Notices}
use Rattle.contest_store_reading.specs.AccountRows.{digest_row}
use Rattle.contest_store_reading.specs.Heads.{duration_row}
use Rattle.contest_store_reading.specs.Items.{team_name_row}
use Rattle.contest_store_changes.specs.ContestTables.{list_rows}
use Rattle.contest_store_changes.specs.Laws.{DigestIsChanged, DurationIsChanged, TeamNameIsChanged}
use Rattle.contest_store_changes.proofs.AscendingAccounts.{digest_ascends}
use Rattle.contest_store_changes.proofs.ChangeLaws.{rows_held}
use Rattle.contest_store_changes.proofs.HeldRows.{account_held, contest_held, item_held}
use Rattle.contest_store_changes.proofs.RisingRows.{rises, rises_but_accounts}
use Rattle.contest_store_changes.proofs.SameNumbers.{same_after, same_number, same_text}

-- where teams keep their ids, accounts keep their rows
module _ (s t : Setup) (ids : (team : ℕ) → team_id_at t team ≡ team_id_at s team) where
  same_team : (r : Role) → role_team t r ≡ role_team s r
  same_team (role.Team team) = ap Some (ids team)
  same_team role.Judge = refl
  same_team role.Admin = refl
  same_team role.Analyst = refl

  same_accounts : (accounts : List Account) → map (account_row t) accounts ≡ map (account_row s) accounts
  same_accounts [] = refl
  same_accounts (a ∷ accounts) =
      ap₂ ◌∷◌ (ap (λ (team : Option (List ℕ)). Text a.id ∷ number (role_number a.role) ∷ or_null Text team ∷ Blob a.digest ∷ []) (same_team a.role)) (same_accounts accounts)

-- the only row of the contest has the number that is given
duration_changed : (f : FixedPart) (duration : ℕ) (freeze : Option ℕ) →
    contest_row (record f { settings = with_duration f.settings duration freeze }) ≡ change_row row_change.Duration (duration_row duration freeze) (contest_row f)
duration_changed f duration freeze =
    ap (λ b. if b && true then changed_row row_change.Duration (duration_row duration freeze) (contest_row f) else contest_row f) (sym (same_number 1 1))

-- of the duration only the table of the contest tells
duration_alone : (x : ContestState) (duration : ℕ) (freeze : Option ℕ) (name : TableName) →
    with_rows Contest (list_rows (add x (SetDuration duration freeze)) Contest) (list_rows x) name ≡ list_rows (add x (SetDuration duration freeze)) name
duration_alone x duration freeze Desk = refl
duration_alone x duration freeze Contest = refl
duration_alone x duration freeze Items = refl
duration_alone x duration freeze Accounts = sym (same_accounts x.fixed.settings (with_duration x.fixed.settings duration freeze) (λ team. refl) x.fixed.accounts)
duration_alone x duration freeze Submissions = refl
duration_alone x duration freeze Proposals = refl
duration_alone x duration freeze Releases = refl
duration_alone x duration freeze Rejudgings = refl
duration_alone x duration freeze Members = refl
duration_alone x duration freeze Clarifications = refl
duration_alone x duration freeze Cells = refl
duration_alone x duration freeze Notices = refl

pub duration_is_changed : DurationIsChanged
duration_is_changed x duration freeze =
    let y = add x (SetDuration duration freeze) in
    record {
      of_lists = refl;
      changed = record {
        is = ap (λ row. row ∷ []) (duration_changed x.fixed duration freeze);
        held = All-cons (IsHeld (form_of Contest)) (contest_row y.fixed) [] (contest_held y.fixed) (All-nil (IsHeld (form_of Contest)));
        rises = rises_but_accounts y Contest (λ e. cc);
      };
      others = fun_ext (duration_alone x duration freeze);
    }

module _ (s : Setup) (team : ℕ) (name : List ℕ) where
  abbrev rename : Team → Team
  rename u = record u { name = name }

  abbrev change : Row → Row
  change = change_row row_change.ItemName (team_name_row (team + 1) name)

  -- a row by what the two tests of its key say
  abbrev by_tests : Row → Bool → Bool → Row
  by_tests r kind place = if kind && (place && true) then changed_row row_change.ItemName (team_name_row (team + 1) name) r else r

  -- rows of another kind stay
  others_stay : {X : Type 0} (kind : ℕ) (row : ℕ → X → Row) → ((n : ℕ) (x : X) → column (row n x) 0 ≡ number kind) → (kind == 4) ≡ false → (first : ℕ) (xs : List X) → rows_from row first xs ≡ map change (rows_from row first xs)
  others_stay kind row of_kind other first [] = refl
  others_stay kind row of_kind other first (x ∷ xs) =
      let r = row first x in
      let apart : equal Binary (column r 0) (number 4) ≡ false = ap (λ k. equal Binary k (number 4)) (of_kind first x) ∙ same_number kind 4 ∙ other in
      ap₂ ◌∷◌ (ap (λ b. by_tests r b (equal Binary (column r 1) (number (team + 1)))) (sym apart)) (others_stay kind row of_kind other (first + 1) xs)

  -- the row of one team, changed or not
  one_team : (n : ℕ) (u : Team) (b : Bool) → team_row (with_team_name s team name) n (if b then rename u else u) ≡ by_tests (team_row s n u) true b
  one_team n u true = refl
  one_team n u false = refl

  teams_changed : (first : ℕ) (ts : List Team) → rows_from (team_row (with_team_name s team name)) (first + 1) (changed_at first team rename ts) ≡ map change (rows_from (team_row s) (first + 1) ts)
  teams_changed first [] = refl
  teams_changed first (u ∷ ts) =
      let place = same_number (first + 1) (team + 1) ∙ same_after first team in
      ap₂ ◌∷◌ (one_team (first + 1) u (first == team) ∙ ap₂ (by_tests (team_row s (first + 1) u)) (sym (same_number 4 4)) (sym place)) (teams_changed (first + 1) ts)

  -- the rows of all settings
  items_changed : items_rows (with_team_name s team name) ≡ map change (items_rows s)
  items_changed =
      let types = others_stay 0 type_row (λ n t. refl) refl 1 s.types in
      let languages = others_stay 1 language_row (λ n l. refl) refl 1 s.languages in
      let groups = others_stay 2 group_row (λ n g. refl) refl 1 s.groups in
      let problems = others_stay 3 problem_row (λ n p. refl) refl 1 s.problems in
      ap₂ ◌++◌ types (ap₂ ◌++◌ languages (ap₂ ◌++◌ groups (ap₂ ◌++◌ problems (teams_changed 0 s.teams) ∙ joined problem_row s.problems _) ∙ joined group_row s.groups _) ∙ joined language_row s.languages _)
      ∙ joined type_row s.types _
    where
      joined : {X : Type 0} (made : ℕ → X → Row) (xs : List X) (rows : List Row) → map change (rows_from made 1 xs) ++ map change rows ≡ map change (rows_from made 1 xs ++ rows)
      joined made xs rows = sym (map-append change (rows_from made 1 xs) rows)

-- rows of settings are held
items_held : (s : Setup) → All (IsHeld (form_of Items)) (items_rows s)
items_held s =
    let P = IsHeld (form_of Items) in
    All-append P _ _ (rows_held P type_row (λ n t. item_held 0 n t.id t.name [] 0 t.solved t.penalty []) 1 s.types)
    (All-append P _ _ (rows_held P language_row (λ n l. item_held 1 n l.id l.name [] 0 l.entry_point_required false []) 1 s.languages)
    (All-append P _ _ (rows_held P group_row (λ n g. item_held 2 n g.id g.name [] 0 false false []) 1 s.groups)
    (All-append P _ _ (rows_held P problem_row (λ n p. item_held 3 n p.id p.name p.label p.ordinal false false []) 1 s.problems)
    (rows_held P (team_row s) (λ n t. item_held 4 n t.id t.name [] 0 t.hidden false _) 1 s.teams))))

-- of the name of a team only the table of the settings tells
name_alone : (x : ContestState) (team : ℕ) (own : List ℕ) (name : TableName) →
    with_rows Items (list_rows (add x (SetTeamName team own)) Items) (list_rows x) name ≡ list_rows (add x (SetTeamName team own)) name
name_alone x team own Desk = refl
name_alone x team own Contest = refl
name_alone x team own Items = refl
name_alone x team own Accounts = let s = x.fixed.settings in sym (same_accounts s (with_team_name s team own) (id_stays s team own) x.fixed.accounts)
name_alone x team own Submissions = refl
name_alone x team own Proposals = refl
name_alone x team own Releases = refl
name_alone x team own Rejudgings = refl
name_alone x team own Members = refl
name_alone x team own Clarifications = refl
name_alone x team own Cells = refl
name_alone x team own Notices = refl

pub team_name_is_changed : TeamNameIsChanged
team_name_is_changed x team name =
    let y = add x (SetTeamName team name) in
    record {
      of_lists = refl;
      changed = record { is = items_changed x.fixed.settings team name; held = items_held y.fixed.settings; rises = rises_but_accounts y Items (λ e. cc) };
      others = fun_ext (name_alone x team name);
    }

module _ (s : Setup) (id digest : List ℕ) where
  -- the row of one account, changed or not
  one_account : (a : Account) (b : Bool) →
      account_row s (if b then record a { digest = digest } else a) ≡ (if b && true then changed_row row_change.Digest (digest_row id digest) (account_row s a) else account_row s a)
  one_account a true = refl
  one_account a false = refl

  accounts_changed : (accounts : List Account) → map (account_row s) (with_digest accounts id digest) ≡ map (change_row row_change.Digest (digest_row id digest)) (map (account_row s) accounts)
  accounts_changed [] = refl
  accounts_changed (a ∷ accounts) =
      let one = one_account a (bytes_eq a.id id)
      ∙ ap (λ b. if b && true then changed_row row_change.Digest (digest_row id digest) (account_row s a) else account_row s a) (sym (same_text a.id id)) in
      ap₂ ◌∷◌ one (accounts_changed accounts)

accounts_held : (s : Setup) (accounts : List Account) → All (IsHeld (form_of Accounts)) (map (account_row s) accounts)
accounts_held s [] = All-nil (IsHeld (form_of Accounts))
accounts_held s (a ∷ accounts) = All-cons (IsHeld (form_of Accounts)) (account_row s a) (map (account_row s) accounts) (account_held s a) (accounts_held s accounts)

-- of tokens only the table of accounts tells
digest_alone : (x : ContestState) (id digest : List ℕ) (name : TableName) →
    with_rows Accounts (list_rows (add x (SetDigest id digest)) Accounts) (list_rows x) name ≡ list_rows (add x (SetDigest id digest)) name
digest_alone x id digest Desk = refl
digest_alone x id digest Contest = refl
digest_alone x id digest Items = refl
digest_alone x id digest Accounts = refl
digest_alone x id digest Submissions = refl
digest_alone x id digest Proposals = refl
digest_alone x id digest Releases = refl
digest_alone x id digest Rejudgings = refl
digest_alone x id digest Members = refl
digest_alone x id digest Clarifications = refl
digest_alone x id digest Cells = refl
digest_alone x id digest Notices = refl

pub digest_is_changed : DigestIsChanged
digest_is_changed x id digest sound =
    let y = add x (SetDigest id digest) in
    record {
      of_lists = refl;
      changed = record {
        is = accounts_changed x.fixed.settings id digest x.fixed.accounts;
        held = accounts_held x.fixed.settings y.fixed.accounts;
        rises = rises y (digest_ascends x.fixed.accounts id digest sound.by_id) Accounts;
      };
      others = fun_ext (digest_alone x id digest);
    }
