-- The rows that the first schema has of a contest, what they are read as, and what they are upgraded to.
use Rattle.std.proofs.Common.{◌≡◌, ◌≢◌, ◌∙◌, ℕ, ◌+◌, Bool, true, false, List, [], ◌∷◌, map, pos, Some, refl, sym, ap, ap₂, arith, subst}
use Rattle.std.specs.Prelude.{◌==◌, not, if◌then◌else◌}
use Rattle.std.specs.List.{AllByRecursion}
use Rattle.std.specs.Option.{option_map, option_and_then}
use Rattle.sqlite.specs.Collation.TheVariants.{Binary}
use Rattle.sqlite_sql.specs.Ops.{binary, from_truth}
use Rattle.sqlite_value.proofs.OrderLemmas.{value_cmp-Int}
use Rattle.std.specs.Ordering.{int_cmp, is_ne}
use Rattle.std.proofs.lemmas.Bool.Decides.{nat_tests}
use Rattle.std.proofs.lemmas.Int.{ints}
use Rattle.sqlite_sql.specs.declared.ops.BinaryOp.TheVariants.{Compare}
use Rattle.sqlite_sql.specs.declared.ops.CompareOp.TheVariants.{Ne}
use Rattle.sqlite_value.specs.declared.value.Value.TheVariants.{Int}
use Rattle.sqlite_value.specs.Order.{Row, column}
use Rattle.contest_types.specs.Setup.{Setup}
use Rattle.contest_types.specs.State.{ContestState}
use Rattle.contest_types.specs.Valid.{is_valid}
use Rattle.contest_types.specs.declared.clarification.Addressee.{Addressee}
use Rattle.contest_types.specs.declared.clarification.Addressee.TheVariants.{All as ToAll, Group as ToGroup, Team as ToTeam}
use Rattle.contest_types.specs.declared.clarification.Clarification.{Clarification}
use Rattle.contest_store_rows.specs.Cells.{number}
use Rattle.contest_store_rows.specs.ListRows.{audience_kind, audience_number, clarification_row, first_clarification_row}
use Rattle.contest_store_rows.specs.Tables.{rows_of}
use Rattle.contest_store_rows.specs.declared.versions.Version.TheVariants.{First}
use Rattle.contest_store_rows.proofs.ListLaws.{rows_from}
use Rattle.contest_store_rows.proofs.RowLaws.{after_all}
use Rattle.contest_store_reading.specs.Spelling.{lists_in_version}
use Rattle.contest_store_reading.specs.SpellingLaws.{AreRows, first_loaded_rows_of}
use Rattle.contest_store_reading.proofs.OptionSteps.{bound, where_true}
use Rattle.contest_store_reading.proofs.SpellingLaws.{contests_write_back, first_contests_read_back}
use Rattle.contest_store_tables.specs.Statements.{loaded_row}
use Rattle.contest_store_tables.specs.Steps.{Rises}
use Rattle.contest_store_tables.specs.Tables.{TableRows}
use Rattle.contest_store_tables.specs.declared.table_name.TableName.TheVariants.{Accounts, Submissions, Clarifications, Cells}
use Rattle.contest_store_changes.specs.ContestTables.{if_valid, listed_in_version, loaded_tables, with_files}
use Rattle.contest_store_changes.specs.Kinds.{AreOfKinds}
use Rattle.contest_store_changes.specs.Laws.{IsWide}
use Rattle.contest_store_changes.specs.Sound.{IsSound}
use Rattle.contest_store_changes.specs.Upgraded.{GoesToNoGroup, FirstContestsAreSound, FirstRowsAreUpgraded, FirstRowsReadBack, first_rows_with}
use Rattle.contest_store_changes.proofs.AccountsRise.{stand_by_id}
use Rattle.contest_store_changes.proofs.FiledRows.{filed_rows}
use Rattle.contest_store_changes.proofs.OneMoreRow.{same_tables}
use Rattle.contest_store_changes.proofs.FoundSteps.{made, of_found}
use Rattle.contest_store_changes.proofs.Writable.{writable}
use Rattle.contest_store_changes.proofs.SoundReadings.{files_back, rows_loaded}

-- what a load says of the audience
of_truth : (b : Bool) → from_truth (Some b) ≡ number (if b then 1 else 0)
of_truth true = refl
of_truth false = refl

differ_as_numbers : (m n : ℕ) → is_ne (int_cmp (pos m) (pos n)) ≡ not (m == n)
differ_as_numbers m n = grind (arith, ints, nat_tests)

differs_from_none : (n : ℕ) → binary (Compare Ne Binary) (number n) (Int (pos 0)) ≡ number (if not (n == 0) then 1 else 0)
unfolding binary
differs_from_none n =
    ap (λ o. from_truth (Some (is_ne o))) (value_cmp-Int (pos n) (pos 0)) ∙ ap (λ b. from_truth (Some b)) (differ_as_numbers n 0) ∙ of_truth (not (n == 0))

kind_is : (a : Addressee) → ((group : ℕ) → a ≢ ToGroup group) → binary (Compare Ne Binary) (number (audience_number a)) (Int (pos 0)) ≡ number (audience_kind a)
kind_is ToAll none = differs_from_none 0
kind_is (ToTeam team) none = differs_from_none (team + 1) ∙ (rw (after_all team) refl)
kind_is (ToGroup group) none = absurd (none group refl)

first_loaded : (s : Setup) (n : ℕ) (cs : List Clarification) → AllByRecursion GoesToNoGroup cs → map (loaded_row Clarifications) (rows_from (first_clarification_row s) n cs) ≡ rows_from (clarification_row s) n cs
first_loaded s n [] none = refl
first_loaded s n (c ∷ cs) none = ap₂ ◌∷◌ (rw (kind_is c.addressee none.0) refl) (first_loaded s (n + 1) cs none.1)

first_tables_loaded : (cells : List Row) (x : ContestState) → AllByRecursion GoesToNoGroup x.clarifications → loaded_tables (first_rows_with cells x) ≡ first_loaded_rows_of x
first_tables_loaded cells x none =
    ap (λ rows. record (first_loaded_rows_of x) { submissions = rows; clarifications = map (loaded_row Clarifications) (rows_from (first_clarification_row x.fixed.settings) 1 x.clarifications) }) (rows_loaded x.fixed.settings 1 x.submissions)
    ∙ ap (λ rows. record (first_loaded_rows_of x) { clarifications = rows }) (first_loaded x.fixed.settings 1 x.clarifications none)

pub first_rows_read_back : FirstRowsReadBack
first_rows_read_back cells x h none =
    ap (λ t. option_and_then if_valid (option_map (with_files (rows_of x).submissions) (lists_in_version First t))) (first_tables_loaded cells x none)
    ∙ ap (λ found. option_and_then if_valid (option_map (with_files (rows_of x).submissions) found)) (first_contests_read_back x (writable x h))
    ∙ ap (λ submissions. if_valid (record x { submissions = submissions })) (files_back x.fixed.settings 1 x.submissions) ∙ (rw h.valid refl)

-- a row of ten cells
cells_of : (r : Row) → IsWide Clarifications r →
    r ≡ column r 0 ∷ column r 1 ∷ column r 2 ∷ column r 3 ∷ column r 4 ∷ column r 5 ∷ column r 6 ∷ column r 7 ∷ column r 8 ∷ column r 9 ∷ []
cells_of [] wide = absurd (omega (arith, wide))
cells_of (a ∷ []) wide = absurd (omega (arith, wide))
cells_of (a ∷ b ∷ []) wide = absurd (omega (arith, wide))
cells_of (a ∷ b ∷ c ∷ []) wide = absurd (omega (arith, wide))
cells_of (a ∷ b ∷ c ∷ d ∷ []) wide = absurd (omega (arith, wide))
cells_of (a ∷ b ∷ c ∷ d ∷ e ∷ []) wide = absurd (omega (arith, wide))
cells_of (a ∷ b ∷ c ∷ d ∷ e ∷ f ∷ []) wide = absurd (omega (arith, wide))
cells_of (a ∷ b ∷ c ∷ d ∷ e ∷ f ∷ g ∷ []) wide = absurd (omega (arith, wide))
cells_of (a ∷ b ∷ c ∷ d ∷ e ∷ f ∷ g ∷ h ∷ []) wide = absurd (omega (arith, wide))
cells_of (a ∷ b ∷ c ∷ d ∷ e ∷ f ∷ g ∷ h ∷ i ∷ []) wide = absurd (omega (arith, wide))
cells_of (a ∷ b ∷ c ∷ d ∷ e ∷ f ∷ g ∷ h ∷ i ∷ j ∷ []) wide = refl
cells_of (a ∷ b ∷ c ∷ d ∷ e ∷ f ∷ g ∷ h ∷ i ∷ j ∷ k ∷ more) wide = absurd (omega (arith, wide))

row_was : (s : Setup) (n : ℕ) (c : Clarification) (r : Row) → IsWide Clarifications r → loaded_row Clarifications r ≡ clarification_row s n c → r ≡ first_clarification_row s n c
row_was s n c r wide is =
    let same : (k : ℕ) → column (loaded_row Clarifications r) k ≡ column (clarification_row s n c) k = λ k. ap (λ q. column q k) is in
    cells_of r wide
    ∙ ap₂ ◌∷◌ (same 0) (ap₂ ◌∷◌ (same 2) (ap₂ ◌∷◌ (same 3) (ap₂ ◌∷◌ (same 4) (ap₂ ◌∷◌ (same 5) (ap₂ ◌∷◌ (same 6) (ap₂ ◌∷◌ (same 7)
    (ap₂ ◌∷◌ (same 8) (ap₂ ◌∷◌ (same 9) (ap₂ ◌∷◌ (same 10) refl)))))))))

head_is : (r q : Row) (rows more : List Row) → ◌≡◌ {A = List Row} (r ∷ rows) (q ∷ more) → r ≡ q
head_is r q rows more is = cc is

tail_is : (r q : Row) (rows more : List Row) → ◌≡◌ {A = List Row} (r ∷ rows) (q ∷ more) → rows ≡ more
tail_is r q rows more is = cc is

rows_were : (s : Setup) (n : ℕ) (cs : List Clarification) (rows : List Row) → AllByRecursion (IsWide Clarifications) rows → map (loaded_row Clarifications) rows ≡ rows_from (clarification_row s) n cs
    → rows_from (first_clarification_row s) n cs ≡ rows
rows_were s n [] [] wide is = refl
rows_were s n [] (r ∷ rows) wide is = absurd (cc is)
rows_were s n (c ∷ cs) [] wide is = absurd (cc is)
rows_were s n (c ∷ cs) (r ∷ rows) wide is =
    ap₂ ◌∷◌ (sym (row_was s n c r wide.0 (head_is _ _ _ _ is))) (rows_were s (n + 1) cs rows wide.1 (tail_is _ _ _ _ is))

first_rows_are : (rows : TableRows) (y : ContestState) → AllByRecursion (IsWide Submissions) (rows Submissions) → AllByRecursion (IsWide Clarifications) (rows Clarifications) → AreRows First y (loaded_tables rows)
    → first_rows_with (rows Cells) (with_files (rows Submissions) y) ≡ rows
first_rows_are rows y wide width are =
    same_tables _ rows (sym are.fixed.desk) (sym are.fixed.contest) (sym are.fixed.items) (sym are.fixed.accounts) (filed_rows y.fixed.settings 1 y.submissions (rows Submissions) wide are.submissions)
    (sym are.proposals) (sym are.releases) (sym are.rejudgings) (sym are.members) (rows_were y.fixed.settings 1 y.clarifications (rows Clarifications) width are.clarifications.0) refl (sym are.clarifications.1)

first_found_sound : (rows : TableRows) (x : ContestState) → Rises Accounts (rows Accounts) → AllByRecursion (IsWide Submissions) (rows Submissions) → AllByRecursion (IsWide Clarifications) (rows Clarifications)
    → listed_in_version First rows ≡ Some x → is_valid x ≡ true → AreOfKinds x → IsSound x × (first_rows_with (rows Cells) x ≡ rows)
first_found_sound rows x up wide width is valid kinds =
    let m = made (with_files (rows Submissions)) (lists_in_version First (loaded_tables rows)) x is in
    let own = subst (λ y. first_rows_with (rows Cells) y ≡ rows) m.whole (first_rows_are rows m.x wide width (contests_write_back First (loaded_tables rows) m.x m.first_is)) in
    (record { valid = valid; kinds = kinds; by_id = stand_by_id x.fixed.settings x.fixed.accounts (subst (λ (all : TableRows). Rises Accounts (all Accounts)) (sym own) up) }, own)

pub first_contests_sound : FirstContestsAreSound
first_contests_sound rows x up wide width kinds is =
    let b = bound if_valid (listed_in_version First rows) x is in
    let own = where_true (is_valid b.x) (Some b.x) x b.next_is in
    of_found (λ y. AreOfKinds y → IsSound y × (first_rows_with (rows Cells) y ≡ rows)) b.x x own.1 (first_found_sound rows b.x up wide width b.first_is own.0) kinds

pub first_rows_upgraded : FirstRowsAreUpgraded
first_rows_upgraded cells x = same_tables _ _ refl refl refl refl refl refl refl refl refl refl refl refl
