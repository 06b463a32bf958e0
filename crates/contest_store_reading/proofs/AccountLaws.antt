-- Accounts and their rows are one to one.
use Rattle.std.proofs.Common.{◌≡◌, true, List, [], ◌∷◌, length, map, Some, refl, ap, arith}
use Rattle.std.specs.Prelude.{◌==◌}
use Rattle.std.specs.List.{list_all}
use Rattle.std.proofs.lemmas.Bool.Decides.{nat_tests}
use Rattle.sqlite.specs.Values.{or_null}
use Rattle.sqlite_value.specs.declared.value.Value.TheVariants.{Text}
use Rattle.sqlite_value.specs.Order.{Row}
use Rattle.contest_types.specs.Accounts.{has_valid_role}
use Rattle.contest_types.specs.Setup.{Setup, IsValid}
use Rattle.contest_types.specs.declared.account.Account.{Account}
use Rattle.contest_types.specs.declared.account.Role.{Role}
use Rattle.contest_types.specs.declared.account.Role.TheVariants as role
use Rattle.contest_types.specs.declared.objects.Team.{Team}
use Rattle.contest_store_rows.specs.FixedRows.{account_row, role_number, role_team}
use Rattle.contest_store_rows.specs.Readings.{place_in}
use Rattle.contest_store_rows.proofs.ListLaws.{parts}
use Rattle.contest_store_rows.proofs.PlaceBack.{place_back}
use Rattle.contest_store_rows.proofs.RowLemmas.{is_no_real, no_real_text, reads_back, writes_back}
use Rattle.contest_store_reading.specs.AccountRows.{account_in, account_said, accounts_in, role_in}
use Rattle.contest_store_reading.specs.Laws.{AccountsReadBack, AccountsWriteBack, IsWritableAccount}

role_read : (s : Setup) → IsValid s → (r : Role) → has_valid_role s r ≡ true
    → role_in (role_number r) (place_in (map (λ (t : Team). t.id) s.teams) (or_null Text (role_team s r))) ≡ r
role_read s valid (role.Team team) there = ap role.Team (place_back (λ (t : Team). t.id) s.teams team valid.teams (grind (arith, nat_tests, there)))
role_read s valid role.Judge there = refl
role_read s valid role.Admin there = refl
role_read s valid role.Analyst there = refl

account_is_said : (s : Setup) → IsValid s → (a : Account) → IsWritableAccount s a → account_said s (account_row s a) ≡ Some a
account_is_said s valid a w =
    let digest : (length a.digest == 32) ≡ true = grind (arith, nat_tests, w.digest) in
    rw (digest, w.id, role_read s valid a.role w.role) refl

account_read : (s : Setup) → IsValid s → (a : Account) → IsWritableAccount s a → account_in s (account_row s a) ≡ Some a
account_read s valid a w =
    let no_real : list_all is_no_real (account_row s a) ≡ true = rw (no_real_text (role_team s a.role)) refl in
    reads_back (account_row s) (account_said s (account_row s a)) a (account_is_said s valid a w) no_real

account_written : (s : Setup) (r : Row) (a : Account) → account_in s r ≡ Some a → r ≡ account_row s a
account_written s r a is = writes_back (account_row s) r (account_said s r) a is

pub accounts_read : AccountsReadBack
accounts_read s valid [] all = refl
accounts_read s valid (a ∷ accounts) all = rw (account_read s valid a all.0, accounts_read s valid accounts all.1) refl

next_written : (s : Setup) (r : Row) (rows : List Row) (accounts : List Account) (a : Account) (others : List Account) → accounts ≡ a ∷ others → r ≡ account_row s a → rows ≡ map (account_row s) others → r ∷ rows ≡ map (account_row s) accounts
next_written s r rows accounts a others whole first rest = rw (whole, first, rest) refl

pub accounts_written : AccountsWriteBack
accounts_written s [] accounts is =
    let none : accounts ≡ [] = cc is in
    rw none refl
accounts_written s (r ∷ rows) accounts is =
    let p = parts (account_in s r) (accounts_in s rows) accounts is in
    next_written s r rows accounts p.x p.others p.whole (account_written s r p.x p.first_is) (accounts_written s rows p.others p.rest_is)
