-- The accounts that rows are.
use Rattle.std.specs.Prelude.{ℕ, ◌==◌, List, [], ◌∷◌, length, map, Option, Some, None, if◌then◌else◌}
use Rattle.std.specs.Option.{option_map, option_and_then}
use Rattle.sqlite_value.specs.Order.{Row, column}
use Rattle.sqlite_value.specs.declared.value.Value.{Value}
use Rattle.sqlite_value.specs.declared.value.Value.TheVariants.{Text, Blob}
use Rattle.contest_types.specs.Setup.{Setup}
use Rattle.contest_types.specs.declared.account.Account.{Account}
use Rattle.contest_types.specs.declared.account.Role.{Role}
use Rattle.contest_types.specs.declared.account.Role.TheVariants as role
use Rattle.contest_types.specs.declared.objects.Team.{Team}
use Rattle.contest_store_rows.specs.Cells.{number_of}
use Rattle.contest_store_rows.specs.FixedRows.{account_row}
use Rattle.contest_store_rows.specs.Lists.{each_some}
use Rattle.contest_store_rows.specs.Readings.{id_in, if_its_row, place_in}

-- a digest has 32 bytes
abbrev pub digest_in : Value → Option (List ℕ)
digest_in (Blob b) = if length b == 32 then Some b else None
digest_in _ = None

abbrev pub role_in : (number team : ℕ) → Role
role_in number team = if number == 0 then role.Team team else if number == 1 then role.Judge else if number == 2 then role.Admin else role.Analyst

-- a digest, after the id of its account
abbrev pub digest_row : (id digest : List ℕ) → Row
digest_row id digest = Text id ∷ Blob digest ∷ []

-- what the cells say, if the id and the digest are some
abbrev pub account_said : Setup → Row → Option Account
account_said s r =
    option_and_then (λ digest. option_map (λ id. record {
      id = id;
      role = role_in (number_of (column r 1)) (place_in (map (λ (t : Team). t.id) s.teams) (column r 2));
      digest = digest;
    }) (id_in (column r 0))) (digest_in (column r 3))

-- the account whose row it is
abbrev pub account_in : Setup → Row → Option Account
account_in s r = option_and_then (if_its_row (account_row s) r) (account_said s r)

-- the accounts whose rows these are
abbrev pub accounts_in : Setup → List Row → Option (List Account)
accounts_in s rows = each_some (map (account_in s) rows)
