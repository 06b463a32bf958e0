-- The account, the team, the token or the name that a body says (own). A team is told of as in a file; an account by `id`,
-- `role`, `token` and, if it is a team's, `team_id`; a token by `account_id` and `token`; a name by `team_id` and `name`.
use Rattle.std.specs.Prelude.{ℕ, List, [], Option, Some, None, unwrap_or, codes, if◌then◌else◌}
use Rattle.std.specs.Option.{option_and_then, option_map}
use Rattle.serde_json.specs.Data.{Data}
use Rattle.contest_files.specs.JsonMembers.{data_of, id_in, name_in, optional_id_in, text_in}
use Rattle.contest_types.specs.Places.{are_different}
use Rattle.contest_import.specs.CsvFiles.{account_id, named_role, token_digest}
use Rattle.contest_import.specs.SettingsObjects.{team_in}
use Rattle.contest_import.specs.declared.account_row.AccountRow.{AccountRow}
use Rattle.contest_import.specs.declared.account_row.NamedRole.{NamedRole}
use Rattle.contest_import.specs.declared.posted_changes.NameRow.{NameRow}
use Rattle.contest_import.specs.declared.posted_changes.TokenRow.{TokenRow}
use Rattle.contest_import.specs.declared.team_row.TeamRow.{TeamRow}

-- an account's id
abbrev pub id_said : Data → Option (List ℕ)
id_said d = option_and_then account_id (text_in (codes "id") d)

-- its role, with the id of its team if it is a team's
abbrev pub role_said : Data → Option NamedRole
role_said d = option_and_then (λ role. option_and_then (λ team. named_role role (unwrap_or team [])) (optional_id_in (codes "team_id") d)) (text_in (codes "role") d)

-- the digest of its token
abbrev pub digest_said : Data → Option (List ℕ)
digest_said d = option_and_then token_digest (text_in (codes "token") d)

abbrev pub account_said : Data → Option AccountRow
account_said d =
    option_and_then (λ id. option_and_then (λ role. option_map (λ digest. record { id = id; role = role; digest = digest }) (digest_said d)) (role_said d)) (id_said d)

-- the account that a body says
abbrev pub account_posted : (body : List ℕ) → Option AccountRow
account_posted body = option_and_then account_said (data_of body)

-- a team names no group twice
abbrev pub if_different : TeamRow → Option TeamRow
if_different t = if are_different t.groups then Some t else None

abbrev pub team_said : Data → Option TeamRow
team_said d = option_and_then if_different (team_in d)

-- the team that a body says
abbrev pub team_posted : (body : List ℕ) → Option TeamRow
team_posted body = option_and_then team_said (data_of body)

abbrev pub token_said : Data → Option TokenRow
token_said d = option_and_then (λ id. option_map (λ digest. record { id = id; digest = digest }) (digest_said d)) (id_in (codes "account_id") d)

-- the token that a body says, and whose it is
abbrev pub token_posted : (body : List ℕ) → Option TokenRow
token_posted body = option_and_then token_said (data_of body)

abbrev pub name_said : Data → Option NameRow
name_said d = option_and_then (λ team. option_map (λ name. record { team = team; name = name }) (name_in (codes "name") d)) (id_in (codes "team_id") d)

-- the name that a body says, and which team's it is
abbrev pub name_posted : (body : List ℕ) → Option NameRow
name_posted body = option_and_then name_said (data_of body)
