-- What the records of the CSV files of teams and of accounts say (own).
use Rattle.std.specs.Prelude.{ℕ, ◌&&◌, ◌==◌, not, Bool, false, List, [], ◌∷◌, length, map, nat_le, Option, Some, None, Result, Ok, Err, codes, if◌then◌else◌}
use Rattle.std.specs.List.{slice_split}
use Rattle.std.specs.Option.{option_and_then, option_map}
use Rattle.std.specs.Str.{bytes_eq}
use Rattle.sha2.specs.Sha256.{sha256}
use Rattle.contest_types.specs.Options.{all_some}
use Rattle.contest_types.specs.IdText.{id_of}
use Rattle.contest_types.specs.NameText.{name_from}
use Rattle.contest_types.specs.Places.{place_of}
use Rattle.contest_types.specs.Setup.{Setup}
use Rattle.contest_types.specs.State.{FixedPart}
use Rattle.contest_types.specs.declared.account.Account.{Account}
use Rattle.contest_types.specs.declared.account.Role.{Role}
use Rattle.contest_types.specs.declared.account.Role.TheVariants as role
use Rattle.contest_types.specs.declared.entry.Entry.{Entry}
use Rattle.contest_types.specs.declared.entry.Entry.TheVariants.{NewAccount}
use Rattle.contest_types.specs.declared.objects.Team.{Team}
use Rattle.contest_types.specs.declared.refusal.Cause.{Cause}
use Rattle.contest_types.specs.declared.refusal.Cause.TheVariants as cause
use Rattle.contest_types.specs.declared.limits.TheConstants.{SHORTEST_TOKEN, LONGEST_TOKEN}
use Rattle.contest_files.specs.FieldTexts.{Text, is_empty, flag_or_empty}
use Rattle.contest_files.specs.Tokens.{is_token}
use Rattle.contest_import.specs.Teams.{team_or_malformed}
use Rattle.contest_import.specs.declared.account_row.AccountRow.{AccountRow}
use Rattle.contest_import.specs.declared.account_row.NamedRole.{NamedRole}
use Rattle.contest_import.specs.declared.account_row.NamedRole.TheVariants as named
use Rattle.contest_import.specs.declared.team_row.TeamRow.{TeamRow}

-- the fields of a record that has four
pub record FourFields : Type 0 where
  pub first : Text
  pub second : Text
  pub third : Text
  pub fourth : Text

abbrev pub four_of : List Text → Option FourFields
four_of (a ∷ b ∷ c ∷ d ∷ []) = Some (record { first = a; second = b; third = c; fourth = d })
four_of _ = None

abbrev pub holds_by : FourFields → Option FourFields → Bool
holds_by names None = false
holds_by names (Some f) = bytes_eq f.first names.first && bytes_eq f.second names.second && bytes_eq f.third names.third && bytes_eq f.fourth names.fourth

-- a record that holds these four names
abbrev pub is_header : FourFields → List Text → Bool
is_header names row = holds_by names (four_of row)

abbrev pub team_names : FourFields
team_names = record { first = codes "id"; second = codes "name"; third = codes "group_ids"; fourth = codes "hidden" }

abbrev pub account_names : FourFields
account_names = record { first = codes "id"; second = codes "role"; third = codes "team_id"; fourth = codes "token" }

-- the ids in a text, one space between each two; an empty text has none
abbrev pub ids_of : Text → Option (List Text)
ids_of [] = Some []
ids_of text = all_some (map id_of (slice_split (λ c. c == 32) text))

-- `id,name,group_ids,hidden`, where hidden is `true`, `false`, or nothing for false
abbrev pub team_fields : FourFields → Option TeamRow
team_fields f =
    option_and_then (λ id. option_and_then (λ name. option_and_then (λ groups. option_map
    (λ hidden. record { id = id; name = name; groups = groups; hidden = hidden })
    (flag_or_empty f.fourth)) (ids_of f.third)) (name_from f.second)) (id_of f.first)

abbrev pub team_record : FixedPart → List Text → Result Entry Cause
team_record f row = team_or_malformed f.settings (option_and_then team_fields (four_of row))

-- an id that an account may have: `import` is kept for what is imported
abbrev pub account_id : Text → Option (List ℕ)
account_id text = if bytes_eq text (codes "import") then None else id_of text

-- `team` with the team's id, or `judge`, `admin` or `analyst` with none
abbrev pub named_role : (role team : Text) → Option NamedRole
named_role role team =
    if bytes_eq role (codes "team") then option_map named.Team (id_of team)
    else (if not (is_empty team) then None
    else (if bytes_eq role (codes "judge") then Some named.Judge
    else (if bytes_eq role (codes "admin") then Some named.Admin
    else (if bytes_eq role (codes "analyst") then Some named.Analyst else None))))

-- the digest of a token of 8 to 128 bytes; the token itself isn't kept
abbrev pub token_digest : Text → Option (List ℕ)
token_digest token = if is_token token && nat_le SHORTEST_TOKEN (length token) && nat_le (length token) LONGEST_TOKEN then Some (sha256 token) else None

-- `id,role,team_id,token`
abbrev pub account_fields : FourFields → Option AccountRow
account_fields f =
    option_and_then (λ id. option_and_then (λ role. option_map
    (λ digest. record { id = id; role = role; digest = digest })
    (token_digest f.fourth)) (named_role f.second f.third)) (account_id f.first)

-- the role, where its team is there
abbrev pub role_of : Setup → NamedRole → Option Role
role_of s (named.Team id) = option_map role.Team (place_of id (map (λ (t : Team). t.id) s.teams))
role_of s named.Judge = Some role.Judge
role_of s named.Admin = Some role.Admin
role_of s named.Analyst = Some role.Analyst

-- the account that is told of, if its team is there
abbrev pub account_of : Setup → AccountRow → Option Account
account_of s a = option_map (λ role. record { id = a.id; role = role; digest = a.digest }) (role_of s a.role)

abbrev pub account_by : AccountRow → Option Role → Result Entry Cause
account_by a None = Err cause.UnknownReference
account_by a (Some role) = Ok (NewAccount (record { id = a.id; role = role; digest = a.digest }))

abbrev pub account_or_malformed : Setup → Option AccountRow → Result Entry Cause
account_or_malformed s None = Err cause.Malformed
account_or_malformed s (Some a) = account_by a (role_of s a.role)

abbrev pub account_record : FixedPart → List Text → Result Entry Cause
account_record f row = account_or_malformed f.settings (option_and_then account_fields (four_of row))
