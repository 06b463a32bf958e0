-- An account as its holder is served it (Contest API 2023-06, account; which members it has is this desk's choice).
use Rattle.std.specs.Prelude.{ℕ, List, Option, Some, None, codes}
use Rattle.serde_json.specs.Data.{Data, Members, string, object, member, no_members}
use Rattle.contest_types.specs.Setup.{Setup}
use Rattle.contest_types.specs.TeamPlaces.{team_id_at}
use Rattle.contest_types.specs.declared.account.Account.{Account}
use Rattle.contest_types.specs.declared.account.Role.{Role}
use Rattle.contest_types.specs.declared.account.Role.TheVariants as role
use Rattle.contest_objects.specs.Members.{text_or_null}

-- the standard's word for a role
abbrev pub role_name : Role → List ℕ
role_name (role.Team team) = codes "team"
role_name role.Judge = codes "judge"
role_name role.Admin = codes "admin"
role_name role.Analyst = codes "analyst"

-- the id of the team that an account speaks for, if it speaks for one
abbrev pub account_team : Setup → Role → Option (List ℕ)
account_team s (role.Team team) = Some (team_id_at s team)
account_team s role.Judge = None
account_team s role.Admin = None
account_team s role.Analyst = None

-- an account, by the values of its members
abbrev pub account_members : (id : List ℕ) → (team : Option (List ℕ)) → (type : List ℕ) → Members
account_members id team type =
    member (codes "id") (string id)
    (member (codes "team_id") (text_or_null team)
    (member (codes "type") (string type)
    (member (codes "username") (string id) no_members)))

-- its token is in no reply
abbrev pub account_data : Setup → Account → Data
account_data s a = object (account_members a.id (account_team s a.role) (role_name a.role))
