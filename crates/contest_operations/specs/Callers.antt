-- Who asks, and what each role may do (Contest Control System Requirements, "Users and Roles"; RFC 6750).
use Rattle.std.specs.Prelude.{ℕ, Bool, true, false, List, Option, Some, None, find}
use Rattle.std.specs.Option.{option_map, option_map_or, option_and_then}
use Rattle.std.specs.Str.{bytes_eq}
use Rattle.sha2.specs.Sha256.{sha256}
use Rattle.contest_types.specs.State.{FixedPart}
use Rattle.contest_types.specs.Masks.{audience_at}
use Rattle.contest_types.specs.declared.account.Account.{Account}
use Rattle.contest_types.specs.declared.account.Role.{Role}
use Rattle.contest_types.specs.declared.account.Role.TheVariants as role
use Rattle.contest_types.specs.declared.audience.Audience.{Audience}
use Rattle.contest_types.specs.declared.audience.Audience.TheVariants as audience
use Rattle.contest_requests.specs.declared.request.Credential.{Credential}
use Rattle.contest_requests.specs.declared.request.Credential.TheVariants.{Absent, Token, Bad}

-- anyone, or the holder of an account
abbrev pub Caller : Type 0
Caller = Option Account

-- the account that has a token, known by its digest
abbrev pub holder_of : List Account → (token : List ℕ) → Option Account
holder_of accounts token = find (λ (a : Account). bytes_eq a.digest (sha256 token)) accounts

-- who asks: the public without a token, none with one that isn't known
abbrev pub caller_of : FixedPart → Credential → Option Caller
caller_of f Absent = Some None
caller_of f (Token token) = option_map Some (holder_of f.accounts token)
caller_of f Bad = None

abbrev pub audience_for : Role → Audience
audience_for (role.Team team) = audience_at team
audience_for role.Judge = audience.Jury
audience_for role.Admin = audience.Jury
audience_for role.Analyst = audience.Jury

-- the audience that a caller is
abbrev pub audience_of : Caller → Audience
audience_of None = audience.Public
audience_of (Some account) = audience_for account.role

abbrev pub team_for : Role → Option ℕ
team_for (role.Team team) = Some team
team_for role.Judge = None
team_for role.Admin = None
team_for role.Analyst = None

-- a judge and an administrator judge by the id of their account
abbrev pub judging_id : Role → (id : List ℕ) → Option (List ℕ)
judging_id (role.Team team) id = None
judging_id role.Judge id = Some id
judging_id role.Admin id = Some id
judging_id role.Analyst id = None

-- the id of the account that a caller judges by
abbrev pub judge_of : Caller → Option (List ℕ)
judge_of who = option_and_then (λ (a : Account). judging_id a.role a.id) who

-- the team that the caller speaks for
abbrev pub team_of : Caller → Option ℕ
team_of who = option_and_then (λ (a : Account). team_for a.role) who

abbrev pub is_admin_by : Role → Bool
is_admin_by (role.Team team) = false
is_admin_by role.Judge = false
is_admin_by role.Admin = true
is_admin_by role.Analyst = false

-- the caller is an administrator
abbrev pub is_admin : Caller → Bool
is_admin who = option_map_or (λ (a : Account). is_admin_by a.role) who false

-- an analyst reads what the jury reads, and posts nothing
abbrev pub reads_all_by : Role → Bool
reads_all_by (role.Team team) = false
reads_all_by role.Judge = true
reads_all_by role.Admin = true
reads_all_by role.Analyst = true

-- the caller reads what only the jury reads
abbrev pub reads_all : Caller → Bool
reads_all who = option_map_or (λ (a : Account). reads_all_by a.role) who false
