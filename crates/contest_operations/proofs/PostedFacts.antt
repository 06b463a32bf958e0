-- What every command keeps to.
use Rattle.std.proofs.Common.{◌≡◌, ◌+◌, ◌<◌, ℕ, true, false, List, [], length, Some, None, Result, Ok, Err, refl, ap}
use Rattle.std.specs.Prelude.{◌⊎◌, ◌==◌, IfSome, is_some}
use Rattle.contest_types.specs.Accounts.{account_named}
use Rattle.contest_types.specs.Refusals.{status_of}
use Rattle.contest_types.specs.State.{FixedPart}
use Rattle.contest_types.specs.declared.account.Role.{Role}
use Rattle.contest_types.specs.declared.account.Role.TheVariants as role
use Rattle.contest_types.specs.declared.audience.Audience.TheVariants as audience
use Rattle.contest_types.specs.declared.refusal.Refusal.{Refusal}
use Rattle.contest_operations.specs.Callers.{Caller, audience_for, audience_of, is_admin, is_admin_by, judge_of, judging_id, team_for, team_of}
use Rattle.contest_operations.specs.Commands.{IsSoundPost, poster}
use Rattle.contest_operations.specs.Outcomes.{Outcome}
use Rattle.contest_operations.specs.declared.command.Posted.{Posted}

-- what is posted is its caller's, and is sound
pub record IsKnownPost (f : FixedPart) (who : Caller) (posted : Posted) : Type 0 where
  pub sound : IsSoundPost f posted
  pub speaks : poster posted ≡ audience_of who

abbrev pub IfKnownPost : FixedPart → Caller → Result Posted Refusal → Type 0
IfKnownPost f who (Err e) = Unit {0}
IfKnownPost f who (Ok posted) = IsKnownPost f who posted

-- what refuses it is no failure
abbrev pub OrdinaryRefusal : {A : Type 0} → Result A Refusal → Type 0
OrdinaryRefusal (Ok a) = Unit {0}
OrdinaryRefusal (Err e) = (status_of e == 503) ≡ false

-- it adds nothing, or it is answered as done
abbrev pub IsQuiet : Outcome → Type 0
IsQuiet o = (o.entries ≡ []) ⊎ (o.reply.status ≡ 200)

-- an audience that a caller speaks for, if it is a team
role_sight : (r : Role) (team : ℕ) → team_for r ≡ Some team → audience_for r ≡ audience.Team (team + 1)
role_sight (role.Team t) team is = let e : t ≡ team = cc is in ap (λ u. audience.Team (u + 1)) e
role_sight role.Judge team is = absurd (cc is)
role_sight role.Admin team is = absurd (cc is)
role_sight role.Analyst team is = absurd (cc is)

pub team_sight : (who : Caller) (team : ℕ) → team_of who ≡ Some team → audience_of who ≡ audience.Team (team + 1)
team_sight None team is = absurd (cc is)
team_sight (Some account) team is = role_sight account.role team is

judging_sight : (r : Role) (id account : List ℕ) → judging_id r id ≡ Some account → audience_for r ≡ audience.Jury
judging_sight (role.Team team) id account is = absurd (cc is)
judging_sight role.Judge id account is = refl
judging_sight role.Admin id account is = refl
judging_sight role.Analyst id account is = absurd (cc is)

pub jury_sight : (who : Caller) (account : List ℕ) → judge_of who ≡ Some account → audience_of who ≡ audience.Jury
jury_sight None account is = absurd (cc is)
jury_sight (Some a) account is = judging_sight a.role a.id account is

admin_by_sight : (r : Role) → is_admin_by r ≡ true → audience_for r ≡ audience.Jury
admin_by_sight (role.Team team) is = absurd (cc is)
admin_by_sight role.Judge is = absurd (cc is)
admin_by_sight role.Admin is = refl
admin_by_sight role.Analyst is = absurd (cc is)

pub admin_sight : (who : Caller) → is_admin who ≡ true → audience_of who ≡ audience.Jury
admin_sight None is = absurd (cc is)
admin_sight (Some a) is = admin_by_sight a.role is

-- a caller speaks for a team that is there, or judges by an account that is; the account that it holds is found by its id
pub record IsThere (f : FixedPart) (who : Caller) : Type 0 where
  pub team : IfSome (team_of who) (λ team. team < length f.settings.teams)
  pub judge : IfSome (judge_of who) (λ account. is_some (account_named f.accounts account) ≡ true)
  pub account : IfSome who (λ a. account_named f.accounts a.id ≡ Some a)
