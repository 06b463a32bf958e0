-- A clarification is posted (Contest API 2023-06, clarifications): who may, what its body says, and what becomes of it.
use Rattle.std.specs.Prelude.{ℕ, Bool, List, Option, Some, None, Result, Ok, Err, is_some}
use Rattle.std.specs.Option.{option_and_then}
use Rattle.contest_types.specs.State.{FixedPart, ContestState}
use Rattle.contest_types.specs.TeamPlaces.{team_id_at}
use Rattle.contest_types.specs.declared.account.Account.{Account}
use Rattle.contest_types.specs.declared.account.Role.{Role}
use Rattle.contest_types.specs.declared.account.Role.TheVariants as role
use Rattle.contest_types.specs.declared.refusal.Refusal.{Refusal}
use Rattle.contest_types.specs.declared.refusal.Refusal.TheVariants.{Malformed, RoleForbids}
use Rattle.contest_rules.specs.declared.clarifying.Sender.{Sender}
use Rattle.contest_rules.specs.declared.clarifying.Sender.TheVariants as sender
use Rattle.contest_rules.specs.declared.clarifying.WantedClarification.{WantedClarification}
use Rattle.contest_requests.specs.ClarificationBodies.{asked_in}
use Rattle.contest_requests.specs.declared.request.Request.{Request}
use Rattle.contest_postings.specs.PostClarification.{clarification_done}
use Rattle.contest_postings.specs.declared.clarification.Clarifying.{Clarifying}
use Rattle.contest_operations.specs.Callers.{Caller}
use Rattle.contest_operations.specs.Outcomes.{Outcome, told}

-- a team's account writes as its team, a judge's or an administrator's as the jury, and an analyst's not at all
abbrev pub sender_for : Role → Option Sender
sender_for (role.Team team) = Some (sender.Team team)
sender_for role.Judge = Some sender.Jury
sender_for role.Admin = Some sender.Jury
sender_for role.Analyst = None

abbrev pub may_write : Caller → Bool
may_write who = is_some (option_and_then (λ (a : Account). sender_for a.role) who)

-- the id of the team that writes, if one does
abbrev pub writing_team : FixedPart → Sender → Option (List ℕ)
writing_team f (sender.Team team) = Some (team_id_at f.settings team)
writing_team f sender.Jury = None

abbrev pub clarifying_as : Sender → (account : List ℕ) → Option WantedClarification → Result Clarifying Refusal
clarifying_as s account None = Err Malformed
clarifying_as s account (Some wanted) = Ok (record { sender = s; account = account; wanted = wanted })

abbrev pub clarifying_from : FixedPart → (account : List ℕ) → Request → Option Sender → Result Clarifying Refusal
clarifying_from f account request None = Err RoleForbids
clarifying_from f account request (Some s) = clarifying_as s account (asked_in (writing_team f s) request.key request.body)

abbrev pub clarifying_by : FixedPart → Account → Request → Result Clarifying Refusal
clarifying_by f a request = clarifying_from f a.id request (sender_for a.role)

-- whoever holds an account that may write
abbrev pub posted_clarification : FixedPart → Caller → Request → Result Clarifying Refusal
posted_clarification f None request = Err RoleForbids
posted_clarification f (Some account) request = clarifying_by f account request

abbrev pub clarification_outcome : (now : ℕ) → Clarifying → ContestState → Outcome
clarification_outcome now c x = told (clarification_done now c.sender c.account c.wanted x)
