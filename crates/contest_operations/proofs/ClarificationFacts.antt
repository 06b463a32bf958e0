-- A clarification that is posted: what its body and its caller give.
use Rattle.std.proofs.Common.{◌≡◌, ◌<◌, ℕ, true, List, length, Option, Some, None, refl}
use Rattle.std.specs.Prelude.{IfSome}
use Rattle.contest_types.specs.Accounts.{account_named}
use Rattle.contest_types.specs.Addable.{are_addable}
use Rattle.contest_types.specs.State.{ContestState, FixedPart}
use Rattle.contest_types.specs.declared.account.Account.{Account}
use Rattle.contest_types.specs.declared.audience.Audience.{Audience}
use Rattle.contest_types.specs.declared.account.Role.{Role}
use Rattle.contest_types.specs.declared.account.Role.TheVariants as role
use Rattle.contest_types.proofs.PlaceLemmas.{both_true}
use Rattle.contest_rules.specs.Clarifying.{audience_of as heard_as, clarify}
use Rattle.contest_rules.specs.Laws.{IsWriter}
use Rattle.contest_rules.specs.declared.clarifying.Sender.{Sender}
use Rattle.contest_rules.specs.declared.clarifying.WantedClarification.{WantedClarification}
use Rattle.contest_rules.specs.declared.decision.Decision.TheVariants.{Add, Stands}
use Rattle.contest_rules.proofs.ClarifiedLemmas.{clarified_is_addable}
use Rattle.contest_requests.specs.ClarificationBodies.{asked_in}
use Rattle.contest_requests.specs.declared.request.Method.TheVariants.{Get, Head}
use Rattle.contest_requests.specs.declared.request.Request.{Request}
use Rattle.contest_postings.specs.PostClarification.{said_entries, said_object}
use Rattle.contest_postings.specs.declared.clarification.Clarifying.{Clarifying}
use Rattle.contest_operations.specs.Callers.{Caller, audience_for, team_for}
use Rattle.contest_operations.specs.Commands.{posted_as}
use Rattle.contest_operations.specs.PostedClarifications.{clarification_outcome, clarifying_as, clarifying_from, posted_clarification, sender_for, writing_team}
use Rattle.contest_operations.specs.declared.command.Posted.TheVariants.{Clarification as OfClarification}
use Rattle.contest_operations.proofs.DoneLemmas.{done_addable}
use Rattle.contest_operations.proofs.PostedFacts.{IfKnownPost, IsThere, OrdinaryRefusal}

-- who writes is there, and is heard as who asks
abbrev IsHeardWriter : FixedPart → (account : List ℕ) → Audience → Sender → Type 0
IsHeardWriter f account a s = IsWriter f s account × (heard_as s ≡ a)

role_writes : (f : FixedPart) (a : Account) (r : Role) → a.role ≡ r → IfSome (team_for r) (λ team. team < length f.settings.teams) → account_named f.accounts a.id ≡ Some a
    → IfSome (sender_for r) (IsHeardWriter f a.id (audience_for r))
role_writes f a (role.Team team) is there named = ((there, (a, named, is)), refl)
role_writes f a role.Judge is there named = (rw named refl, refl)
role_writes f a role.Admin is there named = (rw named refl, refl)
role_writes f a role.Analyst is there named = tt

clarifying_known : (f : FixedPart) (a : Account) (s : Sender) (o : Option WantedClarification) → IsHeardWriter f a.id (audience_for a.role) s → IfKnownPost f (Some a) (posted_as OfClarification (clarifying_as s a.id o))
clarifying_known f a s None writer = tt
clarifying_known f a s (Some wanted) writer = record { sound = writer.0; speaks = writer.1 }

from_known : (f : FixedPart) (a : Account) (request : Request) (o : Option Sender) → IfSome o (IsHeardWriter f a.id (audience_for a.role)) → IfKnownPost f (Some a) (posted_as OfClarification (clarifying_from f a.id request o))
from_known f a request None writer = tt
from_known f a request (Some s) writer = clarifying_known f a s (asked_in (writing_team f s) request.key request.body) writer

pub clarification_known : (f : FixedPart) (who : Caller) (request : Request) → IsThere f who → IfKnownPost f who (posted_as OfClarification (posted_clarification f who request))
clarification_known f None request there = tt
clarification_known f (Some a) request there = from_known f a request (sender_for a.role) (role_writes f a a.role refl there.team there.account)

clarifying_ordinary : (s : Sender) (account : List ℕ) (o : Option WantedClarification) → OrdinaryRefusal (posted_as OfClarification (clarifying_as s account o))
clarifying_ordinary s account None = refl
clarifying_ordinary s account (Some wanted) = tt

from_ordinary : (f : FixedPart) (account : List ℕ) (request : Request) (o : Option Sender) → OrdinaryRefusal (posted_as OfClarification (clarifying_from f account request o))
from_ordinary f account request None = refl
from_ordinary f account request (Some s) = clarifying_ordinary s account (asked_in (writing_team f s) request.key request.body)

pub clarification_refusal_ordinary : (f : FixedPart) (who : Caller) (request : Request) → OrdinaryRefusal (posted_as OfClarification (posted_clarification f who request))
clarification_refusal_ordinary f None request = refl
clarification_refusal_ordinary f (Some a) request = from_ordinary f a.id request (sender_for a.role)

-- it doesn't go by the method
pub clarification_unmoved : (f : FixedPart) (who : Caller) (request : Request) → posted_clarification f who (record request { method = Head }) ≡ posted_clarification f who (record request { method = Get })
clarification_unmoved f None request = refl
clarification_unmoved f (Some a) request = refl

-- what it adds may be added
pub clarification_addable : (now : ℕ) (c : Clarifying) (x : ContestState) → IsWriter x.fixed c.sender c.account → are_addable x (clarification_outcome now c x).entries ≡ true
clarification_addable now c x writer =
    done_addable x (said_object x.fixed) said_entries (clarify x.fixed now c.sender c.account x.clarifications c.wanted) elim [
      | (Add said) ↦ λ is. both_true _ _ (clarified_is_addable x now c.sender c.account c.wanted said writer is) refl
      | (Stands said) ↦ λ is. refl
    ]
