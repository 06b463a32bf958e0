-- What becomes of a clarification that a team asks or the jury writes (Contest API 2023-06, clarifications; DOMjudge
-- manual, "Clarifications"; keys, numbers, limits and the order of refusals are own).
use Rattle.std.specs.Prelude.{ℕ, ◌+◌, ◌<◌, ◌^◌, Bool, true, false, not, ◌&&◌, ◌==◌, nat_le, List, length, map, find, Option, None, Some, is_none, Result, Ok, Err, if◌then◌else◌}
use Rattle.std.specs.List.{count_by}
use Rattle.std.specs.Option.{option_map, option_map_or, option_and_then}
use Rattle.std.specs.Str.{bytes_eq}
use Rattle.contest_types.specs.Clock.{phase_at}
use Rattle.contest_types.specs.Masks.{audience_at}
use Rattle.contest_types.specs.Places.{place_of}
use Rattle.contest_types.specs.Sight.{sees_clarification}
use Rattle.contest_types.specs.State.{FixedPart, clarifications_to, same_addressee}
use Rattle.contest_types.specs.ValidClarifications.{Scope, OfTeam, OfAccount, is_request, same_scope, scope_of}
use Rattle.contest_types.specs.VisibleIds.{clarification_id}
use Rattle.contest_types.specs.declared.audience.Audience.{Audience}
use Rattle.contest_types.specs.declared.audience.Audience.TheVariants as audience
use Rattle.contest_types.specs.declared.audience.Phase.{Phase}
use Rattle.contest_types.specs.declared.audience.Phase.TheVariants as phase
use Rattle.contest_types.specs.declared.clarification.Addressee.{Addressee}
use Rattle.contest_types.specs.declared.clarification.Addressee.TheVariants as addressee
use Rattle.contest_types.specs.declared.clarification.Clarification.{Clarification}
use Rattle.contest_types.specs.declared.clarification.Reference.{Reference}
use Rattle.contest_types.specs.declared.limits.TheConstants.{JURY_CLARIFICATIONS, TEAM_REQUESTS}
use Rattle.contest_types.specs.declared.objects.Group.{Group}
use Rattle.contest_types.specs.declared.objects.Problem.{Problem}
use Rattle.contest_types.specs.declared.objects.Team.{Team}
use Rattle.contest_rules.specs.declared.clarifying.NamedClarification.{NamedClarification}
use Rattle.contest_rules.specs.declared.clarifying.Sender.{Sender}
use Rattle.contest_rules.specs.declared.clarifying.Sender.TheVariants as sender
use Rattle.contest_rules.specs.declared.clarifying.WantedAddressee.{WantedAddressee}
use Rattle.contest_rules.specs.declared.clarifying.WantedAddressee.TheVariants.{All as WantsAll, Group as WantsGroup, Team as WantsTeam}
use Rattle.contest_rules.specs.declared.clarifying.WantedClarification.{WantedClarification}
use Rattle.contest_rules.specs.declared.decision.Decision.{Decision}
use Rattle.contest_rules.specs.declared.decision.Decision.TheVariants.{Add, Stands}
use Rattle.contest_rules.specs.declared.rule_refusal.RuleRefusal.{RuleRefusal}
use Rattle.contest_rules.specs.declared.rule_refusal.RuleRefusal.TheVariants.{KeyReused, NotOpen, TeamLimit, UnknownReference}
use Rattle.contest_rules.specs.Submitting.{is_running, same_text}

-- what a sender hears it hears as an audience
abbrev pub audience_of : Sender → Audience
audience_of (sender.Team team) = audience_at team
audience_of sender.Jury = audience.Jury

-- the number of a team fits, as that of each team that is there does
abbrev pub HasAudience : Sender → Type 0
HasAudience (sender.Team team) = team + 1 < 2 ^ 64
HasAudience sender.Jury = Unit {0}

abbrev pub is_of_jury : Sender → Bool
is_of_jury (sender.Team team) = false
is_of_jury sender.Jury = true

-- what isn't asked for is none, and what is asked for has to be there
abbrev pub if_asked : {A B : Type 0} → Option A → Option B → Option (Option B)
if_asked None found = Some None
if_asked (Some asked) found = option_map (λ b. Some b) found

abbrev pub reference_of : Clarification → Reference
reference_of c = record { addressee = c.addressee; number = c.number }

-- the clarification that has an id, if the sender hears it
abbrev pub heard_clarification : FixedPart → Sender → List Clarification → List ℕ → Option Reference
heard_clarification f s cs id =
    option_map reference_of (find (λ (c : Clarification). sees_clarification (audience_of s) f.settings c && bytes_eq (clarification_id c.addressee c.number) id) cs)

-- whose it will be: a team's requests are its own, and the jury writes to a team, to a group or to all
abbrev pub addressee_for : FixedPart → Sender → WantedAddressee → Option Addressee
addressee_for f (sender.Team team) to = Some (addressee.Team team)
addressee_for f sender.Jury WantsAll = Some addressee.All
addressee_for f sender.Jury (WantsGroup id) = option_map (λ group. addressee.Group group) (place_of id (map (λ (g : Group). g.id) f.settings.groups))
addressee_for f sender.Jury (WantsTeam id) = option_map (λ team. addressee.Team team) (place_of id (map (λ (t : Team). t.id) f.settings.teams))

abbrev pub problem_for : FixedPart → Option (List ℕ) → Option (Option ℕ)
problem_for f problem = if_asked problem (option_and_then (λ id. place_of id (map (λ (p : Problem). p.id) f.settings.problems)) problem)

-- what is named by a clarification whose reply names one that is heard, or none
abbrev pub clarification_on : FixedPart → Sender → Option Reference → WantedClarification → Option NamedClarification
clarification_on f s heard w =
    option_and_then (λ to. option_and_then (λ problem. option_map (λ reply. record { addressee = to; problem = problem; reply = reply }) (if_asked w.reply heard)) (problem_for f w.problem))
    (addressee_for f s w.to)

-- the addressee, the problem and the clarification that are named, where each is there and the last is heard
abbrev pub named_clarification : FixedPart → Sender → List Clarification → WantedClarification → Option NamedClarification
named_clarification f s cs w = clarification_on f s (option_and_then (heard_clarification f s cs) w.reply) w

-- whose keys are told apart: a team's, whoever of its accounts writes, or a jury account's
abbrev pub scope_for : Sender → (account : List ℕ) → Scope
scope_for (sender.Team team) account = OfTeam (addressee.Team team)
scope_for sender.Jury account = OfAccount account

abbrev pub has_this_key : List ℕ → Clarification → Bool
has_this_key key c = option_map_or (λ own. bytes_eq own key) c.key false

-- the one under a key, of a scope's own
abbrev pub written_under : Scope → Option (List ℕ) → List Clarification → Option Clarification
written_under scope None cs = None
written_under scope (Some key) cs = find (λ c. same_scope scope (scope_of c) && has_this_key key c) cs

abbrev pub same_place : Option ℕ → Option ℕ → Bool
same_place None None = true
same_place (Some a) (Some b) = a == b
same_place _ _ = false

abbrev pub same_reply : Option Reference → Option Reference → Bool
same_reply None None = true
same_reply (Some a) (Some b) = same_addressee a.addressee b.addressee && (a.number == b.number)
same_reply _ _ = false

-- one that stands is what is asked for: problem, addressee, reply and text
abbrev pub says_the_same : Clarification → NamedClarification → (text : List ℕ) → Bool
says_the_same c n text = same_place c.problem n.problem && same_addressee c.addressee n.addressee && same_reply c.reply n.reply && bytes_eq c.text text

abbrev pub same_wanted : WantedAddressee → WantedAddressee → Bool
same_wanted WantsAll WantsAll = true
same_wanted (WantsGroup id) (WantsGroup other) = bytes_eq id other
same_wanted (WantsTeam id) (WantsTeam other) = bytes_eq id other
same_wanted _ _ = false

-- a team's go to the jury, the jury's to the team or the group that it names or to all
abbrev pub go_to_the_same : Sender → WantedAddressee → WantedAddressee → Bool
go_to_the_same (sender.Team team) to other = true
go_to_the_same sender.Jury to other = same_wanted to other

-- two of one sender ask for the same
abbrev pub want_the_same : Sender → WantedClarification → WantedClarification → Bool
want_the_same s v w = same_text v.problem w.problem && go_to_the_same s v.to w.to && same_text v.reply w.reply && bytes_eq v.text w.text

abbrev pub has_begun : Phase → Bool
has_begun phase.Before = false
has_begun phase.Running = true
has_begun phase.Ended = true

-- a team asks while the contest runs, the jury writes from the start on; nobody does once a finalized mark is set
abbrev pub may_write : FixedPart → Sender → (now : ℕ) → Bool
may_write f (sender.Team team) now = is_running (phase_at f.settings f.marks now) && is_none f.marks.finalized
may_write f sender.Jury now = has_begun (phase_at f.settings f.marks now) && is_none f.marks.finalized

-- it is by the sender's side: a team, or the jury
abbrev pub is_by : Sender → Clarification → Bool
is_by (sender.Team team) c = is_request c
is_by sender.Jury c = c.from_jury

-- how many the sender's side wrote among an addressee's
abbrev pub written_by : Sender → Addressee → List Clarification → ℕ
written_by s to cs = count_by (λ (c : Clarification). same_addressee c.addressee to && is_by s c) cs

-- as many as there may be: of a team's own requests, or of what the jury wrote to one addressee
abbrev pub most_by : Sender → ℕ
most_by (sender.Team team) = TEAM_REQUESTS
most_by sender.Jury = JURY_CLARIFICATIONS

-- the addressee's next one, as of now
abbrev pub next_clarification : (now : ℕ) → Sender → (account : List ℕ) → List Clarification → NamedClarification → WantedClarification → Clarification
next_clarification now s account cs n w = record {
  addressee = n.addressee;
  number = length (clarifications_to n.addressee cs) + 1;
  from_jury = is_of_jury s;
  account = account;
  problem = n.problem;
  reply = n.reply;
  text = w.text;
  time = now;
  key = w.key;
}

-- one under a key that stands: for the same, or for something else
abbrev pub said_again : Clarification → NamedClarification → (text : List ℕ) → Result (Decision Clarification Clarification) RuleRefusal
said_again c n text = if says_the_same c n text then Ok (Stands c) else Err KeyReused

-- one that is new: the clock first, then the limit
abbrev pub said_anew : FixedPart → (now : ℕ) → Sender → (account : List ℕ) → List Clarification → NamedClarification → WantedClarification → Result (Decision Clarification Clarification) RuleRefusal
said_anew f now s account cs n w =
    if not (may_write f s now) then Err NotOpen
    else (if nat_le (most_by s) (written_by s n.addressee cs) then Err TeamLimit else Ok (Add (next_clarification now s account cs n w)))

abbrev pub clarify_named : FixedPart → (now : ℕ) → Sender → (account : List ℕ) → List Clarification → NamedClarification → WantedClarification → Result (Decision Clarification Clarification) RuleRefusal
clarify_named f now s account cs n w = elim (written_under (scope_for s account) w.key cs) [
  | (Some c) ↦ said_again c n w.text
  | None ↦ said_anew f now s account cs n w
]

-- what is named first
abbrev pub clarify_on : FixedPart → Option NamedClarification → (now : ℕ) → Sender → (account : List ℕ) → List Clarification → WantedClarification → Result (Decision Clarification Clarification) RuleRefusal
clarify_on f o now s account cs w = elim o [ None ↦ Err UnknownReference | (Some n) ↦ clarify_named f now s account cs n w ]

abbrev pub clarify : FixedPart → (now : ℕ) → Sender → (account : List ℕ) → List Clarification → WantedClarification → Result (Decision Clarification Clarification) RuleRefusal
clarify f now s account cs w = clarify_on f (named_clarification f s cs w) now s account cs w
