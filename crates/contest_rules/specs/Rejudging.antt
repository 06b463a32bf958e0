-- Members of a rejudging get their verdicts, and it is applied or cancelled (DOMjudge manual, "Rejudging"; that another account
-- gives the same verdict where verification is asked for, and the order of refusals, are own).
use Rattle.std.specs.Prelude.{ℕ, ◌+◌, Bool, true, false, ◌||◌, ◌&&◌, ◌==◌, not, List, [], ◌∷◌, ◌++◌, length, map, Option, Some, None, Result, Ok, Err, slice_get, if◌then◌else◌}
use Rattle.std.specs.List.{filter_map, list_all, position}
use Rattle.std.specs.Option.{option_map, option_map_or}
use Rattle.std.specs.Str.{bytes_eq}
use Rattle.contest_types.specs.State.{names, of_member, releases_on}
use Rattle.contest_types.specs.ValidRejudgings.{is_open}
use Rattle.contest_types.specs.declared.entry.Entry.{Entry}
use Rattle.contest_types.specs.declared.entry.Entry.TheVariants.{NewRelease, SetRejudging}
use Rattle.contest_types.specs.declared.rejudging.Member.{Member}
use Rattle.contest_types.specs.declared.rejudging.MemberState.{MemberState}
use Rattle.contest_types.specs.declared.rejudging.MemberState.TheVariants.{Empty, Proposed, Ready}
use Rattle.contest_types.specs.declared.rejudging.Rejudging.{Rejudging}
use Rattle.contest_types.specs.declared.rejudging.RejudgingState.TheVariants.{Applied}
use Rattle.contest_types.specs.declared.submission.Release.{Release}
use Rattle.contest_rules.specs.declared.rejudging.MemberChange.{MemberChange}
use Rattle.contest_rules.specs.declared.rule_refusal.RuleRefusal.{RuleRefusal}
use Rattle.contest_rules.specs.declared.rule_refusal.RuleRefusal.TheVariants.{RejudgingClosed, RejudgingIncomplete, UnknownReference}
use Rattle.contest_rules.specs.declared.verdicts.NamedVerdict.{NamedVerdict}

-- a verdict of an account settles a member's: it stands already, or another account proposed it
abbrev pub settles : (account : List ℕ) → (verdict : ℕ) → MemberState → Bool
settles account verdict Empty = false
settles account verdict (Proposed proposed by) = (proposed == verdict) && not (bytes_eq by account)
settles account verdict (Ready ready) = ready == verdict

-- what becomes of a member by it: without verification each verdict stands
abbrev pub member_after : (verification : Bool) → (account : List ℕ) → (verdict : ℕ) → MemberState → MemberState
member_after verification account verdict state = if not verification || settles account verdict state then Ready verdict else Proposed verdict account

-- where a submission is among the members
abbrev pub member_at : (team number : ℕ) → List Member → Option ℕ
member_at team number ms = position (λ m. names team number (of_member m)) ms

abbrev pub state_at : ℕ → List Member → MemberState
state_at place ms = option_map_or (λ (m : Member). m.state) (slice_get ms place) Empty

-- a verdict for a submission that is there, by an account
abbrev pub rejudge_in : (verification : Bool) → Rejudging → NamedVerdict → (account : List ℕ) → Result MemberChange RuleRefusal
rejudge_in verification r v account = elim (member_at v.team v.number r.members) [
  | None ↦ Err UnknownReference
  | (Some place) ↦ if is_open r then Ok (record { place = place; state = member_after verification account v.verdict (state_at place r.members) }) else Err RejudgingClosed
]

-- what is named first
abbrev pub rejudge_on : (verification : Bool) → Rejudging → Option NamedVerdict → (account : List ℕ) → Result MemberChange RuleRefusal
rejudge_on verification r None account = Err UnknownReference
rejudge_on verification r (Some v) account = rejudge_in verification r v account

-- the verdict of a member, once it stands
abbrev pub ready_verdict : MemberState → Option ℕ
ready_verdict Empty = None
ready_verdict (Proposed proposed by) = None
ready_verdict (Ready ready) = Some ready

abbrev pub is_ready : Member → Bool
is_ready m = option_map_or (λ verdict. true) (ready_verdict m.state) false

-- the next release of a member: its submission's rounds count on
abbrev pub release_of : List Release → (now : ℕ) → Member → Option Release
release_of vs now m =
    option_map (λ verdict. record { team = m.team; number = m.number; round = length (releases_on m.team m.number vs) + 1; verdict = verdict; time = now }) (ready_verdict m.state)

-- why a rejudging isn't applied
abbrev pub apply_refusal : Rejudging → Option RuleRefusal
apply_refusal r = if not (is_open r) then Some RejudgingClosed else (if list_all is_ready r.members then None else Some RejudgingIncomplete)

-- one that is applied releases the verdicts of all of its members
abbrev pub apply_on : List Release → (now : ℕ) → Rejudging → Result (List Release) RuleRefusal
apply_on vs now r = elim (apply_refusal r) [ (Some refusal) ↦ Err refusal | None ↦ Ok (filter_map (release_of vs now) r.members) ]

-- what is added then: its releases, and that it is applied
abbrev pub applied_entries : (number : ℕ) → List Release → List Entry
applied_entries number releases = map NewRelease releases ++ SetRejudging number Applied ∷ []

-- one that is cancelled releases none
abbrev pub cancel_on : Rejudging → Result (Unit {0}) RuleRefusal
cancel_on r = if is_open r then Ok tt else Err RejudgingClosed
