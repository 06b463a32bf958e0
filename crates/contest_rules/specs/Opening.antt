-- What becomes of a rejudging that the jury opens (DOMjudge manual, "Rejudging"; over which submissions it may be opened, and
-- the order of refusals, are own).
use Rattle.std.specs.Prelude.{ℕ, Bool, not, nat_le, List, length, map, Option, Some, None, is_some, Result, Ok, Err, if◌then◌else◌}
use Rattle.std.specs.List.{list_all, list_any}
use Rattle.contest_types.specs.Options.{all_some}
use Rattle.contest_types.specs.State.{FixedPart, SubmissionRef, names, of_member}
use Rattle.contest_types.specs.ValidRejudgings.{is_released, open_members}
use Rattle.contest_types.specs.declared.limits.TheConstants.{REJUDGINGS}
use Rattle.contest_types.specs.declared.rejudging.Member.{Member}
use Rattle.contest_types.specs.declared.rejudging.MemberState.TheVariants.{Empty}
use Rattle.contest_types.specs.declared.rejudging.Rejudging.{Rejudging}
use Rattle.contest_types.specs.declared.rejudging.RejudgingState.TheVariants.{Open}
use Rattle.contest_types.specs.declared.submission.Release.{Release}
use Rattle.contest_types.specs.declared.submission.Submission.{Submission}
use Rattle.contest_rules.specs.declared.candidates.Candidate.{Candidate}
use Rattle.contest_rules.specs.declared.opening.WantedRejudging.{WantedRejudging}
use Rattle.contest_rules.specs.declared.rule_refusal.RuleRefusal.{RuleRefusal}
use Rattle.contest_rules.specs.declared.rule_refusal.RuleRefusal.TheVariants.{InRejudging, NotOpen, RejudgingIncomplete, TeamLimit, UnknownReference}
use Rattle.contest_rules.specs.Verdicts.{submission_named}

-- a submission is a member of an open rejudging
abbrev pub is_rejudged : (team number : ℕ) → List Rejudging → Bool
is_rejudged team number rs = list_any (λ m. names team number (of_member m)) (open_members rs)

-- how a submission stands that is named for a rejudging
abbrev pub candidate_of : List Release → List Rejudging → SubmissionRef → Candidate
candidate_of vs rs s = record { team = s.team; number = s.number; is_released = is_released s.team s.number vs; is_rejudged = is_rejudged s.team s.number rs }

-- the submissions that have these ids, if each is there
abbrev pub submissions_named : List (List ℕ) → List Submission → Option (List SubmissionRef)
submissions_named ids ss = all_some (map (λ id. submission_named id ss) ids)

-- a member that waits for its verdict
abbrev pub member_of : Candidate → Member
member_of c = record { team = c.team; number = c.number; state = Empty }

abbrev pub are_released : List Candidate → Bool
are_released cs = list_all (λ (c : Candidate). c.is_released) cs

abbrev pub is_any_rejudged : List Candidate → Bool
is_any_rejudged cs = list_any (λ (c : Candidate). c.is_rejudged) cs

-- why none is opened over them: after final results, over what has no release or is judged again already, or over too many
abbrev pub opening_refusal : FixedPart → (opened : ℕ) → List Candidate → Option RuleRefusal
opening_refusal f opened cs =
    if is_some f.marks.finalized then Some NotOpen
    else (if not (are_released cs) then Some RejudgingIncomplete
    else (if is_any_rejudged cs then Some InRejudging
    else (if nat_le REJUDGINGS opened then Some TeamLimit else None)))

-- one that is opened over these, where so many were opened before
abbrev pub open_over : FixedPart → (opened : ℕ) → (reason : List ℕ) → List Candidate → Result Rejudging RuleRefusal
open_over f opened reason cs = elim (opening_refusal f opened cs) [
  | (Some refusal) ↦ Err refusal
  | None ↦ Ok (record { reason = reason; state = Open; members = map member_of cs })
]

-- what is named first
abbrev pub open_named : FixedPart → Option (List SubmissionRef) → List Release → List Rejudging → (reason : List ℕ) → Result Rejudging RuleRefusal
open_named f o vs rs reason = elim o [ None ↦ Err UnknownReference | (Some named) ↦ open_over f (length rs) reason (map (candidate_of vs rs) named) ]

abbrev pub open_rejudging : FixedPart → List Submission → List Release → List Rejudging → WantedRejudging → Result Rejudging RuleRefusal
open_rejudging f ss vs rs w = open_named f (submissions_named w.submissions ss) vs rs w.reason
