-- What becomes of a verdict that a judge proposes (DOMjudge manual, "Judging": verification; ids and the order
-- of refusals are own).
use Rattle.std.specs.Prelude.{ℕ, nat_le, List, [], ◌∷◌, Option, Some, None, Result, Ok, Err, if◌then◌else◌}
use Rattle.std.specs.List.{count_by}
use Rattle.contest_types.specs.State.{FixedPart, names, of_proposal}
use Rattle.contest_types.specs.ValidRejudgings.{is_released}
use Rattle.contest_types.specs.declared.entry.Entry.{Entry}
use Rattle.contest_types.specs.declared.entry.Entry.TheVariants.{NewProposal, NewRelease}
use Rattle.contest_types.specs.declared.limits.TheConstants.{PROPOSALS}
use Rattle.contest_types.specs.declared.proposal.Proposal.{Proposal}
use Rattle.contest_types.specs.declared.proposal.Proposer.TheVariants.{Account}
use Rattle.contest_rules.specs.declared.rule_refusal.RuleRefusal.{RuleRefusal}
use Rattle.contest_rules.specs.declared.rule_refusal.RuleRefusal.TheVariants.{UnknownReference, AlreadyReleased, TeamLimit}
use Rattle.contest_types.specs.declared.submission.Release.{Release}
use Rattle.contest_types.specs.declared.submission.Submission.{Submission}
use Rattle.contest_rules.specs.declared.proposing.NewVerdict.{NewVerdict}
use Rattle.contest_rules.specs.Verdicts.{first_release, named_verdict}
use Rattle.contest_rules.specs.declared.verdicts.NamedVerdict.{NamedVerdict}
use Rattle.contest_rules.specs.declared.verdicts.WantedVerdict.{WantedVerdict}

-- how many verdicts were proposed for a team's submission with this number
abbrev pub proposals_made : (team number : ℕ) → List Proposal → ℕ
proposals_made team number ps = count_by (λ (p : Proposal). names team number (of_proposal p)) ps

-- where the contest asks for verification nothing is released yet; else the first release is made at once
abbrev pub release_at_once : FixedPart → (now : ℕ) → NamedVerdict → Option Release
release_at_once f now n = if f.settings.head.verification then None else Some (first_release now n)

abbrev pub new_verdict : FixedPart → (now : ℕ) → (account : List ℕ) → NamedVerdict → NewVerdict
new_verdict f now account n = record {
  proposal = record { team = n.team; number = n.number; verdict = n.verdict; proposer = Account account; time = now };
  release = release_at_once f now n;
}

-- a verdict for a submission that is there: what is released changes no more by a proposal
abbrev pub propose_for : FixedPart → List Proposal → List Release → (now : ℕ) → (account : List ℕ) → NamedVerdict → Result NewVerdict RuleRefusal
propose_for f ps vs now account n =
    if is_released n.team n.number vs then Err AlreadyReleased
    else (if nat_le PROPOSALS (proposals_made n.team n.number ps) then Err TeamLimit else Ok (new_verdict f now account n))

-- what is named first
abbrev pub propose_named : FixedPart → Option NamedVerdict → List Proposal → List Release → (now : ℕ) → (account : List ℕ) → Result NewVerdict RuleRefusal
propose_named f o ps vs now account = elim o [ None ↦ Err UnknownReference | (Some n) ↦ propose_for f ps vs now account n ]

abbrev pub propose : FixedPart → List Submission → List Proposal → List Release → (now : ℕ) → (account : List ℕ) → WantedVerdict → Result NewVerdict RuleRefusal
propose f ss ps vs now account w = propose_named f (named_verdict f ss w) ps vs now account

-- what is added: the proposal, then its release
abbrev pub entries_of : NewVerdict → List Entry
entries_of v = NewProposal v.proposal ∷ elim v.release [ None ↦ [] | (Some r) ↦ NewRelease r ∷ [] ]
