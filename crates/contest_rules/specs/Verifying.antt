-- What becomes of a verdict that a judge verifies (DOMjudge manual, "Judging": verification; that another account repeats
-- the type, and the order of refusals, are own).
use Rattle.std.specs.Prelude.{ℕ, Bool, false, ◌==◌, List, Option, Some, None, Result, Ok, Err, if◌then◌else◌}
use Rattle.std.specs.List.{last_or}
use Rattle.std.specs.Str.{bytes_eq}
use Rattle.contest_types.specs.State.{FixedPart, proposals_for}
use Rattle.contest_types.specs.ValidRejudgings.{is_released}
use Rattle.contest_types.specs.declared.proposal.Proposal.{Proposal}
use Rattle.contest_types.specs.declared.proposal.Proposer.{Proposer}
use Rattle.contest_types.specs.declared.proposal.Proposer.TheVariants.{Account, Import}
use Rattle.contest_rules.specs.declared.rule_refusal.RuleRefusal.{RuleRefusal}
use Rattle.contest_rules.specs.declared.rule_refusal.RuleRefusal.TheVariants.{UnknownReference, AlreadyReleased, NothingToVerify, SameJudge, TypeDiffers}
use Rattle.contest_types.specs.declared.submission.Release.{Release}
use Rattle.contest_types.specs.declared.submission.Submission.{Submission}
use Rattle.contest_rules.specs.Verdicts.{first_release, named_verdict}
use Rattle.contest_rules.specs.declared.verdicts.NamedVerdict.{NamedVerdict}
use Rattle.contest_rules.specs.declared.verdicts.WantedVerdict.{WantedVerdict}

-- of the proposals for a submission the last one counts
abbrev pub last_proposal : (team number : ℕ) → List Proposal → Option Proposal
last_proposal team number ps = last_or None (proposals_for team number ps)

-- the account is the one that proposed; a file of verdicts is none
abbrev pub is_proposer : List ℕ → Proposer → Bool
is_proposer account (Account id) = bytes_eq id account
is_proposer account Import = false

-- another account releases what was proposed by naming its type
abbrev pub verify_of : (now : ℕ) → (account : List ℕ) → NamedVerdict → Proposal → Result Release RuleRefusal
verify_of now account n p = if is_proposer account p.proposer then Err SameJudge else (if p.verdict == n.verdict then Ok (first_release now n) else Err TypeDiffers)

-- a verdict for a submission that is there
abbrev pub verify_for : List Proposal → List Release → (now : ℕ) → (account : List ℕ) → NamedVerdict → Result Release RuleRefusal
verify_for ps vs now account n =
    if is_released n.team n.number vs then Err AlreadyReleased
    else elim (last_proposal n.team n.number ps) [ None ↦ Err NothingToVerify | (Some p) ↦ verify_of now account n p ]

-- what is named first
abbrev pub verify_named : Option NamedVerdict → List Proposal → List Release → (now : ℕ) → (account : List ℕ) → Result Release RuleRefusal
verify_named o ps vs now account = elim o [ None ↦ Err UnknownReference | (Some n) ↦ verify_for ps vs now account n ]

abbrev pub verify : FixedPart → List Submission → List Proposal → List Release → (now : ℕ) → (account : List ℕ) → WantedVerdict → Result Release RuleRefusal
verify f ss ps vs now account w = verify_named (named_verdict f ss w) ps vs now account
