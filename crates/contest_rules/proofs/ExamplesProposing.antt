-- Worked examples: what becomes of a verdict that a judge proposes for the first team's first submission.
use Rattle.std.proofs.Common.{◌≡◌, ℕ, true, List, [], ◌∷◌, refl, Some, None, Result, Ok, Err}
use Rattle.std.specs.Prelude.{codes}
use Rattle.std.specs.Fmt.{digits}
use Rattle.contest_types.specs.State.{FixedPart}
use Rattle.contest_types.specs.declared.entry.Entry.TheVariants.{NewProposal, NewRelease}
use Rattle.contest_types.specs.declared.proposal.Proposal.{Proposal}
use Rattle.contest_types.specs.declared.proposal.Proposer.TheVariants.{Account}
use Rattle.contest_rules.specs.declared.rule_refusal.RuleRefusal.{RuleRefusal}
use Rattle.contest_rules.specs.declared.rule_refusal.RuleRefusal.TheVariants.{UnknownReference, AlreadyReleased}
use Rattle.contest_types.specs.declared.submission.Release.{Release}
use Rattle.contest_types.specs.declared.submission.Submission.{Submission}
use Rattle.contest_types.proofs.ExampleContest.{accepted, empty, head, minutes, settings, submitted, wrong}
use Rattle.contest_rules.specs.Proposing.{entries_of, propose}
use Rattle.contest_rules.specs.declared.proposing.NewVerdict.{NewVerdict}

abbrev standing : List Submission
standing = submitted 0 1 (minutes 5) 0 ∷ []

-- judge j1 asks for a verdict a minute later
abbrev decided : FixedPart → List Proposal → List Release → (submission judgement_type : List ℕ) → Result NewVerdict RuleRefusal
decided f ps vs submission judgement_type = propose f standing ps vs (minutes 6) (codes "j1") (record { submission = submission; judgement_type = judgement_type })

abbrev proposal_of : (verdict : ℕ) → Proposal
proposal_of verdict = record { team = 0; number = 1; verdict = verdict; proposer = Account (codes "j1"); time = minutes 6 }

abbrev release_of : (verdict : ℕ) → Release
release_of verdict = record { team = 0; number = 1; round = 1; verdict = verdict; time = minutes 6 }

-- where nobody verifies, it is released at once
at_once : decided empty.fixed [] [] (codes "s1-1") (codes "WA") ≡ Ok (record { proposal = proposal_of wrong; release = Some (release_of wrong) })
unfolding digits
at_once = refl

both_added : entries_of (record { proposal = proposal_of wrong; release = Some (release_of wrong) }) ≡ NewProposal (proposal_of wrong) ∷ NewRelease (release_of wrong) ∷ []
both_added = refl

-- where somebody has to, it is only proposed, and may be proposed again
abbrev verified : FixedPart
verified = record empty.fixed { settings = record settings { head = record head { verification = true } } }

held : decided verified [] [] (codes "s1-1") (codes "AC") ≡ Ok (record { proposal = proposal_of accepted; release = None })
unfolding digits
held = refl

proposed_again : decided verified (proposal_of wrong ∷ []) [] (codes "s1-1") (codes "AC") ≡ Ok (record { proposal = proposal_of accepted; release = None })
unfolding digits
proposed_again = refl

one_added : entries_of (record { proposal = proposal_of accepted; release = None }) ≡ NewProposal (proposal_of accepted) ∷ []
one_added = refl

-- what is released stays as it is
released : decided empty.fixed (proposal_of wrong ∷ []) (release_of wrong ∷ []) (codes "s1-1") (codes "AC") ≡ Err AlreadyReleased
unfolding digits
released = refl

-- a submission or a judgement type that isn't there; the submission is told by its whole id
no_submission : decided empty.fixed [] [] (codes "s1-2") (codes "AC") ≡ Err UnknownReference
unfolding digits
no_submission = refl

longer_id : decided empty.fixed [] [] (codes "s1-11") (codes "AC") ≡ Err UnknownReference
unfolding digits
longer_id = refl

no_type : decided empty.fixed [] [] (codes "s1-1") (codes "ac") ≡ Err UnknownReference
unfolding digits
no_type = refl
