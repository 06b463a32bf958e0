-- Worked examples: what a file of verdicts adds to a contest with two submissions of the first team.
use Rattle.std.proofs.Common.{◌≡◌, ℕ, true, List, [], ◌∷◌, refl, Result, Ok, Err}
use Rattle.std.specs.Prelude.{codes}
use Rattle.std.specs.Fmt.{digits}
use Rattle.contest_files.specs.FieldTexts.{Text}
use Rattle.contest_types.specs.State.{ContestState}
use Rattle.contest_types.specs.declared.entry.Entry.{Entry}
use Rattle.contest_types.specs.declared.entry.Entry.TheVariants.{NewProposal, NewRelease}
use Rattle.contest_types.specs.declared.proposal.Proposal.{Proposal}
use Rattle.contest_types.specs.declared.proposal.Proposer.TheVariants.{Import}
use Rattle.contest_types.specs.declared.refusal.Cause.TheVariants as cause
use Rattle.contest_types.specs.declared.refusal.Refusal.{Refusal}
use Rattle.contest_types.specs.declared.refusal.Refusal.TheVariants.{ImportRow, Malformed}
use Rattle.contest_types.specs.declared.submission.Release.{Release}
use Rattle.contest_types.proofs.ExampleContest.{accepted, empty, head, minutes, proposed, released, settings, submitted, wrong}
use Rattle.contest_import_verdicts.specs.VerdictFiles.{below_header, entries_if, verdicts_in}

abbrev standing : ContestState
standing = record empty { submissions = submitted 0 1 (minutes 5) 0 ∷ submitted 0 2 (minutes 6) 1 ∷ [] }

abbrev file : List (List Text) → List (List Text)
file rows = (codes "submission_id" ∷ codes "judgement_type_id" ∷ []) ∷ rows

abbrev says : (submission judgement_type : Text) → List Text
says submission judgement_type = submission ∷ judgement_type ∷ []

-- what these records add an hour after the start
abbrev added : ContestState → List (List Text) → Result (List Entry) Refusal
added x rows = entries_if (verdicts_in x (minutes 60) (below_header (file rows)))

abbrev imported : (number verdict : ℕ) → Proposal
imported number verdict = record { team = 0; number = number; verdict = verdict; proposer = Import; time = minutes 60 }

abbrev its_release : (number verdict : ℕ) → Release
its_release number verdict = record { team = 0; number = number; round = 1; verdict = verdict; time = minutes 60 }

nothing_added : added standing [] ≡ Ok []
nothing_added = refl

-- where nobody verifies each is released at once
two_added : added standing (says (codes "s1-2") (codes "WA") ∷ says (codes "s1-1") (codes "AC") ∷ [])
    ≡ Ok (NewProposal (imported 2 wrong) ∷ NewRelease (its_release 2 wrong) ∷ NewProposal (imported 1 accepted) ∷ NewRelease (its_release 1 accepted) ∷ [])
unfolding digits
two_added = refl

-- where somebody does it is only proposed
abbrev verified : ContestState
verified = record standing { fixed = record empty.fixed { settings = record settings { head = record head { verification = true } } } }

one_proposed : added verified (says (codes "s1-1") (codes "AC") ∷ []) ≡ Ok (NewProposal (imported 1 accepted) ∷ [])
unfolding digits
one_proposed = refl

-- an equal one that the file says already adds nothing; another type is at fault, and nothing is added
said_twice : added standing (says (codes "s1-1") (codes "AC") ∷ says (codes "s1-1") (codes "AC") ∷ []) ≡ Ok (NewProposal (imported 1 accepted) ∷ NewRelease (its_release 1 accepted) ∷ [])
unfolding digits
said_twice = refl

said_otherwise : added standing (says (codes "s1-1") (codes "AC") ∷ says (codes "s1-1") (codes "WA") ∷ []) ≡ Err (ImportRow 2 cause.KeyReused)
unfolding digits
said_otherwise = refl

-- so it is with one that was imported before, whatever was released since
abbrev before : ContestState
before = record standing { proposals = record (imported 1 wrong) { time = minutes 30 } ∷ []; releases = released 0 1 1 wrong (minutes 30) ∷ [] }

stands_already : added before (says (codes "s1-1") (codes "WA") ∷ []) ≡ Ok []
unfolding digits
stands_already = refl

stood_otherwise : added before (says (codes "s1-1") (codes "AC") ∷ []) ≡ Err (ImportRow 1 cause.KeyReused)
unfolding digits
stood_otherwise = refl

-- what a judge released is in the way of the first one
abbrev judged : ContestState
judged = record standing { proposals = proposed 0 1 wrong (minutes 30) ∷ []; releases = released 0 1 1 wrong (minutes 30) ∷ [] }

released_before : added judged (says (codes "s1-2") (codes "AC") ∷ says (codes "s1-1") (codes "WA") ∷ []) ≡ Err (ImportRow 2 cause.AlreadyReleased)
unfolding digits
released_before = refl

not_there : added standing (says (codes "s1-3") (codes "AC") ∷ []) ≡ Err (ImportRow 1 cause.UnknownReference)
unfolding digits
not_there = refl

no_type : added standing (says (codes "s1-1") (codes "TLE") ∷ []) ≡ Err (ImportRow 1 cause.UnknownReference)
unfolding digits
no_type = refl

no_id : added standing (says (codes "") (codes "AC") ∷ []) ≡ Err (ImportRow 1 cause.Malformed)
no_id = refl

one_field : added standing ((codes "s1-1" ∷ []) ∷ []) ≡ Err (ImportRow 1 cause.Malformed)
one_field = refl

no_header : entries_if (verdicts_in standing (minutes 60) (below_header (says (codes "s1-1") (codes "AC") ∷ []))) ≡ Err Malformed
no_header = refl
