-- Worked examples of what is served: which submissions are listed for whom, and which is found by an id.
use Rattle.std.proofs.Common.{◌≡◌, ℕ, List, [], ◌∷◌, Option, Some, None, true, refl}
use Rattle.std.specs.Prelude.{codes, map, is_some}
use Rattle.std.specs.Fmt.{digits}
use Rattle.contest_types.specs.Sight.{seen_verdict}
use Rattle.contest_types.specs.State.{ContestState}
use Rattle.contest_types.specs.declared.audience.Audience.{Audience}
use Rattle.contest_types.specs.declared.audience.Audience.TheVariants as audience
use Rattle.contest_types.proofs.ExampleContest.{hours, accepted, submitted, released}
use Rattle.contest_types.proofs.ExampleTalk.{base, hidden_submission, own_submission}
use Rattle.contest_view.specs.FileReads.{file_found}
use Rattle.contest_objects.specs.Items.{Item}
use Rattle.contest_view.specs.Reads.{submission_items, submission_found}

abbrev listed_for : Audience → List (List ℕ)
listed_for a = map (λ (i : Item). i.id) (submission_items a (hours 5) base)

-- the fourth team is hidden: its submission is listed for itself and the jury alone
public : listed_for audience.Public ≡ codes "s1-1" ∷ codes "s2-1" ∷ codes "s2-2" ∷ []
unfolding digits
public = refl

hidden_team : listed_for (audience.Team 4) ≡ codes "s1-1" ∷ codes "s2-1" ∷ codes "s4-1" ∷ codes "s2-2" ∷ []
unfolding digits
hidden_team = refl

jury : listed_for audience.Jury ≡ codes "s1-1" ∷ codes "s2-1" ∷ codes "s4-1" ∷ codes "s2-2" ∷ []
unfolding digits
jury = refl

-- what isn't seen is found no more than what isn't there; an id is compared as a text
hidden_not_found : submission_found audience.Public (hours 5) base (codes "s4-1") ≡ None
unfolding digits
hidden_not_found = refl

found_by_itself : is_some (submission_found (audience.Team 4) (hours 5) base (codes "s4-1")) ≡ true
unfolding digits
found_by_itself = refl

other_text : submission_found audience.Jury (hours 5) base (codes "s4-01") ≡ None
unfolding digits
other_text = refl

-- a file is for the team itself and the jury alone; of others, seen or not, it is as one that isn't there
own_file : file_found (audience.Team 1) (hours 5) base (codes "s1-1") ≡ Some own_submission.file
unfolding digits
own_file = refl

jurys_file : file_found audience.Jury (hours 5) base (codes "s4-1") ≡ Some hidden_submission.file
unfolding digits
jurys_file = refl

others_file : file_found (audience.Team 2) (hours 5) base (codes "s1-1") ≡ None
unfolding digits
others_file = refl

hidden_file : file_found (audience.Team 2) (hours 5) base (codes "s4-1") ≡ None
unfolding digits
hidden_file = refl

publics_file : file_found audience.Public (hours 5) base (codes "s1-1") ≡ None
unfolding digits
publics_file = refl

no_file : file_found audience.Jury (hours 5) base (codes "s1-2") ≡ None
unfolding digits
no_file = refl

-- verdicts on the hidden team's submissions, before the freeze and in it, are seen by itself and the jury alone;
-- in the freeze it learns no other team's
abbrev judged : ContestState
judged = record base { releases = released 3 1 1 accepted (hours 4) ∷ released 3 2 1 accepted (hours 4) ∷ released 0 2 1 accepted (hours 4) ∷ [] }

abbrev verdicts_for : Audience → List (Option ℕ)
verdicts_for a = map (seen_verdict a (hours 4) judged) (submitted 3 1 (hours 3) 0 ∷ submitted 3 2 (hours 4) 0 ∷ submitted 0 2 (hours 4) 0 ∷ [])

hidden_verdicts_public : verdicts_for audience.Public ≡ None ∷ None ∷ None ∷ []
hidden_verdicts_public = refl

hidden_verdicts_other : verdicts_for (audience.Team 2) ≡ None ∷ None ∷ None ∷ []
hidden_verdicts_other = refl

hidden_verdicts_own : verdicts_for (audience.Team 4) ≡ Some accepted ∷ Some accepted ∷ None ∷ []
hidden_verdicts_own = refl

hidden_verdicts_jury : verdicts_for audience.Jury ≡ Some accepted ∷ Some accepted ∷ Some accepted ∷ []
hidden_verdicts_jury = refl
