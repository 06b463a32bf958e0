-- Worked examples of what is exported, of the contest of the examples.
use Rattle.std.proofs.Common.{◌≡◌, [], ◌∷◌, None, Some, refl}
use Rattle.std.specs.Prelude.{codes, map}
use Rattle.std.specs.Fmt.{digits}
use Rattle.csv.specs.Writing.{fields_text, is_blank}
use Rattle.hex.specs.Hex.{encode_lower}
use Rattle.sha2.specs.Sha256.{sha256}
use Rattle.contest_types.specs.MomentText.{moment_text}
use Rattle.contest_types.proofs.ExampleContest.{accepted, minutes, released}
use Rattle.contest_types.proofs.ExampleTalk.{base, hidden_submission, own_release, own_submission}
use Rattle.contest_types.specs.VisibleIds.{submission_id}
use Rattle.contest_exports.specs.SubmissionsCsv.{contest_time_text, fields_of, header, last_type}
use Rattle.contest_exports.specs.Walks.{all_in_order}

first_line : header ≡ codes "id,team_id,problem_id,language_id,time,contest_time,judgement_type_id,sha256\n"
unfolding fields_text is_blank
first_line = refl

-- the last release on a submission counts, whichever came before it; one without has no type
last_counts : last_type (own_release ∷ released 0 1 2 accepted (minutes 12) ∷ []) 0 1 ≡ Some accepted
last_counts = refl

none_yet : last_type (own_release ∷ []) 0 2 ≡ None
none_yet = refl

released_wrong : fields_of base own_submission
    ≡ codes "s1-1" ∷ codes "t1" ∷ codes "a" ∷ codes "cpp" ∷ moment_text (minutes 10) ∷ codes "0:10:00.000" ∷ codes "WA" ∷ encode_lower (sha256 own_submission.file) ∷ []
unfolding digits
released_wrong = refl

-- a hidden team's submission is exported too
of_hidden : fields_of base hidden_submission
    ≡ codes "s4-1" ∷ codes "t9" ∷ codes "a" ∷ codes "cpp" ∷ moment_text (minutes 30) ∷ codes "0:30:00.000" ∷ [] ∷ encode_lower (sha256 hidden_submission.file) ∷ []
unfolding digits
of_hidden = refl

-- where no start is set there is no time since it
no_start : contest_time_text None (minutes 10) ≡ []
no_start = refl

-- by time, not by team or by acceptance
in_turn : map (λ s. submission_id s.team s.number) (all_in_order base) ≡ codes "s1-1" ∷ codes "s2-1" ∷ codes "s4-1" ∷ codes "s2-2" ∷ []
unfolding digits
in_turn = refl
