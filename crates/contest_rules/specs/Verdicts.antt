-- The verdicts that judges ask for, and what they name (Contest API 2023-06, judgements; DOMjudge manual, "Judging").
use Rattle.std.specs.Prelude.{ℕ, List, map, Option, find}
use Rattle.std.specs.Option.{option_map, option_and_then}
use Rattle.std.specs.Str.{bytes_eq}
use Rattle.contest_types.specs.Places.{place_of}
use Rattle.contest_types.specs.State.{FixedPart, SubmissionRef, of_submission}
use Rattle.contest_types.specs.VisibleIds.{submission_id}
use Rattle.contest_types.specs.declared.objects.JudgementType.{JudgementType}
use Rattle.contest_types.specs.declared.submission.Release.{Release}
use Rattle.contest_types.specs.declared.submission.Submission.{Submission}
use Rattle.contest_rules.specs.declared.verdicts.NamedVerdict.{NamedVerdict}
use Rattle.contest_rules.specs.declared.verdicts.WantedVerdict.{WantedVerdict}

-- the submission that has an id, by its team and its number
abbrev pub submission_named : List ℕ → List Submission → Option SubmissionRef
submission_named id ss = option_map of_submission (find (λ (s : Submission). bytes_eq (submission_id s.team s.number) id) ss)

-- the place of the judgement type that has an id
abbrev pub type_named : List ℕ → FixedPart → Option ℕ
type_named id f = place_of id (map (λ (t : JudgementType). t.id) f.settings.types)

-- what a verdict for a submission names, where it and the judgement type are there
abbrev pub verdict_on : FixedPart → Option SubmissionRef → WantedVerdict → Option NamedVerdict
verdict_on f o w =
    option_and_then (λ (s : SubmissionRef). option_map (λ verdict. record { team = s.team; number = s.number; verdict = verdict }) (type_named w.judgement_type f)) o

-- the submission and the judgement type that a verdict names, where both are there
abbrev pub named_verdict : FixedPart → List Submission → WantedVerdict → Option NamedVerdict
named_verdict f ss w = verdict_on f (submission_named w.submission ss) w

-- the first release on a submission
abbrev pub first_release : (now : ℕ) → NamedVerdict → Release
first_release now n = record { team = n.team; number = n.number; round = 1; verdict = n.verdict; time = now }
