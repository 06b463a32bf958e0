-- Worked examples of replay files: what a submission's record adds, and how a whole file is refused.
use Rattle.std.proofs.Common.{◌≡◌, false, [], ◌∷◌, Some, None, Ok, Err, refl}
use Rattle.std.specs.Prelude.{codes, map}
use Rattle.contest_types.specs.declared.refusal.Refusal.TheVariants.{Malformed}
use Rattle.contest_types.specs.declared.refusal.Cause.TheVariants as cause
use Rattle.contest_types.proofs.ExampleContest.{settings, minutes, accepted, wrong}
use Rattle.contest_score.specs.declared.submission.JudgedSubmission.{JudgedSubmission}
use Rattle.contest_files.specs.FieldTexts.{Text, flag_or_empty, ordinal_of, span_or_empty}
use Rattle.contest_replay.specs.ReplayRecord.{FiveFields}
use Rattle.contest_replay.specs.ReplayLists.{ReplayLists, with_submission}
use Rattle.contest_replay.specs.ReplayFile.{contest_of_records}

-- the first team was judged wrong at minute 5
abbrev earlier : JudgedSubmission
earlier = record { team = 0; problem = 0; time = minutes 5; verdict = Some wrong }

abbrev cup : ReplayLists
cup = record { settings = settings; submissions = earlier ∷ [] }

abbrev sent : (team problem time verdict : Text) → FiveFields
sent team problem time verdict = record { kind = codes "submission"; id = team; f1 = problem; f2 = time; f3 = verdict }

-- a time before the team's last counts from that, another team's as it is; an empty field is no verdict
raised : with_submission cup (sent (codes "t1") (codes "a") (codes "0:04:00") (codes "AC")) ≡ Ok (record cup { submissions = earlier ∷ record { team = 0; problem = 0; time = minutes 5; verdict = Some accepted } ∷ [] })
raised = refl

unjudged : with_submission cup (sent (codes "t2") (codes "a") (codes "0:00:00") []) ≡ Ok (record cup { submissions = earlier ∷ record { team = 1; problem = 0; time = 0; verdict = None } ∷ [] })
unjudged = refl

-- at the end is too late; what isn't there comes before the time, and what is off its form before that
too_late : with_submission cup (sent (codes "t1") (codes "a") (codes "5:00:00") []) ≡ Err cause.NotOpen
too_late = refl

not_there : with_submission cup (sent (codes "t7") (codes "a") (codes "5:00:00") []) ≡ Err cause.UnknownReference
not_there = refl

no_id : with_submission cup (sent (codes "t7") (codes "-a") (codes "5:00:00") []) ≡ Err cause.Malformed
no_id = refl

no_time : with_submission cup (sent (codes "t7") (codes "a") (codes "0:60:00") []) ≡ Err cause.Malformed
no_time = refl

-- without a contest record, or with another header, the whole file is off its form
no_contest : contest_of_records ((codes "kind" ∷ codes "id" ∷ codes "f1" ∷ codes "f2" ∷ codes "f3" ∷ []) ∷ (codes "team" ∷ codes "t1" ∷ codes "Alpha" ∷ [] ∷ [] ∷ []) ∷ []) ≡ Err Malformed
no_contest = refl

other_header : contest_of_records ([] ∷ []) ≡ Err Malformed
other_header = refl

-- an empty field is no freeze, or not hidden; an ordinal may begin with zeros, up to 65535
nothing : span_or_empty [] ≡ Some None
nothing = refl

not_hidden : flag_or_empty [] ≡ Some false
not_hidden = refl

ordinals : map ordinal_of (codes "007" ∷ codes "65535" ∷ codes "65536" ∷ codes "-1" ∷ []) ≡ Some 7 ∷ Some 65_535 ∷ None ∷ None ∷ []
ordinals = refl
