-- What an audit of the jury's feed makes of a contest. Words of private functions: nothing public is said with them.
use Rattle.std.specs.Prelude.{◌-◌, ◌==◌, ℕ, List, map, slice_get, unwrap_or}
use Rattle.std.specs.List.{filter_map, position_from}
use Rattle.contest_types.specs.ProblemPlaces.{problem_order}
use Rattle.contest_types.specs.Setup.{Setup}
use Rattle.contest_types.specs.Sight.{SeenSubmission, seen_submissions, type_of}
use Rattle.contest_types.specs.State.{ContestState}
use Rattle.contest_types.specs.declared.audience.Audience.TheVariants.{Jury}
use Rattle.contest_types.specs.declared.objects.Problem.{Problem}
use Rattle.contest_score.specs.MaskedCells.{start_of}
use Rattle.contest_score.specs.declared.submission.JudgedSubmission.{JudgedSubmission}

-- the problems as they are listed
abbrev pub listed_problems : Setup → List Problem
listed_problems s = filter_map (slice_get s.problems) (problem_order s)

-- where a problem stands among them
abbrev pub spot_of : Setup → (problem : ℕ) → ℕ
spot_of s problem = unwrap_or (position_from (λ p. p == problem) 0 (problem_order s)) 0

-- a submission that the jury sees, of a contest that starts at moment 0
abbrev pub audited_attempt : ContestState → SeenSubmission → JudgedSubmission
audited_attempt x v = record { team = v.team; problem = spot_of x.fixed.settings v.problem; time = v.time - start_of x.fixed.marks; verdict = type_of v.judgement }

-- all of them
abbrev pub audited_attempts : (now : ℕ) → ContestState → List JudgedSubmission
audited_attempts now x = map (audited_attempt x) (seen_submissions Jury now x)
