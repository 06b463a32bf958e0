-- The file of a submission as it is read (Contest API 2023-06, submissions: files). It is for the team itself and the
-- jury alone.
use Rattle.std.specs.Prelude.{ℕ, ◌&&◌, List, Option, Some, None, find, if◌then◌else◌}
use Rattle.std.specs.Option.{option_map, option_and_then}
use Rattle.std.specs.Str.{bytes_eq}
use Rattle.contest_types.specs.Masks.{knows_all_of}
use Rattle.contest_types.specs.Sight.{Program, SeenSubmission, seen_submissions, sees_team}
use Rattle.contest_types.specs.State.{FixedPart, ContestState}
use Rattle.contest_types.specs.VisibleIds.{submission_id}
use Rattle.contest_types.specs.declared.audience.Audience.{Audience}
use Rattle.contest_types.specs.declared.submission.Submission.{Submission}

-- the file of what is seen of a submission, where its program is shown
abbrev pub shown_file : SeenSubmission → Option (List ℕ)
shown_file s = option_map (λ (p : Program). p.file) s.program

-- the file that an audience reads by an id: of the submission with this id that it sees
abbrev pub file_found : Audience → ℕ → ContestState → (id : List ℕ) → Option (List ℕ)
file_found a now x id = option_and_then shown_file (find (λ (s : SeenSubmission). bytes_eq (submission_id s.team s.number) id) (seen_submissions a now x))

-- the team and the number of a submission, for who is shown its program
abbrev pub place_for : Audience → Submission → Option (ℕ × ℕ)
place_for a s = if knows_all_of a s.team then Some (s.team, s.number) else None

-- whose file that is, by its team and its number, of a contest's submissions with or without their files
abbrev pub file_place : Audience → FixedPart → List Submission → (id : List ℕ) → Option (ℕ × ℕ)
file_place a f rows id = option_and_then (place_for a) (find (λ (s : Submission). sees_team a f.settings s.team && bytes_eq (submission_id s.team s.number) id) rows)
