-- The submissions of a contest as CSV (own): records as the default writer of the crate csv writes them (RFC 4180, with lines
-- that end in LF).
use Rattle.std.specs.Prelude.{ℕ, ◌-ℤ◌, pos, List, [], ◌∷◌, ◌++◌, Option, None, codes}
use Rattle.std.specs.List.{flat_map, last_or}
use Rattle.std.specs.Option.{option_map, option_map_or}
use Rattle.csv.specs.Writing.{default_writer, row_text}
use Rattle.hex.specs.Hex.{encode_lower}
use Rattle.sha2.specs.Sha256.{sha256}
use Rattle.contest_types.specs.MomentText.{moment_text}
use Rattle.contest_types.specs.ProblemPlaces.{problem_id_at}
use Rattle.contest_types.specs.RelTimeText.{rel_time_text}
use Rattle.contest_types.specs.SettingsNames.{language_id_at, type_id_at}
use Rattle.contest_types.specs.Setup.{Setup}
use Rattle.contest_types.specs.State.{ContestState, FixedPart, releases_on}
use Rattle.contest_types.specs.TeamPlaces.{team_id_at}
use Rattle.contest_types.specs.VisibleIds.{submission_id}
use Rattle.contest_types.specs.declared.submission.Release.{Release}
use Rattle.contest_types.specs.declared.submission.Submission.{Submission}
use Rattle.contest_exports.specs.Walks.{all_in_order}

-- the names of the fields
abbrev pub header_fields : List (List ℕ)
header_fields =
    codes "id" ∷ codes "team_id" ∷ codes "problem_id" ∷ codes "language_id" ∷ codes "time" ∷ codes "contest_time" ∷ codes "judgement_type_id" ∷ codes "sha256" ∷ []

abbrev pub header : List ℕ
header = row_text default_writer header_fields

-- the time since the start; nothing where no start is set
abbrev pub contest_time_text : (start : Option ℕ) → (time : ℕ) → List ℕ
contest_time_text start time = option_map_or (λ s. rel_time_text (pos time -ℤ pos s)) start []

-- the id of a judgement type; nothing where there is none
abbrev pub type_text : Setup → (released : Option ℕ) → List ℕ
type_text s released = option_map_or (type_id_at s) released []

-- a submission whose last release has this judgement type: its id, its team's, problem's and language's, its time, that since the
-- start, the type, and the digest of its file (FIPS 180-4) in hexadecimal
abbrev pub submission_fields : FixedPart → (released : Option ℕ) → Submission → List (List ℕ)
submission_fields f released s =
    submission_id s.team s.number ∷ team_id_at f.settings s.team ∷ problem_id_at f.settings.problems s.problem ∷ language_id_at f.settings s.language
    ∷ moment_text s.time ∷ contest_time_text f.marks.start s.time ∷ type_text f.settings released ∷ encode_lower (sha256 s.file) ∷ []

abbrev pub submission_record : FixedPart → (released : Option ℕ) → Submission → List ℕ
submission_record f released s = row_text default_writer (submission_fields f released s)

-- the judgement type of the last release on a submission, by its place, if it has one
abbrev pub last_type : List Release → (team number : ℕ) → Option ℕ
last_type vs team number = option_map (λ (v : Release). v.verdict) (last_or None (releases_on team number vs))

-- the fields of a submission of a contest, and its record
abbrev pub fields_of : ContestState → Submission → List (List ℕ)
fields_of x s = submission_fields x.fixed (last_type x.releases s.team s.number) s

abbrev pub record_of : ContestState → Submission → List ℕ
record_of x s = submission_record x.fixed (last_type x.releases s.team s.number) s

-- the whole text: all submissions, by time, team id and number
abbrev pub submissions_csv : ContestState → List ℕ
submissions_csv x = header ++ flat_map (record_of x) (all_in_order x)
