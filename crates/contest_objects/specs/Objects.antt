-- The objects that are served, as JSON values (Contest API 2023-06; which members each object has is
-- this desk's choice).
use Rattle.std.specs.Prelude.{ℕ, List, ◌++◌, Option, Some, None, codes, map}
use Rattle.std.specs.Option.{option_map, option_and_then}
use Rattle.serde_json.specs.Data.{Data, string, array, object, item, no_items, Members, member, no_members}
use Rattle.serde_json.specs.View.{items_of}
use Rattle.contest_types.specs.VisibleIds.{submission_id}
use Rattle.contest_types.specs.ProblemPlaces.{problem_id_at}
use Rattle.contest_types.specs.SettingsNames.{language_id_at}
use Rattle.contest_types.specs.TeamPlaces.{team_id_at}
use Rattle.contest_objects.specs.Times.{contest_time_data}
use Rattle.contest_types.specs.MomentText.{moment_text}
use Rattle.contest_types.specs.State.{FixedPart}
use Rattle.contest_types.specs.Sight.{Program, SeenSubmission}

-- where a submission's file is served, without the first `/`
abbrev pub files_path : (contest id : List ℕ) → List ℕ
files_path contest id = codes "contests/" ++ (contest ++ (codes "/submissions/" ++ (id ++ codes "/files")))

-- the array of the one file
abbrev pub file_array : List ℕ → Data
file_array href =
    array (item (object (member (codes "href") (string href) (member (codes "mime") (string (codes "application/zip")) no_members))) no_items)

abbrev pub files_data : (contest id : List ℕ) → Data
files_data contest id = file_array (files_path contest id)

-- the array of the ids of what stands at these places
abbrev pub ids_data : (id : ℕ → List ℕ) → (places : List ℕ) → Data
ids_data id places = array (items_of (map (λ place. string (id place)) places))

-- a member that is only there with a value
abbrev pub member_where : Option Data → List ℕ → Members → Members
member_where None name rest = rest
member_where (Some d) name rest = member name d rest

-- a submission, by the values of its members
abbrev pub submission_members : (contest_time : Data) → (entry_point files : Option Data) → (id language problem team : List ℕ) → (time : Data) → Members
submission_members contest_time entry_point files id language problem team time =
    member (codes "contest_time") contest_time
    (member_where entry_point (codes "entry_point")
    (member_where files (codes "files")
    (member (codes "id") (string id)
    (member (codes "language_id") (string language)
    (member (codes "problem_id") (string problem)
    (member (codes "team_id") (string team)
    (member (codes "time") time no_members)))))))

-- the entry point is there where one was given and is shown, the file where it is shown
abbrev pub submission_data : FixedPart → (team number time problem language : ℕ) → Option Program → Data
submission_data f team number time problem language program =
    let id = submission_id team number in
    object (submission_members (contest_time_data f.marks.start time)
    (option_map string (option_and_then (λ (p : Program). p.entry_point) program))
    (option_map (λ (p : Program). files_data f.settings.head.id id) program)
    id (language_id_at f.settings language) (problem_id_at f.settings.problems problem) (team_id_at f.settings team)
    (string (moment_text time)))

-- a submission as an audience sees it
abbrev pub submission_object : FixedPart → SeenSubmission → Data
submission_object f s = submission_data f s.team s.number s.time s.problem s.language s.program
