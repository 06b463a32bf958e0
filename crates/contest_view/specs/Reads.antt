-- What an audience reads of a contest, as JSON (Contest API 2023-06). All of it is made of what the
-- audience sees, so that nothing tells what isn't seen from what isn't there.
use Rattle.std.specs.Prelude.{ℕ, List, Option, map, find}
use Rattle.std.specs.Str.{bytes_eq}
use Rattle.serde_json.specs.Data.{Data}
use Rattle.contest_types.specs.State.{FixedPart, ContestState}
use Rattle.contest_types.specs.Sight.{SeenSubmission, seen_submissions}
use Rattle.contest_types.specs.declared.audience.Audience.{Audience}
use Rattle.contest_types.specs.declared.submission.Submission.{Submission}
use Rattle.contest_types.specs.VisibleIds.{submission_id}
use Rattle.contest_objects.specs.Objects.{submission_object}
use Rattle.contest_objects.specs.Items.{Item, array_of, found_in}

-- the submission with this id, byte for byte, whoever sees it
abbrev pub named_submission : (id : List ℕ) → List Submission → Option Submission
named_submission id rows = find (λ (s : Submission). bytes_eq (submission_id s.team s.number) id) rows

abbrev pub submission_item : FixedPart → SeenSubmission → Item
submission_item f s = record { id = submission_id s.team s.number; object = submission_object f s }

-- the submissions that are seen, by time, team id and number
abbrev pub submission_items : Audience → ℕ → ContestState → List Item
submission_items a now x = map (submission_item x.fixed) (seen_submissions a now x)

-- all of them
abbrev pub submissions_data : Audience → ℕ → ContestState → Data
submissions_data a now x = array_of (submission_items a now x)

-- the one with this id
abbrev pub submission_found : Audience → ℕ → ContestState → (id : List ℕ) → Option Data
submission_found a now x = found_in (submission_items a now x)
