-- Judgements as they are served (Contest API 2023-06, judgements): one for each
-- submission whose verdict an audience sees, of its last release, made of what the audience sees.
use Rattle.std.specs.Prelude.{ℕ, List, map, Option, None, if◌then◌else◌}
use Rattle.std.specs.Option.{option_map}
use Rattle.serde_json.specs.Data.{Data}
use Rattle.contest_types.specs.Judging.{SeenJudgement, seen_judgements}
use Rattle.contest_types.specs.Masks.{mask_for, verdict_under}
use Rattle.contest_types.specs.Sight.{Judgement, judgement_of, sees_team}
use Rattle.contest_types.specs.State.{FixedPart, ContestState}
use Rattle.contest_types.specs.declared.audience.Audience.{Audience}
use Rattle.contest_types.specs.declared.submission.Release.{Release}
use Rattle.contest_types.specs.declared.submission.Submission.{Submission}
use Rattle.contest_objects.specs.Items.{Item, array_of, found_in}
use Rattle.contest_objects.specs.JudgementObjects.{judgement_item}

abbrev pub item_of : FixedPart → SeenJudgement → Item
item_of f v = judgement_item f v.submission.team v.submission.number v.judgement

-- those that an audience sees, in the order of their submissions
abbrev pub judgement_items : Audience → ℕ → ContestState → List Item
judgement_items a now x = map (item_of x.fixed) (seen_judgements a now x)

-- all of them
abbrev pub judgements_data : Audience → ℕ → ContestState → Data
judgements_data a now x = array_of (judgement_items a now x)

-- the one with this id
abbrev pub judgement_found : Audience → ℕ → ContestState → (id : List ℕ) → Option Data
judgement_found a now x = found_in (judgement_items a now x)

-- Words of private functions, from here on: nothing public is said with them.

-- what is seen of a submission, by what is released last on each
abbrev pub seen_of : Audience → ℕ → FixedPart → (last : ℕ → ℕ → Option Release) → Submission → Option Judgement
seen_of a now f last s =
    if sees_team a f.settings s.team then verdict_under (mask_for a f.marks now s.team) f.settings f.marks s.time (option_map judgement_of (last s.team s.number)) else None

-- as it is served, with the submission's judgement, if that is seen
abbrev pub judgement_row : Audience → ℕ → FixedPart → (last : ℕ → ℕ → Option Release) → Submission → Option Item
judgement_row a now f last s = option_map (judgement_item f s.team s.number) (seen_of a now f last s)
