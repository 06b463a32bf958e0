-- Which group the results for the ICPC name of a team that won several (own). The law is the contract of a function of src/laws.rt.
use Rattle.std.specs.Prelude.{◌≡◌, ℕ, List, [], filter, map, slice_get}
use Rattle.std.specs.List.{filter_map}
use Rattle.std.specs.Option.{option_map_or}
use Rattle.contest_types.specs.Setup.{Setup}
use Rattle.contest_types.specs.SettingsNames.{group_name_at}
use Rattle.contest_score.specs.AwardLaws.{has_award}
use Rattle.contest_score.specs.declared.award.Award.{Award}
use Rattle.contest_exports.specs.ResultsTsv.{group_of_award, group_text}

-- the names of the groups that a team won, in the order of the awards
abbrev pub groups_won : Setup → List Award → (team : ℕ) → List (List ℕ)
groups_won s awards team = map (group_name_at s) (filter_map (group_of_award s) (filter (has_award team) awards))

-- the first of them is named, and nothing if there is none
abbrev pub FirstGroupIsNamed : Type 0
FirstGroupIsNamed = (s : Setup) (awards : List Award) (team : ℕ) → group_text s awards team ≡ option_map_or (λ name. name) (slice_get (groups_won s awards team) 0) []
