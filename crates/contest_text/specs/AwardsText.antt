-- The awards as text (own): a line for each.
use Rattle.std.specs.Prelude.{ℕ, List, [], ◌∷◌, ◌++◌, codes}
use Rattle.std.specs.List.{flat_map}
use Rattle.contest_types.specs.Setup.{Setup}
use Rattle.contest_types.specs.TeamPlaces.{name_at}
use Rattle.contest_score.specs.declared.award.Award.{Award}

-- one name more, behind a comma
abbrev pub next_name : Setup → ℕ → List ℕ
next_name s team = codes ", " ++ name_at s team

-- the names of the teams at these places, with commas between them
abbrev pub names_text : Setup → List ℕ → List ℕ
names_text s [] = []
names_text s (team ∷ teams) = name_at s team ++ flat_map (next_name s) teams

-- `<id>: <citation>: <names>` and the line's end
abbrev pub award_line : Setup → Award → List ℕ
award_line s w = w.id ++ codes ": " ++ w.citation ++ codes ": " ++ names_text s w.teams ++ codes "\n"

-- the whole text
abbrev pub awards_text : Setup → List Award → List ℕ
awards_text s awards = flat_map (award_line s) awards
