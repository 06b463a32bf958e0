-- A contest's results as ICPC's systems take them: the file `results.tsv` of the Contest Control System Requirements. Fields
-- have a tab between them, and no id or name has one in it.
use Rattle.std.specs.Prelude.{ℕ, ◌==◌, Bool, ◌&&◌, List, [], ◌∷◌, ◌++◌, map, take, drop, length, Option, Some, None, if◌then◌else◌, codes}
use Rattle.std.specs.List.{flat_map, list_any}
use Rattle.std.specs.Option.{option_and_then, option_map_or}
use Rattle.std.specs.Fmt.{decimal}
use Rattle.std.specs.Str.{bytes_eq}
use Rattle.contest_types.specs.Places.{place_of}
use Rattle.contest_types.specs.Setup.{Setup}
use Rattle.contest_types.specs.SettingsNames.{group_name_at}
use Rattle.contest_types.specs.TeamPlaces.{team_id_at}
use Rattle.contest_types.specs.declared.minute.Minute.{Minute}
use Rattle.contest_types.specs.declared.objects.Group.{Group}
use Rattle.contest_score.specs.AwardLaws.{has_award}
use Rattle.contest_score.specs.declared.award.Award.{Award}
use Rattle.contest_score.specs.declared.row.Row.{Row}

-- the team has the award with this id
abbrev pub has_named : (id : List ℕ) → List Award → (team : ℕ) → Bool
has_named id awards team = list_any (λ (w : Award). bytes_eq w.id id && has_award team w) awards

-- the team's medal; who has none is ranked
abbrev pub medal_text : List Award → (team : ℕ) → List ℕ
medal_text awards team =
    if has_named (codes "gold-medal") awards team then codes "Gold Medal"
    else (if has_named (codes "silver-medal") awards team then codes "Silver Medal"
    else (if has_named (codes "bronze-medal") awards team then codes "Bronze Medal" else codes "Ranked"))

-- what follows a text at whose beginning another stands
abbrev pub text_after : (front text : List ℕ) → Option (List ℕ)
text_after front text = if bytes_eq (take (length front) text) front then Some (drop (length front) text) else None

-- the place of the group whose winner an award is for
abbrev pub group_of_award : Setup → Award → Option ℕ
group_of_award s w = option_and_then (λ id. place_of id (map (λ (g : Group). g.id) s.groups)) (text_after (codes "group-winner-") w.id)

-- the name of the first group that the team won, in the order of the awards; nothing where it won none
abbrev pub group_text : Setup → List Award → (team : ℕ) → List ℕ
group_text s [] team = []
group_text s (w ∷ ws) team =
    if has_award team w then option_map_or (group_name_at s) (group_of_award s w) (group_text s ws team) else group_text s ws team

-- the last minute at which a problem was solved; -1 where none was
abbrev pub last_solve_text : Option Minute → List ℕ
last_solve_text last = option_map_or (λ (m : Minute). decimal m.0) last (codes "-1")

-- what is said of a team behind its id: rank, medal, problems solved, total time, last minute, and the group that it won
abbrev pub result_fields : Setup → List Award → Row → List (List ℕ)
result_fields s awards r =
    decimal r.rank ∷ medal_text awards r.team ∷ decimal r.score.solved ∷ decimal r.score.total ∷ last_solve_text r.score.last ∷ group_text s awards r.team ∷ []

-- a further field of a line, behind a tab
abbrev pub next_field : List ℕ → List ℕ
next_field field = codes "\t" ++ field

-- a line of fields
abbrev pub tab_line : (first : List ℕ) → (others : List (List ℕ)) → List ℕ
tab_line first others = first ++ flat_map next_field others ++ codes "\n"

abbrev pub result_line : Setup → List Award → Row → List ℕ
result_line s awards r = tab_line (team_id_at s r.team) (result_fields s awards r)

-- the whole text: the format with its version, and a line for each row of the board
abbrev pub results_tsv : Setup → List Row → List Award → List ℕ
results_tsv s rows awards = codes "results\t1\n" ++ flat_map (result_line s awards) rows
