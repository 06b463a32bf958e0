-- An award as it is served (Contest API 2023-06, awards).
use Rattle.std.specs.Prelude.{ℕ, List, codes}
use Rattle.serde_json.specs.Data.{Data, string, object, member, no_members}
use Rattle.contest_types.specs.Setup.{Setup}
use Rattle.contest_types.specs.TeamPlaces.{team_id_at}
use Rattle.contest_objects.specs.Items.{Item}
use Rattle.contest_objects.specs.Objects.{ids_data}

-- an award with an id and a citation, and the places of the teams that have it
abbrev pub award_data : Setup → (id citation teams : List ℕ) → Data
award_data s id citation teams =
    object (member (codes "citation") (string citation) (member (codes "id") (string id) (member (codes "team_ids") (ids_data (team_id_at s) teams) no_members)))

abbrev pub award_item : Setup → (id citation teams : List ℕ) → Item
award_item s id citation teams = record { id = id; object = award_data s id citation teams }
