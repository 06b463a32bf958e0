-- Teams by their places in the settings, from 0, and the groups that they are in.
use Rattle.std.specs.Prelude.{ℕ, ◌==◌, Bool, false, not, List, [], length, slice_get}
use Rattle.std.specs.List.{list_any, range_with_len}
use Rattle.std.specs.Option.{option_map_or}
use Rattle.contest_types.specs.Setup.{Setup}

-- the places of all teams
abbrev pub team_places : Setup → List ℕ
team_places s = range_with_len 0 (length s.teams)

-- the places of all groups
abbrev pub group_places : Setup → List ℕ
group_places s = range_with_len 0 (length s.groups)

abbrev pub name_at : Setup → ℕ → List ℕ
name_at s u = option_map_or (λ t. t.name) (slice_get s.teams u) []

abbrev pub team_id_at : Setup → ℕ → List ℕ
team_id_at s u = option_map_or (λ t. t.id) (slice_get s.teams u) []

-- the team at a place is one of a group's
abbrev pub is_of_group : Setup → (group team : ℕ) → Bool
is_of_group s group u = option_map_or (λ t. list_any (λ g. g == group) t.groups) (slice_get s.teams u) false

-- the team at a place isn't hidden
abbrev pub is_public : Setup → ℕ → Bool
is_public s u = option_map_or (λ t. not t.hidden) (slice_get s.teams u) false
