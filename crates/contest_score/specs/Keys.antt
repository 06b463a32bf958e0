-- What the sorts of the board go by.
-- Words of private functions: nothing public is said with them.
use Rattle.std.specs.Prelude.{◌≡◌, ℕ, ◌+◌, ◌-◌, ◌<◌, List, [], ◌∷◌, ◌++◌, length, Option, Some, None, slice_get, if◌then◌else◌}
use Rattle.std.specs.Ordering.{is_eq}
use Rattle.std.specs.Option.{option_map_or}
use Rattle.std.specs.declared.cmp.Ordering.{Ordering}
use Rattle.contest_types.specs.declared.objects.Group.{Group}
use Rattle.contest_types.specs.Setup.{Setup}
use Rattle.contest_score.specs.declared.cell.Cell.{Cell}
use Rattle.contest_score.specs.declared.group_awards.GroupKey.{GroupKey}
use Rattle.contest_score.specs.declared.standing.Standing.{Standing}
use Rattle.contest_score.specs.declared.row.Row.{Row}
use Rattle.contest_score.specs.declared.score.Score.{Score}
use Rattle.contest_score.specs.Ranking.{by_text, by_each, score_cmp, score_of_team, cells_of_team, name_at, team_id_at, place_in}

-- the key is that of the group at its place
pub record TellsGroup (gs : List Group) (k : GroupKey) : Type 0 where
  pub within : k.place < length gs
  pub id : k.id.now ≡ option_map_or (λ g. g.id) (slice_get gs k.place) []

-- the standing is that of the team at its place
pub record TellsTeam (s : Setup) (cells : ℕ → ℕ → Cell) (k : Standing) : Type 0 where
  pub within : k.place < length s.teams
  pub score : k.score ≡ score_of_team s cells k.place
  pub row : k.cells ≡ cells_of_team s cells k.place
  pub name : k.name.now ≡ name_at s k.place
  pub id : k.id.now ≡ team_id_at s k.place

abbrev pub by_score : Standing → Standing → Ordering
by_score a b = score_cmp a.score b.score

-- by score, then name, then id
abbrev pub standing_cmp : Standing → Standing → Ordering
standing_cmp = by_each (by_score ∷ by_text (λ k. k.name.now) ∷ by_text (λ k. k.id.now) ∷ [])

-- one more than the standings of the list that are better
abbrev pub rank_in : List Standing → Standing → ℕ
rank_in ys k = 1 + place_in by_score ys k

-- the row of a standing, with a rank
abbrev pub row_with : Standing → ℕ → Row
row_with k rank = record { team = k.place; rank = rank; score = k.score; cells = k.cells }

-- its row among these
abbrev pub row_in : List Standing → Standing → Row
row_in ks k = row_with k (rank_in ks k)

-- the rank of a score below so many rows, the last of which is given
abbrev pub rank_below : ℕ → Option Row → Score → ℕ
rank_below rows None score = rows + 1
rank_below rows (Some above) score = if is_eq (score_cmp above.score score) then above.rank else rows + 1

-- the rank of a score below these rows
abbrev pub next_rank : List Row → Score → ℕ
next_rank rows score = rank_below (length rows) (slice_get rows (length rows - 1)) score

-- these rows, and below them those of the standings
abbrev pub ranked : List Row → List Standing → List Row
ranked rows [] = rows
ranked rows (k ∷ ks) = ranked (rows ++ row_with k (next_rank rows k.score) ∷ []) ks
