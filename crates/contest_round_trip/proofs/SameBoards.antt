-- Boards of two settings whose teams and cells are the same.
use Rattle.std.proofs.Common.{◌≡◌, ◌∙◌, ◌+◌, ℕ, Bool, List, map, ap}
use Rattle.std.specs.Prelude.{filter, count_by, ◌∷◌, []}
use Rattle.std.specs.List.{range_with_len}
use Rattle.std.specs.Prelude.{length}
use Rattle.std.proofs.Math.Path.{fun_ext}
use Rattle.contest_types.specs.Order.{by_each, by_number, by_text, in_order}
use Rattle.contest_types.specs.Setup.{Setup}
use Rattle.contest_types.specs.TeamPlaces.{is_public, name_at, team_id_at}
use Rattle.contest_score.specs.Ranking.{beats, board_rows, cells_of_team}
use Rattle.contest_score.specs.Scoring.{score_of_cells}
use Rattle.contest_score.specs.declared.cell.Cell.{Cell}
use Rattle.contest_score.specs.declared.row.Row.{Row}
use Rattle.contest_score.specs.declared.score.Score.{Score}

-- the board of so many teams by what each is called, whether it is shown, and its cells
abbrev board_by : (teams : ℕ) → (shown : ℕ → Bool) → (name id : ℕ → List ℕ) → (penalty : ℕ) → (cells : ℕ → List Cell) → List Row
board_by teams shown name id penalty cells =
    let places : List ℕ = filter shown (range_with_len 0 teams) in
    let score : ℕ → Score = λ u. score_of_cells penalty (cells u) in
    let rank : ℕ → ℕ = λ u. 1 + count_by (λ w. beats (score w) (score u)) places in
    map (λ u. record { team = u; rank = rank u; score = score u; cells = cells u }) (in_order (by_each (by_number rank ∷ by_text name ∷ by_text id ∷ [])) places)

-- two settings that say the same of each team
pub record SameTeams (s t : Setup) : Type 0 where
  pub many : length s.teams ≡ length t.teams
  pub shown : (u : ℕ) → is_public s u ≡ is_public t u
  pub names : (u : ℕ) → name_at s u ≡ name_at t u
  pub ids : (u : ℕ) → team_id_at s u ≡ team_id_at t u
  pub penalty : s.head.penalty_time ≡ t.head.penalty_time

pub same_board : (s t : Setup) (c d : ℕ → ℕ → Cell) → SameTeams s t → ((u : ℕ) → cells_of_team s c u ≡ cells_of_team t d u) → board_rows s (is_public s) c ≡ board_rows t (is_public t) d
same_board s t c d same cells =
    let p : ℕ = s.head.penalty_time in
    ap (λ n. board_by n (is_public s) (name_at s) (team_id_at s) p (cells_of_team s c)) same.many
    ∙ ap (λ f. board_by (length t.teams) f (name_at s) (team_id_at s) p (cells_of_team s c)) (fun_ext same.shown)
    ∙ ap (λ f. board_by (length t.teams) (is_public t) f (team_id_at s) p (cells_of_team s c)) (fun_ext same.names)
    ∙ ap (λ f. board_by (length t.teams) (is_public t) (name_at t) f p (cells_of_team s c)) (fun_ext same.ids)
    ∙ ap (λ n. board_by (length t.teams) (is_public t) (name_at t) (team_id_at t) n (cells_of_team s c)) same.penalty
    ∙ ap (λ f. board_by (length t.teams) (is_public t) (name_at t) (team_id_at t) t.head.penalty_time f) (fun_ext cells)
