-- What a contest director may ask of a board, whatever teams it shows and cells it is made of. Each is
-- the contract of a function of src/scoring_laws.rt.
use Rattle.std.specs.Prelude.{◌≡◌, ◌↔◌, ◌==◌, ◌+◌, ◌<◌, ℕ, Bool, true, false, not, List, [], ◌∷◌, length, map, count_by}
use Rattle.std.specs.Ordering.{is_lt}
use Rattle.contest_types.specs.Setup.{Setup, IsValid}
use Rattle.contest_types.specs.Order.{by_number, by_text, by_each, Has, IsInOrder}
use Rattle.contest_score.specs.declared.cell.Cell.{Cell}
use Rattle.contest_score.specs.declared.row.Row.{Row}
use Rattle.contest_score.specs.Ranking.{board_rows, name_at, team_id_at, problem_cmp, problem_order, beats}

-- the teams of the rows of a board, from the top
abbrev pub teams_of : List Row → List ℕ
teams_of rows = map (λ (r : Row). r.team) rows

-- each shown team stands on the board, and no other
abbrev pub ShownTeamsStand : Type 0
ShownTeamsStand =
    (s : Setup) (is_shown : ℕ → Bool) (cells : ℕ → ℕ → Cell) → IsValid s
    → (team : ℕ) → Has (teams_of (board_rows s is_shown cells)) team ↔ ((team < length s.teams) × (is_shown team ≡ true))

-- none stands twice
abbrev pub NoTeamStandsTwice : Type 0
NoTeamStandsTwice = (s : Setup) (is_shown : ℕ → Bool) (cells : ℕ → ℕ → Cell) → IsInOrder (λ u w. not (w == u)) (teams_of (board_rows s is_shown cells))

-- the first row has a smaller rank, or the same and a smaller name, or both the same and a smaller id
abbrev pub stands_above : Setup → Row → Row → Bool
stands_above s r q = is_lt (by_each (by_number (λ t. t.rank) ∷ by_text (λ t. name_at s t.team) ∷ by_text (λ t. team_id_at s t.team) ∷ []) r q)

-- each row stands above all that follow
abbrev pub RowsStandInOrder : Type 0
RowsStandInOrder = (s : Setup) (is_shown : ℕ → Bool) (cells : ℕ → ℕ → Cell) → IsInOrder (stands_above s) (board_rows s is_shown cells)

-- a row has its team's cell of each problem
abbrev pub RowsHaveEachProblem : Type 0
RowsHaveEachProblem =
    (s : Setup) (is_shown : ℕ → Bool) (cells : ℕ → ℕ → Cell) → IsValid s → (r : Row) → Has (board_rows s is_shown cells) r
    → (r.cells ≡ map (cells r.team) (problem_order s)) × (length r.cells ≡ length s.problems)

-- each problem is there, no other, and in strict order
abbrev pub ProblemsStandOnce : Type 0
ProblemsStandOnce =
    (s : Setup) → IsValid s
    → ((problem : ℕ) → Has (problem_order s) problem ↔ (problem < length s.problems))
    × IsInOrder (λ p q. is_lt (problem_cmp s.problems p q)) (problem_order s)

-- a row's rank is one more than the rows of the board that are better
abbrev pub RanksCountTheBetter : Type 0
RanksCountTheBetter =
    (s : Setup) (is_shown : ℕ → Bool) (cells : ℕ → ℕ → Cell) → IsValid s → (r : Row) → Has (board_rows s is_shown cells) r
    → r.rank ≡ 1 + count_by (λ (q : Row). beats q.score r.score) (board_rows s is_shown cells)

-- the better of two rows has the smaller rank, and where neither is better they share one
abbrev pub RanksFollowTheScores : Type 0
RanksFollowTheScores =
    (s : Setup) (is_shown : ℕ → Bool) (cells : ℕ → ℕ → Cell) (r q : Row) → Has (board_rows s is_shown cells) r → Has (board_rows s is_shown cells) q
    → ((beats r.score q.score ≡ true) ↔ (r.rank < q.rank))
    × (beats r.score q.score ≡ false → beats q.score r.score ≡ false → r.rank ≡ q.rank)
