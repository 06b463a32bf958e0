-- Worked examples of boards and awards as text: cells, words, records and lines.
use Rattle.std.proofs.Common.{◌≡◌, ℕ, List, [], ◌∷◌, true, false, Option, Some, None, refl}
use Rattle.std.specs.Prelude.{codes}
use Rattle.std.specs.Fmt.{digits}
use Rattle.contest_score.specs.declared.award.Award.{Award}
use Rattle.contest_score.specs.declared.cell.Cell.{Cell}
use Rattle.contest_score.specs.Ranking.{Scoreboard}
use Rattle.contest_types.specs.Setup.{Setup}
use Rattle.contest_types.proofs.ExampleContest.{settings}
use Rattle.contest_text.specs.AwardsText.{awards_text}
use Rattle.contest_text.specs.BoardCsv.{board_csv}
use Rattle.contest_text.specs.CellText.{cell_text}
use Rattle.csv.specs.Writing.{default_writer, escaped, field_text, fields_text, is_blank}
use Rattle.contest_text.specs.BoardText.{of_group_text, word_of}
use Rattle.contest_types.specs.declared.audience.Phase.TheVariants as phase

abbrev cell : (judged pending : ℕ) → Option ℕ → Cell
cell judged pending None = record { judged = judged; pending = pending; solved = None; penalties = 0 }
cell judged pending (Some minute) = record { judged = judged; pending = pending; solved = Some (record { 0 = minute }); penalties = 0 }

-- nothing, solved in the 83rd minute at the third attempt, two failed, two failed and one pending, one pending
untried : cell_text (cell 0 0 None) ≡ codes "."
untried = refl

solved : cell_text (cell 3 0 (Some 83)) ≡ codes "+3/83"
unfolding digits
solved = refl

failed : cell_text (cell 2 0 None) ≡ codes "-2"
unfolding digits
failed = refl

failed_and_pending : cell_text (cell 2 1 None) ≡ codes "-2?1"
unfolding digits
failed_and_pending = refl

pending : cell_text (cell 0 1 None) ≡ codes "?1"
unfolding digits
pending = refl

-- `final` comes before `frozen`, and both before where the contest stands; before the start nothing else is said
before : word_of phase.Before true true ≡ codes "before"
before = refl

final_ended : word_of phase.Ended true true ≡ codes "final"
final_ended = refl

frozen_ended : word_of phase.Ended false true ≡ codes "frozen"
frozen_ended = refl

running : word_of phase.Running false false ≡ codes "running"
running = refl

-- the title names a group's board; the whole board's has no such words
whole_board : of_group_text settings None ≡ []
whole_board = refl

group_board : of_group_text (record settings { groups = record { id = codes "north"; name = codes "North" } ∷ [] }) (Some 0) ≡ codes " of North"
group_board = refl

-- a field is quoted where it has to be, and a quote in it stands twice
plain_field : field_text default_writer (codes "Alpha") ≡ codes "Alpha"
plain_field = refl

field_with_comma : field_text default_writer (codes "Alpha, Beta") ≡ codes "\"Alpha, Beta\""
unfolding escaped
field_with_comma = refl

field_with_quote : field_text default_writer (codes "a\"b") ≡ codes "\"a\"\"b\""
unfolding escaped
field_with_quote = refl

-- the board of two teams, of which the second solved nothing
abbrev board : Scoreboard
board = record {
  columns = 0 ∷ [];
  rows =
      record { team = 0; rank = 1; score = record { solved = 1; total = 30; last = Some (record { 0 = 10 }) }; cells = cell 3 0 (Some 10) ∷ [] }
      ∷ record { team = 1; rank = 2; score = record { solved = 0; total = 0; last = None }; cells = cell 1 1 None ∷ [] } ∷ [];
}

two_teams : board_csv settings board ≡ codes "rank,team_id,team,solved,time,last,A\n1,t1,Alpha,1,30,10,+3/10\n2,t2,Beta,0,0,,-1?1\n"
unfolding digits fields_text is_blank
two_teams = refl

-- a line for each award, its teams by their names
abbrev awards : List Award
awards =
    record { id = codes "winner"; citation = codes "Contest winner"; teams = 0 ∷ [] }
    ∷ record { id = codes "gold-medal"; citation = codes "Gold medal"; teams = 0 ∷ 1 ∷ [] }
    ∷ record { id = codes "first-to-solve-a"; citation = codes "First to solve problem A"; teams = 0 ∷ [] } ∷ []

three_awards : awards_text settings awards ≡ codes "winner: Contest winner: Alpha\ngold-medal: Gold medal: Alpha, Beta\nfirst-to-solve-a: First to solve problem A: Alpha\n"
three_awards = refl

no_awards : awards_text settings [] ≡ []
no_awards = refl
