-- Worked examples of boards that are held beside another system's scoreboard, and of what one says.
use Rattle.std.proofs.Common.{◌≡◌, ℕ, List, [], ◌∷◌, true, false, Bool, Option, Some, None, refl}
use Rattle.std.specs.Prelude.{codes}
use Rattle.std.specs.Fmt.{digits}
use Rattle.serde_json.specs.Data.{Data, array, boolean, item, member, no_items, no_members, null, number, object, string, unsigned}
use Rattle.contest_score.specs.Ranking.{Scoreboard}
use Rattle.contest_types.proofs.ExampleContest.{settings}
use Rattle.contest_types.specs.declared.minute.Minute.{Minute}
use Rattle.contest_comparison.specs.Comparisons.{comparison_text, has_difference}
use Rattle.contest_comparison.specs.Scoreboards.{cell_members, minutes_of, rows_in}
use Rattle.contest_comparison.specs.declared.other_row.OtherCell.{OtherCell}
use Rattle.contest_comparison.specs.declared.other_row.OtherRow.{OtherRow}

abbrev minute : ℕ → Option Minute
minute n = Some (record { 0 = n })

-- the board of two teams, of which the second solved nothing
abbrev board : Scoreboard
board = record {
  columns = 0 ∷ 1 ∷ [];
  rows =
      record { team = 0; rank = 1; score = record { solved = 1; total = 30; last = minute 10 }; cells = record { judged = 2; pending = 0; solved = minute 10; penalties = 1 } ∷ record { judged = 0; pending = 0; solved = None; penalties = 0 } ∷ [] }
      ∷ record { team = 1; rank = 2; score = record { solved = 0; total = 0; last = None }; cells = record { judged = 1; pending = 1; solved = None; penalties = 1 } ∷ record { judged = 0; pending = 0; solved = None; penalties = 0 } ∷ [] } ∷ [];
}

abbrev there : (problem : List ℕ) → (solved : Bool) → (time : Option Minute) → (judged pending : ℕ) → OtherCell
there problem solved time judged pending = record { problem = problem; values = record { solved = solved; time = time; judged = judged; pending = pending } }

abbrev row_there : (team : List ℕ) → (rank solved total : ℕ) → List OtherCell → OtherRow
row_there team rank solved total cells = record { team = team; values = record { rank = rank; solved = solved; total = total }; cells = cells }

-- the same, in another order, and with no cells of problems at which nothing was tried
abbrev equal : List OtherRow
equal = row_there (codes "t2") 2 0 0 (there (codes "a") false None 1 1 ∷ []) ∷ row_there (codes "t1") 1 1 30 (there (codes "a") true (minute 10) 2 0 ∷ []) ∷ []

two_teams_alike : comparison_text settings board equal ≡ codes "the same: 2 teams\n"
unfolding digits
two_teams_alike = refl

no_difference : has_difference settings board equal ≡ false
unfolding digits
no_difference = refl

-- others: the first team tried what it didn't, and a problem that there isn't; the second isn't there, and a third is
abbrev others : List OtherRow
others = row_there (codes "t9") 1 0 0 [] ∷ row_there (codes "t1") 2 0 0 (there (codes "z") false None 0 0 ∷ there (codes "b") false None 0 1 ∷ []) ∷ []

each_difference : comparison_text settings board others ≡ codes "team t1: rank 1, there 2\nteam t1: solved 1, there 0\nteam t1: time 30, there 0\nteam t1: problem A: solved true, there false\nteam t1: problem A: time 10, there none\nteam t1: problem A: judged 2, there 0\nteam t1: problem B: pending 0, there 1\nteam t1: problem z: there alone\nteam t2: here alone\nteam t9: there alone\n"
unfolding digits
each_difference = refl

some_differences : has_difference settings board others ≡ true
unfolding digits
some_differences = refl

-- a number of minutes, a relative time that is cut to them, and one below zero
whole_minutes : minutes_of (number (unsigned 83)) ≡ Some 83
whole_minutes = refl

cut_minutes : minutes_of (string (codes "0:10:59.999")) ≡ Some 10
cut_minutes = refl

no_minutes : minutes_of (string (codes "-0:00:01")) ≡ None
no_minutes = refl

-- a cell of which the problem alone is said, and null for the others
bare_cell : cell_members (object (member (codes "problem_id") (string (codes "a")) (member (codes "time") null no_members))) ≡ Some (there (codes "a") false None 0 0)
bare_cell = refl

-- a row with its cell, and the same team twice
abbrev row_data : Data
row_data =
    object (member (codes "team_id") (string (codes "t1")) (member (codes "rank") (number (unsigned 1))
    (member (codes "score") (object (member (codes "num_solved") (number (unsigned 0)) (member (codes "total_time") (number (unsigned 0)) no_members)))
    (member (codes "problems") (array (item (object (member (codes "problem_id") (string (codes "a")) (member (codes "solved") (boolean false) no_members))) no_items)) no_members))))

one_row : rows_in (object (member (codes "rows") (array (item row_data no_items)) no_members)) ≡ Some (row_there (codes "t1") 1 0 0 (there (codes "a") false None 0 0 ∷ []) ∷ [])
one_row = refl

team_twice : rows_in (object (member (codes "rows") (array (item row_data (item row_data no_items))) no_members)) ≡ None
team_twice = refl
