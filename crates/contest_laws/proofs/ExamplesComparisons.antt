-- A worked example of a board beside another system's, the same and with one difference.
use Rattle.std.proofs.Common.{◌≡◌, ℕ, true, false, List, [], ◌∷◌, None, Some, refl}
use Rattle.std.specs.Prelude.{codes}
use Rattle.contest_types.proofs.ExampleContest.{settings}
use Rattle.contest_score.specs.Ranking.{Scoreboard}
use Rattle.contest_comparison.specs.Comparisons.{has_difference}
use Rattle.contest_comparison.specs.declared.other_row.OtherRow.{OtherRow}
use Rattle.contest_laws.specs.Comparing.{IsSameBoard}
use Rattle.contest_laws.proofs.ComparisonLaws.{differences_are_told}

-- the first team solved the first problem in its tenth minute, at its second attempt
abbrev board : Scoreboard
board = record {
  columns = 0 ∷ 1 ∷ [];
  rows =
      record {
        team = 0;
        rank = 1;
        score = record { solved = 1; total = 30; last = Some (record { 0 = 10 }) };
        cells = record { judged = 2; pending = 0; solved = Some (record { 0 = 10 }); penalties = 1 } ∷ record { judged = 0; pending = 0; solved = None; penalties = 0 } ∷ [];
      } ∷ [];
}

-- another system says the same, without a cell for the second problem; with this total
abbrev there : (total : ℕ) → List OtherRow
there total =
    record {
      team = codes "t1";
      values = record { rank = 1; solved = 1; total = total };
      cells = record { problem = codes "a"; values = record { solved = true; time = Some (record { 0 = 10 }); judged = 2; pending = 0 } } ∷ [];
    } ∷ []

none_told : has_difference settings board (there 30) ≡ false
none_told = refl

is_same : IsSameBoard settings board (there 30)
is_same = (differences_are_told settings board (there 30)).0 none_told

one_told : has_difference settings board (there 31) ≡ true
one_told = refl
