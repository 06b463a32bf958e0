-- What is told of a board that is held beside another system's (own).
use Rattle.std.specs.Prelude.{ℕ, ◌++◌, ◌∷◌, Bool, List, [], codes, length, not}
use Rattle.std.specs.Fmt.{decimal}
use Rattle.contest_types.specs.Setup.{Setup}
use Rattle.contest_files.specs.FieldTexts.{Text, is_empty}
use Rattle.contest_score.specs.Ranking.{Scoreboard}
use Rattle.contest_comparison.specs.Differences.{differences}
use Rattle.contest_comparison.specs.declared.other_row.OtherRow.{OtherRow}

-- the differences; where there is none, how many rows the board has
abbrev pub told_of : (teams : ℕ) → (differences : Text) → Text
told_of teams [] = codes "the same: " ++ decimal teams ++ codes " teams\n"
told_of teams (c ∷ cs) = c ∷ cs

-- the text
abbrev pub comparison_text : Setup → Scoreboard → List OtherRow → Text
comparison_text s b there = told_of (length b.rows) (differences s b there)

-- there is a difference
abbrev pub has_difference : Setup → Scoreboard → List OtherRow → Bool
has_difference s b there = not (is_empty (differences s b there))
