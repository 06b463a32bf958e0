-- How a cell of the board is written.
use Rattle.std.specs.Prelude.{ℕ, ◌==◌, List, [], ◌∷◌, ◌++◌, Option, Some, None, if◌then◌else◌, codes}
use Rattle.std.specs.Fmt.{decimal}
use Rattle.contest_types.specs.declared.minute.Minute.{Minute}
use Rattle.contest_score.specs.declared.cell.Cell.{Cell}

-- `+<judged>/<minute>` where it is solved, else `-<judged>` where something is judged
abbrev pub judged_text : ℕ → Option Minute → List ℕ
judged_text judged (Some minute) = codes "+" ++ decimal judged ++ codes "/" ++ decimal minute.0
judged_text judged None = if judged == 0 then [] else codes "-" ++ decimal judged

-- `?<pending>` where something is pending
abbrev pub pending_text : ℕ → List ℕ
pending_text pending = if pending == 0 then [] else codes "?" ++ decimal pending

-- a dot where there is nothing to write
abbrev pub or_dot : List ℕ → List ℕ
or_dot [] = codes "."
or_dot (c ∷ cs) = c ∷ cs

abbrev pub cell_text : Cell → List ℕ
cell_text c = or_dot (judged_text c.judged c.solved ++ pending_text c.pending)
