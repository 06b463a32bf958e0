use Rattle.std.specs.Prelude.{◌≡◌, take}
use Rattle.contest_text.specs.BoardText.{name_width}
use Rattle.contest_text.proofs.board.name_width.Given as goal

abbrev pub invariant-loop-row : goal.invariant-loop-row
invariant-loop-row l = l.width ≡ name_width l.settings (take l.row-index l.rows)
