use Rattle.std.proofs.Common.{◌≡◌, ◌++◌, take}
use Rattle.std.specs.List.{flat_map}
use Rattle.contest_objects.specs.JsonTokens.{data_tokens}
use Rattle.contest_view.specs.Scoreboards.{row_data}
use Rattle.contest_view.proofs.scoreboard.write_each_row.Given as goal

abbrev pub invariant-loop-row : goal.invariant-loop-row
invariant-loop-row l =
    (l.out.tokens ≡ l.fn.out.tokens ++ flat_map (λ row. data_tokens (row_data l.settings l.columns row)) (take l.row-index l.rows)) × (l.out.before ≡ l.fn.out.before)
