use Rattle.std.proofs.Common.{◌≡◌}
use Rattle.contest_score.specs.Table.{no_attempts}
use Rattle.contest_score.specs.Counting.{cells_table}
use Rattle.contest_score.proofs.counting.empty_table.Given as goal

abbrev pub invariant-loop : goal.invariant-loop
invariant-loop l = l.rows.items ≡ cells_table (λ _ _. no_attempts) l.counter l.problems
