use Rattle.std.proofs.Common.{◌≡◌, map}
use Rattle.std.specs.List.{range_with_len}
use Rattle.contest_score.specs.Table.{no_attempts}
use Rattle.contest_score.proofs.counting.empty_row.Given as goal

abbrev pub invariant-loop : goal.invariant-loop
invariant-loop l = l.row.items ≡ map (λ _. no_attempts) (range_with_len 0 l.counter)
