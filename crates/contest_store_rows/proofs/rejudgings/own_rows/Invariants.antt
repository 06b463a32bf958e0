use Rattle.std.proofs.Common.{◌≡◌, ◌+◌, drop, length}
use Rattle.contest_store_rows.specs.Rejudgings.{own_rows}
use Rattle.contest_store_rows.proofs.rejudgings.own_rows.Given as goal

abbrev pub invariant-loop-at : goal.invariant-loop-at
invariant-loop-at l = length (own_rows l.rejudging l.members) ≡ l.at + length (own_rows l.rejudging (drop l.at l.members))
