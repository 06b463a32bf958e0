use Rattle.std.proofs.Common.{◌≡◌, ◌+◌, ◌++◌, drop}
use Rattle.std.specs.Option.{option_map}
use Rattle.contest_store_rows.specs.Rejudgings.{rejudgings_in, rejudgings_from}
use Rattle.contest_store_rows.proofs.rejudgings.read_rejudgings.Given as goal

-- what was read, and then what the rest of both tables is
abbrev pub invariant-loop-at : goal.invariant-loop-at
invariant-loop-at l = rejudgings_in l.settings l.rows l.members ≡ option_map (λ xs. l.rejudgings ++ xs) (rejudgings_from l.settings (l.at + 1) (drop l.at l.rows) l.left)
