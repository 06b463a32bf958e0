use Rattle.std.proofs.Common.{◌≡◌, ◌+◌, ◌++◌, drop}
use Rattle.std.specs.Option.{option_map}
use Rattle.contest_store_rows.specs.Lists.{list_in, list_from}
use Rattle.contest_store_rows.specs.Rejudgings.{member_in}
use Rattle.contest_store_rows.proofs.rejudgings.read_members.Given as goal

-- what was read, and then what the rest is
abbrev pub invariant-loop-at : goal.invariant-loop-at
invariant-loop-at l =
    let row_in = member_in l.settings l.rejudging in
    list_in row_in l.rows ≡ option_map (λ xs. l.members ++ xs) (list_from row_in (l.at + 1) (drop l.at l.rows))
