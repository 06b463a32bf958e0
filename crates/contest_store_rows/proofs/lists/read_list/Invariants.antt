use Rattle.std.proofs.Common.{◌≡◌, ◌+◌, ◌++◌, drop}
use Rattle.std.specs.Option.{option_map}
use Rattle.contest_store_rows.specs.Lists.{list_in, list_from}
use Rattle.contest_store_rows.proofs.lists.read_list.Given as goal

-- what was read, and then what the rest is
abbrev pub invariant-loop-at : goal.invariant-loop-at
invariant-loop-at g l =
    let row_in = g.T.Listed.row_in l.settings in
    list_in row_in l.rows ≡ option_map (λ xs. l.list ++ xs) (list_from row_in (l.at + 1) (drop l.at l.rows))
