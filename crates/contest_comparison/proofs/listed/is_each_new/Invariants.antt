use Rattle.std.proofs.Common.{◌≡◌, ℕ, List, true, map, take}
use Rattle.std.specs.Borrow.{Bor}
use Rattle.contest_types.specs.Places.{is_among, are_different}
use Rattle.contest_files.specs.IdArrays.{is_seen}
use Rattle.contest_comparison.proofs.listed.is_each_new.Given as goal

-- the ids so far were seen, and are different
abbrev pub invariant-loop-row : goal.invariant-loop-row
invariant-loop-row g l = ((other : Bor (List ℕ)) → is_seen l.seen other ≡ is_among (take l.row-index (map g.T.ListedRow.id l.rows)) other.now)
    × (are_different (take l.row-index (map g.T.ListedRow.id l.rows)) ≡ true)
