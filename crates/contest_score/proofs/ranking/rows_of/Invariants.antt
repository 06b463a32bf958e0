use Rattle.std.proofs.Common.{◌≡◌, ◌+◌, ◌≤◌, [], length}
use Rattle.std.specs.Vec.Iter.{into_iter_items}
use Rattle.contest_types.specs.declared.limits.TheConstants.{TEAMS}
use Rattle.contest_score.specs.Keys.{ranked}
use Rattle.contest_score.proofs.ranking.rows_of.Given as goal

-- the rows so far, and below them those of the standings that are left, are all the rows
abbrev pub invariant-loop-standing : goal.invariant-loop-standing
invariant-loop-standing l =
    (goal.iterator-loop-standing).can_next l.standing-iterator ×
    (goal.iterator-loop-standing).is_finite l.standing-iterator ×
    (length l.rows.items + length (into_iter_items l.standing-iterator) ≤ TEAMS) ×
    (ranked [] l.fn.standings.items ≡ ranked l.rows.items (into_iter_items l.standing-iterator))
