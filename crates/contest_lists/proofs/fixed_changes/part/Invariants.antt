use Rattle.std.proofs.Common.{◌≡◌, ◌++◌, filter}
use Rattle.std.specs.Vec.Iter.{into_iter_items}
use Rattle.contest_types.specs.Accounts.{comes_before}
use Rattle.contest_lists.proofs.fixed_changes.part.Given as goal

abbrev pub invariant-loop-other : goal.invariant-loop-other
invariant-loop-other l =
    (l.lower.items ++ filter (λ b. comes_before b l.account) (into_iter_items l.other-iterator) ≡ l.initial.lower.items ++ filter (λ b. comes_before b l.account) l.fn.others.items)
    × (l.higher.items ++ filter (λ b. comes_before l.account b) (into_iter_items l.other-iterator) ≡ l.initial.higher.items ++ filter (λ b. comes_before l.account b) l.fn.others.items)
