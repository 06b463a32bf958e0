use Rattle.std.proofs.Common.{rules}
use Rattle.contest_score.proofs.BoardOrder.{sorted_standings}
use Rattle.contest_score.proofs.standing.sort.Goals as goal

pub returns-clause-sorted : goal.returns-clause-sorted
returns-clause-sorted c = sorted_standings _ c.sort_unstable_by.ensures.sorted (λ a r q k. search rules)
