use Rattle.std.proofs.Common.{rules}
use Rattle.contest_store_cells.proofs.ListedLemmas.{sorted_placed}
use Rattle.contest_store_cells.proofs.placed.sort.Goals as goal

pub returns-clause-sorted : goal.returns-clause-sorted
returns-clause-sorted c = sorted_placed c.args.settings.now _ c.sort_unstable_by.ensures.sorted (λ a r q k. search rules)
