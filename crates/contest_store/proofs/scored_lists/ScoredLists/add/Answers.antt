use Rattle.contest_store.proofs.scored_lists.ScoredLists.add.Goals as goal

pub invariant_of-result : goal.invariant_of-result
invariant_of-result c = c.in-Ok.ensures.cells c.self.invariant
