use Rattle.contest_store_sqlite.proofs.store.StoreContestStore.rest.Goals as goal

pub returns-clause-leaves : goal.returns-clause-leaves
returns-clause-leaves g c = rw (← c.self.view_is) c.rest.ensures.leaves
