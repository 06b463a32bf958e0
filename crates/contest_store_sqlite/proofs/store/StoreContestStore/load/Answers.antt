use Rattle.contest_store_sqlite.proofs.store.StoreContestStore.load.Goals as goal

pub returns-clause-leaves : goal.returns-clause-leaves
returns-clause-leaves g c = rw (← c.self.view_is) c.load.ensures.leaves
