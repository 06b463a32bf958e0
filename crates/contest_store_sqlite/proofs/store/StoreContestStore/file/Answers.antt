use Rattle.contest_store_sqlite.proofs.store.StoreContestStore.file.Goals as goal

pub returns-clause-value : goal.returns-clause-value
returns-clause-value g c = rw (← c.self.view_is) c.file.ensures.value

pub returns-clause-leaves : goal.returns-clause-leaves
returns-clause-leaves g c = rw (← c.self.view_is) c.file.ensures.leaves
