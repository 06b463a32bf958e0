use Rattle.contest_store_sqlite.proofs.store.StoreContestStore.append.Goals as goal

pub returns : goal.returns
returns g c = rw (← c.self.view_is) c.append-done.ensures.leaves
