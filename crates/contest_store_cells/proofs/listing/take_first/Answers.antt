use Rattle.contest_store_cells.proofs.listing.take_first.Goals as goal

pub returns-in_ok-push-clause-seen : goal.returns-in_ok-push-clause-seen
returns-in_ok-push-clause-seen c = λ t p. c.in_ok-insert.ensures.updates.0 (t, p)
