use Rattle.contest_store_sqlite.specs.declared.open_error.OpenError.TheVariants as open_error
use Rattle.contest_store_sqlite.proofs.open_error.OpenError.refusal.Goals as goal

pub returns-in-Store-clause-kinds : goal.returns-in-Store-clause-kinds
returns-in-Store-clause-kinds c = (open_error.Store _, c.refusal.ensures)
