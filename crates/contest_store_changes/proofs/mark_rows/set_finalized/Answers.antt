use Rattle.std.proofs.Common.{refl}
use Rattle.contest_types.specs.declared.entry.Entry.TheVariants.{SetFinalized}
use Rattle.contest_store_changes.proofs.mark_rows.set_finalized.Goals as goal

pub returns : goal.returns
returns g c = c.change_row.ensures c.args.lists.now (SetFinalized c.args.finalized) (refl, cc)
