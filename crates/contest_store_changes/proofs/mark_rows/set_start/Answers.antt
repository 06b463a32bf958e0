use Rattle.std.proofs.Common.{refl}
use Rattle.contest_types.specs.declared.entry.Entry.TheVariants.{SetStart}
use Rattle.contest_store_changes.proofs.mark_rows.set_start.Goals as goal

pub returns : goal.returns
returns g c = c.change_row.ensures c.args.lists.now (SetStart c.args.start) (refl, cc)
