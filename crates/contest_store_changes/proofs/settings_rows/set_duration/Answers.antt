use Rattle.std.proofs.Common.{refl}
use Rattle.contest_types.specs.declared.entry.Entry.TheVariants.{SetDuration}
use Rattle.contest_store_changes.proofs.settings_rows.set_duration.Goals as goal

pub returns : goal.returns
returns g c = c.change_row.ensures c.args.lists.now (SetDuration c.args.duration c.args.freeze) (refl, c.duration_cells.ensures)
