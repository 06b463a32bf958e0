use Rattle.std.proofs.Common.{refl}
use Rattle.contest_types.specs.declared.entry.Entry.TheVariants.{SetDigest}
use Rattle.contest_store_changes.proofs.settings_rows.set_digest.Goals as goal

pub returns : goal.returns
returns g c = c.change_row.ensures c.args.lists.now (SetDigest c.args.id.now c.args.digest.now) (refl, c.digest_cells.ensures)
