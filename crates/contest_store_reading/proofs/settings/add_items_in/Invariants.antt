use Rattle.std.proofs.Common.{◌≡◌, drop}
use Rattle.contest_store_reading.specs.Items.{items_in}
use Rattle.contest_store_reading.proofs.settings.add_items_in.Given as goal

abbrev pub invariant-loop-row : goal.invariant-loop-row
invariant-loop-row l = items_in l.initial.settings l.rows ≡ items_in l.settings (drop l.row-index l.rows)
