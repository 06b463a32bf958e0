-- The cells of a contest in a list, each with its mask, team and problem (own).
use Rattle.std.specs.declared.cmp.Ordering.{Ordering}
use Rattle.sqlite_value.specs.Order.{Row}
use Rattle.contest_types.specs.Setup.{Setup}
use Rattle.contest_store_cells.specs.CellRows.{by_place, cell_row}
use Rattle.contest_store_cells.specs.declared.placed.PlacedCell.{PlacedCell}

-- the row of a cell
abbrev pub placed_row : Setup → PlacedCell → Row
placed_row s c = cell_row s c.mask c.team c.problem c.cell

-- by the order of their rows
abbrev pub placed_cmp : Setup → PlacedCell → PlacedCell → Ordering
placed_cmp s a b = by_place (placed_row s a) (placed_row s b)
