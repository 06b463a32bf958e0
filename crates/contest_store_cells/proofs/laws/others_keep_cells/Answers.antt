use Rattle.contest_store_cells.proofs.CellsKept.{others_keep_cells}
use Rattle.contest_store_cells.proofs.laws.others_keep_cells.Goals as goal

pub returns : goal.returns
returns c = others_keep_cells
