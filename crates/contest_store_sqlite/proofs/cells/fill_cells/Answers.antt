use Rattle.std.proofs.Common.{◌≡◌, ◌∙◌, List, ap, ap₂, map}
use Rattle.contest_types.specs.State.{ContestState, FixedPart}
use Rattle.contest_store_cells.specs.PlacedCells.{placed_row}
use Rattle.contest_store_cells.specs.declared.placed.PlacedCell.{PlacedCell}
use Rattle.contest_store_tables.specs.Connected.{shown_by}
use Rattle.contest_store_sqlite.proofs.SettledCells.{filled_by, not_listed}
use Rattle.contest_store_sqlite.proofs.cells.fill_cells.Goals as goal

pub returns-in-Ok : goal.returns-in-Ok
returns-in-Ok g c =
    let lists = c.args.lists.now in
    let fixed : c.fixed.result.now ≡ lists.fixed = c.fixed.ensures ∙ ap (λ (l : ContestState). l.fixed) c.lists.ensures in
    filled_by c.insert_cells.result (shown_by g.S.Store c.args.tables.now) (shown_by g.S.Store c.insert_cells.new.tables) _ _ lists (map (placed_row c.fixed.result.now.settings) c.deref.result.now)
    (λ x valid held. ap₂ (λ (f : FixedPart) (cells : List PlacedCell). map (placed_row f.settings) cells) fixed c.deref.ensures.value ∙ c.in-Ok.ensures.rows x valid held) c.insert_cells.ensures

pub returns-in-Err : goal.returns-in-Err
returns-in-Err g c =
    let up = c.out_of_memory in
    not_listed _ _ (shown_by g.S.Store c.args.tables.now) (shown_by g.S.Store up.new.self) _ _ c.args.lists.now up.ensures.error up.ensures.undone up.ensures.counts up.ensures.survives
