use Rattle.std.proofs.Common.{map, refl, subst, sym, ◌≤◌, ℕ}
use Rattle.std.proofs.lemmas.List.{length-map}
use Rattle.contest_store_cells.specs.PlacedCells.{placed_row}
use Rattle.contest_store_tables.specs.Connected.{counts_of, shown_by}
use Rattle.contest_store_tables.specs.Steps.{MakesNone}
use Rattle.contest_store_tables.proofs.StepLemmas.{refuses}
use Rattle.contest_store_sqlite.specs.Settling.{Fillable, HasFilled}
use Rattle.contest_store_sqlite.proofs.SettledCells.{all_filled, none_filled, one_more_placed}
use Rattle.contest_store_sqlite.proofs.cells.insert_cells.Goals as goal

pub loop-at-init : goal.loop-at-init
loop-at-init g c = none_filled (shown_by g.S.Store c.args.tables.now) (counts_of c.args.tables.now) (map (placed_row c.args.settings.now) c.args.cells.now)

pub returns-in-Err : goal.returns-in-Err
returns-in-Err g c =
    let old = shown_by g.S.Store c.args.tables.now in
    let new = shown_by g.S.Store c.insert_cell.new.tables in
    let rows = map (placed_row c.args.settings.now) c.args.cells.now in
    refuses _ old new _ _ (Fillable rows) _ (HasFilled rows) (MakesNone old (Fillable rows))
    (one_more_placed _ old (shown_by g.S.Store c.loop-at.tables) new _ _ _ c.loop-at.at c.args.settings.now c.args.cells.now _ _ c.loop-at-test.true refl c.loop-at.invariant c.in-Err.ensures)

pub loop-at-preserved : goal.loop-at-preserved
loop-at-preserved g c =
    one_more_placed _ (shown_by g.S.Store c.args.tables.now) (shown_by g.S.Store c.loop-at.tables) (shown_by g.S.Store c.insert_cell.new.tables) _ _ _ c.loop-at.at c.args.settings.now c.args.cells.now _ _
    c.loop-at-test.true refl c.loop-at.invariant c.in-Ok.ensures

pub returns : goal.returns
returns g c =
    let rows = map (placed_row c.args.settings.now) c.args.cells.now in
    all_filled _ (shown_by g.S.Store c.args.tables.now) (shown_by g.S.Store c.loop-at.tables) _ _ rows c.loop-at.at
    (subst (λ (n : ℕ). n ≤ c.loop-at.at) (sym (length-map c.args.cells.now (placed_row c.args.settings.now))) c.loop-at-test.false) c.loop-at.invariant
