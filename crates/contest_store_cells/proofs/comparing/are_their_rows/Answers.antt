use Rattle.std.proofs.Common.{◌∙◌, ◌<◌, arith, length, sym}
use Rattle.std.proofs.lemmas.Bool.{false≢true}
use Rattle.contest_store_cells.specs.PlacedCells.{placed_row}
use Rattle.contest_store_cells.proofs.ListedRows.{its_row, own_row, row_at, rows_more}
use Rattle.contest_store_cells.proofs.comparing.are_their_rows.Goals as goal

pub returns-then-not-is_its_row : goal.returns-then-not-is_its_row
returns-then-not-is_its_row c =
    let s = c.args.settings.now in
    let row = c.index-rows-at.result in (
      λ none. absurd (false≢true none),
      λ all.
          (sym c.if-not-is_its_row.true
          ∙ (c.is_its_row.ensures ∙ own_row s row _ (row_at (placed_row s) c.args.rows.now c.args.cells.now c.loop-at.at row _ c.loop-at-test.true c.index-rows-at.is all))),
    )

pub loop-at-preserved : goal.loop-at-preserved
loop-at-preserved c =
    let s = c.args.settings.now in
    let row = c.index-rows-at.result in
    let within : c.loop-at.at < length c.args.rows.now = omega arith in
    rows_more (placed_row s) c.args.rows.now c.args.cells.now c.loop-at.at row _ within c.loop-at-test.true c.index-rows-at.is (its_row s row _ (sym c.is_its_row.ensures ∙ c.if-not-is_its_row.false)) c.loop-at.invariant
