use Rattle.std.proofs.Common.{◌∙◌, ap}
use Rattle.sqlite.specs.Values.{bound}
use Rattle.contest_types.specs.State.{ContestState}
use Rattle.contest_types.specs.declared.fixed.Fixed.{Fixed}
use Rattle.contest_types.specs.declared.sight.Mask.TheVariants.{Full, Held}
use Rattle.contest_store_changes.proofs.BoundRows.{bound_as, cell_unreal}
use Rattle.contest_store_changes.proofs.ScoredEntries.{row_is}
use Rattle.contest_store_changes.proofs.cell_rows.write_cells.Goals as goal

pub returns : goal.returns
returns g c =
    let s = c.fixed.result.now.settings in
    let team = c.args.team in
    let problem = c.args.problem in (
      bound c.cell_cells.result,
      bound c.cell_cells-2.result,
      λ x valid held.
          (let own = ap (λ (f : Fixed). f.settings) c.fixed.ensures ∙ ap (λ (l : ContestState). l.fixed.settings) (c.lists.ensures ∙ held) in
          let cells = c.cells-cells.ensures x valid held in (
            bound_as c.cell_cells.result _ (cell_unreal s Held team problem c.cell-held.result) c.cell_cells.ensures ∙ row_is s x Held team problem c.cell-held.result own (c.cell-held.ensures ∙ ap (λ f. f Held team problem) cells),
            bound_as c.cell_cells-2.result _ (cell_unreal s Full team problem c.cell-full.result) c.cell_cells-2.ensures ∙ row_is s x Full team problem c.cell-full.result own (c.cell-full.ensures ∙ ap (λ f. f Full team problem) cells),
          )),
      c.write_both.ensures,
    )
