use Rattle.std.proofs.Common.{◌∙◌, ℕ, ap}
use Rattle.contest_types.specs.Masks.{mask_for}
use Rattle.contest_types.specs.declared.marks.Marks.{Marks}
use Rattle.contest_types.specs.declared.sight.Mask.{Mask}
use Rattle.contest_score.specs.declared.cell.Cell.{Cell}
use Rattle.contest_score.specs.CachedCells.{cell_cached}
use Rattle.contest_view.proofs.cells.cells_for.Goals as goal

pub returns : goal.returns
returns c = λ x shows.
    (let seen = c.args.seen.now in
    let by : Marks → (Mask → ℕ → ℕ → Cell) → ℕ → ℕ → Cell = λ marks cells team problem. cells (mask_for seen.audience marks seen.now team) team problem in
    ap (λ marks. by marks (cell_cached seen.cells.now)) (ap (λ f. f.marks) (c.fixed.ensures ∙ ap (λ l. l.fixed) shows.lists)) ∙ ap (by x.fixed.marks) shows.cells)
