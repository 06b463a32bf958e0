use Rattle.std.proofs.Common.{◌≡◌, ◌∙◌, subst}
use Rattle.std.proofs.Math.Path.{fun_ext}
use Rattle.contest_types.specs.State.{ContestState}
use Rattle.contest_lists.specs.Lists.{loaded}
use Rattle.contest_score.specs.CachedCells.{AreCellsOf}
use Rattle.contest_score.proofs.CachedLemmas.{cells_read, files_score_nothing}
use Rattle.contest_score.proofs.ValidLists.{valid_can_be_scored}
use Rattle.contest_store.proofs.scored_lists.ScoredLists.cells.Goals as goal

pub returns : goal.returns
returns c = λ x valid is.
    (let cells = c.self.inside.cells in
    let same : c.self.inside.lists ≡ loaded x = c.self.view_is ∙ is in
    let are : AreCellsOf (loaded x) cells = subst (λ (lists : ContestState). AreCellsOf lists cells) same c.self.invariant in
    cells_read (loaded x) cells are ((valid_can_be_scored x valid).1).few ∙ fun_ext (files_score_nothing x))
