use Rattle.std.proofs.Common.{◌∙◌}
use Rattle.contest_score.proofs.ListsLemmas.{judged_all, cells_of_loads}
use Rattle.contest_score.proofs.lists.contest_cells.Goals as goal

pub plain_cells-requires-clause-admitted : goal.plain_cells-requires-clause-admitted
plain_cells-requires-clause-admitted c =
    rw (c.deref.ensures.value, c.in_ok-judged.ensures) (judged_all c.args.fixed.now c.args.submissions.now c.args.releases.now c.requires.countable c.requires.of_types)

pub returns-clause-loaded : goal.returns-clause-loaded
returns-clause-loaded c = λ x fixed sent released.
    c.in_ok-cells.ensures.cells ∙ cells_of_loads c.args.audience c.args.now c.args.fixed.now c.args.submissions.now c.args.releases.now c.deref.result.now x (c.deref.ensures.value ∙ c.in_ok-judged.ensures) fixed sent released
