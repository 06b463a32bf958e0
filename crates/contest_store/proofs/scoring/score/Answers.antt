use Rattle.std.proofs.Common.{◌∙◌, sym}
use Rattle.std.proofs.lemmas.Result.{on_ok_weaker}
use Rattle.contest_store.proofs.ScoringLemmas.{scored_release, scored_submission, still_scored}
use Rattle.contest_store.proofs.scoring.score.Goals as goal

pub returns-then-scores_nothing : goal.returns-then-scores_nothing
returns-then-scores_nothing c = λ x grown are. still_scored c.args.entry.now x c.args.lists.now c.args.cells.now (sym c.scores_nothing.ensures ∙ c.if-scores_nothing.true) grown are

pub returns-in-NewSubmission : goal.returns-in-NewSubmission
returns-in-NewSubmission c =
    on_ok_weaker c.count_again.result
    (λ puts x grown are. scored_submission c.in-NewSubmission.row x c.args.lists.now c.args.cells.now c.count_again.new.cells (rw c.in-NewSubmission.is at grown) puts are)
    c.count_again.ensures

pub returns-in-NewRelease : goal.returns-in-NewRelease
returns-in-NewRelease c =
    on_ok_weaker c.count_numbered.result
    (λ puts x grown are. scored_release c.in-NewRelease.row x c.args.lists.now c.args.cells.now c.count_numbered.new.cells (rw c.in-NewRelease.is at grown) puts are)
    c.count_numbered.ensures
