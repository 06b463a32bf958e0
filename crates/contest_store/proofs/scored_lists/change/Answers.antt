use Rattle.std.proofs.lemmas.Result.{on_ok_weaker}
use Rattle.contest_store.proofs.scored_lists.change.Goals as goal

pub returns-clause-cells : goal.returns-clause-cells
returns-clause-cells c =
    on_ok_weaker c.score.result
    (λ scored. scored c.args.lists.now (record { submissions = c.in_ok-add.ensures.submissions; releases = c.in_ok-add.ensures.releases; settings = c.in_ok-add.ensures.fixed }))
    c.score.ensures
