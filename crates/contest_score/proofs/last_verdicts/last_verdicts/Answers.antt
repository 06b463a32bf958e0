use Rattle.contest_score.specs.LastVerdicts.{type_in}
use Rattle.contest_score.proofs.LastTypes.{next_last}
use Rattle.contest_score.proofs.last_verdicts.last_verdicts.Goals as goal

pub loop-release-preserved : goal.loop-release-preserved
loop-release-preserved c =
    next_last (type_in c.loop-release.last) (type_in c.take_release.new.last) c.args.releases.now c.loop-release.release-index c.release-item.result c.loop-release-test.true c.release-item.is c.loop-release.invariant c.in_ok-take_release.ensures
