use Rattle.contest_replay.proofs.ReplayUntil.{replay_valid}
use Rattle.contest_replay.proofs.replay.contest.ReplayContest.new.Goals as goal

pub returns-clause-valid : goal.returns-clause-valid
returns-clause-valid c = λ thawed. replay_valid c.args.settings c.args.submissions.items thawed c.requires.settings c.requires.reads
