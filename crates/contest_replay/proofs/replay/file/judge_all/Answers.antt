use Rattle.contest_replay.proofs.ReplayFileLemmas.{read_if_taken, refused_if_taken}
use Rattle.contest_replay.proofs.replay.file.judge_all.Goals as goal

pub returns-clause-ok : goal.returns-clause-ok
returns-clause-ok c = rw c.and.ensures (read_if_taken _ _ _ _ c.take_all-taken.ensures.ok c.finish.ensures.ok)

pub returns-clause-err : goal.returns-clause-err
returns-clause-err c = rw c.and.ensures (refused_if_taken _ _ _ _ c.take_all-taken.ensures.ok c.take_all-taken.ensures.err c.finish.ensures.err)
