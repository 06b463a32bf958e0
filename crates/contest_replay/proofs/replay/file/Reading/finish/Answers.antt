use Rattle.contest_replay.proofs.ReplayFileLemmas.{ended_is, ok_of, err_of}
use Rattle.contest_replay.proofs.replay.file.Reading.finish.Goals as goal

pub returns-clause-ok : goal.returns-clause-ok
returns-clause-ok c = λ n. rw (ended_is c.args.self.so_far c.args.self.fault c.args.self.named n, ← c.ended.ensures) (ok_of c.ended.result)

pub returns-clause-err : goal.returns-clause-err
returns-clause-err c = λ n. rw (ended_is c.args.self.so_far c.args.self.fault c.args.self.named n, ← c.ended.ensures) (err_of c.ended.result)
