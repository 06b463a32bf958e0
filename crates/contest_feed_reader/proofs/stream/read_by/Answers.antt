use Rattle.contest_files.specs.Refused.{Refuses}
use Rattle.contest_feed_reader.proofs.TakeLemmas.{ended_is}
use Rattle.contest_feed_reader.proofs.stream.read_by.Goals as goal

pub returns-in-Err-finish-clause-err : goal.returns-in-Err-finish-clause-err
returns-in-Err-finish-clause-err g c =
    ended_is _ _ _ _ (λ told. Refuses c.in-Err-finish.refusal told) c.new-reading.ensures.all c.in-Ok.ensures.takes c.in-Ok.ensures.end c.in-Err-finish.ensures.err
