use Rattle.std.proofs.Common.{subst, sym}
use Rattle.contest_streams.specs.Streams.{stream}
use Rattle.contest_exports.specs.Exports.{Writes}
use Rattle.contest_exports.specs.SubmissionsCsv.{submissions_csv}
use Rattle.contest_exports.specs.Walks.{IsOver}
use Rattle.contest_exports.proofs.export.submissions_csv.Goals as goal

pub write_walk-requires-clause-over : goal.write_walk-requires-clause-over
write_walk-requires-clause-over g c = λ clean. subst (IsOver c.in-Ok.walk) (sym (c.in-Ok.ensures.leaves.ok clean).now_is) (c.in-Ok.ensures.over clean)

pub returns-in-Ok-clause-written : goal.returns-in-Ok-clause-written
returns-in-Ok-clause-written g c = λ clean.
    let shows = c.in-Ok.ensures.leaves.ok (c.write_walk.ensures.leaves.clean clean) in
    subst (λ x. Writes c.write_walk.result (stream g.W.Write.contents c.args.out.now) (stream g.W.Write.contents c.write_walk.new.out) (submissions_csv x)) shows.now_is
    (c.write_walk.ensures.written clean)
