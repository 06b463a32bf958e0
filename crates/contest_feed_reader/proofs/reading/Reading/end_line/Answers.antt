use Rattle.std.proofs.Common.{arith}
use Rattle.contest_feed_reader.proofs.LineLemmas.{line_refused}
use Rattle.contest_feed_reader.proofs.reading.Reading.end_line.Goals as goal

pub returns-clause-err : goal.returns-clause-err
returns-clause-err c =
    let r = c.args.self.now in
    line_refused r.tables r.number r.before r.line.items c.judge-judged.result c.requires.line (omega arith) (rw c.deref.ensures.value at c.judge-judged.ensures.err)
