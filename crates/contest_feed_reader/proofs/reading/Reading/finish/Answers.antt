use Rattle.contest_feed_reader.proofs.LineLemmas.{last_line, read_last, refused_last}
use Rattle.contest_feed_reader.proofs.reading.Reading.finish.Goals as goal

pub returns-clause-ok : goal.returns-clause-ok
returns-clause-ok c =
    let r = c.args.self in
    rw (c.and.ensures, last_line r.tables r.number r.before r.line.items c.requires.line c.requires.all, ← c.deref.ensures.value) (read_last _ _ _ c.judge_last-judged.ensures.ok)

pub returns-clause-err : goal.returns-clause-err
returns-clause-err c =
    let r = c.args.self in
    rw (c.and.ensures, last_line r.tables r.number r.before r.line.items c.requires.line c.requires.all, ← c.deref.ensures.value) (refused_last _ _ _ c.judge_last-judged.ensures.err)
