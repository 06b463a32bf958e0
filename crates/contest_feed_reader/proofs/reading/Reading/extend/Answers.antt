use Rattle.std.proofs.Common.{◌∙◌, ap, arith, inr}
use Rattle.contest_feed_reader.specs.Tables.{after_lines}
use Rattle.contest_feed_reader.proofs.LineLemmas.{inside_line, no_room, over_refused}
use Rattle.contest_feed_reader.proofs.reading.Reading.extend.Goals as goal

pub returns-then-not-has_room-clause-err : goal.returns-then-not-has_room-clause-err
returns-then-not-has_room-clause-err c = λ more.
    let r = c.args.self.now in
    let over = no_room r.line.items c.args.part.now r.before _ c.if-not-has_room.true (c.has_room.ensures.1) in
    inr (ap (after_lines r.tables r.number r.before) (inside_line r.line.items c.args.part.now more c.requires.inside) ∙ over_refused r.tables r.number r.before _ more (omega (arith, c.requires.within.all)) over)

pub returns-clause-ok : goal.returns-clause-ok
returns-clause-ok c = λ more.
    let r = c.args.self.now in
    rw c.in_ok-extend_from_slice.ensures.items (ap (after_lines r.tables r.number r.before) (inside_line r.line.items c.args.part.now more c.requires.inside))
