use Rattle.contest_store_reading.specs.Spelling.{without_rows}
use Rattle.contest_store_tables.specs.Connected.{shown_by}
use Rattle.contest_store_sqlite.proofs.MadeContests.{either_filled, either_whole, not_bare}
use Rattle.contest_store_sqlite.proofs.creation.make_or_read.Goals as goal

pub returns-in-Ok-clause-survives : goal.returns-in-Ok-clause-survives
returns-in-Ok-clause-survives g c =
    either_whole (without_rows c.args.fixed.value) (shown_by g.S.Store c.args.tables.now) (shown_by g.S.Store c.make_contest.new.tables) c.make_contest.ensures.survives

pub returns-in-Err-clause-survives : goal.returns-in-Err-clause-survives
returns-in-Err-clause-survives g c =
    either_whole (without_rows c.args.fixed.value) (shown_by g.S.Store c.args.tables.now) (shown_by g.S.Store c.make_contest.new.tables) c.make_contest.ensures.survives

pub returns-in-Desk-clause-survives : goal.returns-in-Desk-clause-survives
returns-in-Desk-clause-survives g c =
    either_filled (without_rows c.args.fixed.value) (shown_by g.S.Store c.args.tables.now) (shown_by g.S.Store c.read_equal.new.tables) c.read_equal.ensures.survives

pub read_equal-requires : goal.read_equal-requires
read_equal-requires g c = record { numbered = c.requires.numbered; stood = not_bare (shown_by g.S.Store c.args.tables.now) c.standing.result c.standing.ensures.desk c.standing.ensures.lacking c.standing.ensures.celless c.standing.ensures.foreign c.in-Desk.is }

pub returns-in-Desk-clause-bare : goal.returns-in-Desk-clause-bare
returns-in-Desk-clause-bare g c bare =
    absurd (not_bare (shown_by g.S.Store c.args.tables.now) c.standing.result c.standing.ensures.desk c.standing.ensures.lacking c.standing.ensures.celless c.standing.ensures.foreign c.in-Desk.is bare)
