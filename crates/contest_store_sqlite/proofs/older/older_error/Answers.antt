use Rattle.std.proofs.Common.{arith, inl, inr, refl}
use Rattle.sqlite.specs.State.{HasCleanDisk}
use Rattle.contest_store_tables.specs.Connected.{shown_by}
use Rattle.contest_store_sqlite.proofs.UpgradedContests.{first_is, first_told, not_made, not_made_then}
use Rattle.contest_store_sqlite.proofs.older.older_error.Goals as goal

pub returns-in-Ok-clause-first : goal.returns-in-Ok-clause-first
returns-in-Ok-clause-first g c clean is on =
    let old = shown_by g.S.Store c.args.tables.now in
    let mid = shown_by g.S.Store c.begin_older.new.tables in
    let early : HasCleanDisk mid = omega (arith, clean, c.roll_back.ensures.survives.clean) in
    first_is old mid c.args.table c.requires.lacks c.requires.rest c.requires.sound c.requires.numbered c.in-Ok.is_first (omega (arith, early, c.in-Ok.ensures.call.step.survives.clean)) on
    (c.in-Ok.ensures.first early) (c.version_error.ensures.first is)

pub returns-in-Ok-clause-survives : goal.returns-in-Ok-clause-survives
returns-in-Ok-clause-survives g c =
    let old = shown_by g.S.Store c.args.tables.now in
    let mid = shown_by g.S.Store c.begin_older.new.tables in
    not_made_then old mid (shown_by g.S.Store c.roll_back.new.self) c.args.table c.requires.lacks c.requires.outside c.requires.rest c.requires.numbered c.in-Ok.ensures.call.step.survives c.roll_back.ensures.survives

pub returns-in-Err-clause-survives : goal.returns-in-Err-clause-survives
returns-in-Err-clause-survives g c =
    not_made (shown_by g.S.Store c.args.tables.now) (shown_by g.S.Store c.begin_older.new.tables) c.args.table c.requires.lacks c.requires.outside c.requires.rest c.requires.numbered c.in-Err.ensures.call.step.survives

pub returns-in-Ok-clause-told : goal.returns-in-Ok-clause-told
returns-in-Ok-clause-told g c clean on first =
    let old = shown_by g.S.Store c.args.tables.now in
    let mid = shown_by g.S.Store c.begin_older.new.tables in
    let early : HasCleanDisk mid = omega (arith, clean, c.roll_back.ensures.survives.clean) in
    inl (c.version_error.ensures.told (first_told old mid c.args.table c.requires.lacks c.requires.rest c.requires.sound c.requires.numbered c.in-Ok.is_first (omega (arith, early, c.in-Ok.ensures.call.step.survives.clean)) on
    (c.in-Ok.ensures.first early) first))

pub returns-in-Err-clause-told : goal.returns-in-Err-clause-told
returns-in-Err-clause-told g c clean on first = inr (c.in-Err.error, refl, c.in-Err.ensures.call.step.counts)
