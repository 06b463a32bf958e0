use Rattle.std.proofs.Common.{Ok, sym}
use Rattle.contest_store_tables.specs.Connected.{shown_by}
use Rattle.contest_store_sqlite.proofs.OpenedContests.{celless_kept, celless_read, desk_kept, desk_read}
use Rattle.contest_store_sqlite.proofs.UpgradedContests.{is_upgraded, keeps_filled, keeps_upgraded}
use Rattle.contest_store_sqlite.proofs.upgrading.upgrade_desk.Goals as goal

pub returns-in-Ok-clause-stood : goal.returns-in-Ok-clause-stood
returns-in-Ok-clause-stood g c clean none = (
  _,
  desk_read (shown_by g.S.Store c.args.tables.now) (c.standing.ensures.desk c.in-Desk.is) (sym c.if-is_in_transaction.ensures.value) (c.is_in_transaction.ensures.rest c.if-is_in_transaction.false)
      c.standing.ensures.sound c.requires (shown_by g.S.Store c.read_tables.new.tables) (Ok c.in-Ok.lists) c.in-Ok.ensures.up c.in-Ok.ensures.survives c.in-Ok.ensures.read clean,
)

pub returns-in-Ok-clause-survives : goal.returns-in-Ok-clause-survives
returns-in-Ok-clause-survives g c =
    let old = shown_by g.S.Store c.args.tables.now in
    let new = shown_by g.S.Store c.read_tables.new.tables in
    keeps_filled old new (desk_kept old (c.standing.ensures.desk c.in-Desk.is) (sym c.if-is_in_transaction.ensures.value) (c.is_in_transaction.ensures.rest c.if-is_in_transaction.false)
    c.standing.ensures.sound c.requires new c.read_tables.ensures.survives)

pub returns-in-Err-clause-survives : goal.returns-in-Err-clause-survives
returns-in-Err-clause-survives g c =
    let old = shown_by g.S.Store c.args.tables.now in
    let new = shown_by g.S.Store c.read_tables.new.tables in
    keeps_filled old new (desk_kept old (c.standing.ensures.desk c.in-Desk.is) (sym c.if-is_in_transaction.ensures.value) (c.is_in_transaction.ensures.rest c.if-is_in_transaction.false)
    c.standing.ensures.sound c.requires new c.read_tables.ensures.survives)

pub returns-in-Ok-upgrade_tables-clause-moved : goal.returns-in-Ok-upgrade_tables-clause-moved
returns-in-Ok-upgrade_tables-clause-moved g c clean moved =
    let old = shown_by g.S.Store c.args.tables.now in
    is_upgraded old (shown_by g.S.Store c.upgrade_tables.new.tables) c.in-Lacking.table (c.standing.ensures.lacking c.in-Lacking.table c.in-Lacking.is) (sym c.if-is_in_transaction.ensures.value)
    (c.is_in_transaction.ensures.rest c.if-is_in_transaction.false) c.standing.ensures.sound c.requires c.in-Ok-upgrade_tables.ensures.survives c.in-Ok-upgrade_tables.field-0
    c.in-Ok-upgrade_tables.ensures.up c.in-Ok-upgrade_tables.ensures.upgraded clean

pub returns-in-Ok-upgrade_tables-clause-survives : goal.returns-in-Ok-upgrade_tables-clause-survives
returns-in-Ok-upgrade_tables-clause-survives g c =
    let old = shown_by g.S.Store c.args.tables.now in
    keeps_upgraded old (shown_by g.S.Store c.upgrade_tables.new.tables) c.in-Lacking.table (c.standing.ensures.lacking c.in-Lacking.table c.in-Lacking.is) (sym c.if-is_in_transaction.ensures.value)
    (c.is_in_transaction.ensures.rest c.if-is_in_transaction.false) c.standing.ensures.sound c.requires c.in-Ok-upgrade_tables.ensures.survives

pub returns-in-Err-upgrade_tables-clause-survives : goal.returns-in-Err-upgrade_tables-clause-survives
returns-in-Err-upgrade_tables-clause-survives g c =
    let old = shown_by g.S.Store c.args.tables.now in
    keeps_upgraded old (shown_by g.S.Store c.upgrade_tables.new.tables) c.in-Lacking.table (c.standing.ensures.lacking c.in-Lacking.table c.in-Lacking.is) (sym c.if-is_in_transaction.ensures.value)
    (c.is_in_transaction.ensures.rest c.if-is_in_transaction.false) c.standing.ensures.sound c.requires c.in-Err-upgrade_tables.ensures.survives

pub returns-in-Ok-read_celless-clause-stood : goal.returns-in-Ok-read_celless-clause-stood
returns-in-Ok-read_celless-clause-stood g c clean none = (
  _,
  celless_read (shown_by g.S.Store c.args.tables.now) (c.standing.ensures.celless c.in-Celless.is) (sym c.if-is_in_transaction.ensures.value) (c.is_in_transaction.ensures.rest c.if-is_in_transaction.false)
      c.standing.ensures.sound c.requires (shown_by g.S.Store c.read_celless.new.tables) (Ok c.in-Ok-read_celless.lists) c.in-Ok-read_celless.ensures.up c.in-Ok-read_celless.ensures.survives c.in-Ok-read_celless.ensures.read clean,
)

pub returns-in-Ok-read_celless-clause-survives : goal.returns-in-Ok-read_celless-clause-survives
returns-in-Ok-read_celless-clause-survives g c =
    let old = shown_by g.S.Store c.args.tables.now in
    let new = shown_by g.S.Store c.read_celless.new.tables in
    keeps_filled old new (celless_kept old (c.standing.ensures.celless c.in-Celless.is) (sym c.if-is_in_transaction.ensures.value) (c.is_in_transaction.ensures.rest c.if-is_in_transaction.false)
    c.standing.ensures.sound c.requires new c.read_celless.ensures.survives)

pub returns-in-Err-read_celless-clause-survives : goal.returns-in-Err-read_celless-clause-survives
returns-in-Err-read_celless-clause-survives g c =
    let old = shown_by g.S.Store c.args.tables.now in
    let new = shown_by g.S.Store c.read_celless.new.tables in
    keeps_filled old new (celless_kept old (c.standing.ensures.celless c.in-Celless.is) (sym c.if-is_in_transaction.ensures.value) (c.is_in_transaction.ensures.rest c.if-is_in_transaction.false)
    c.standing.ensures.sound c.requires new c.read_celless.ensures.survives)
