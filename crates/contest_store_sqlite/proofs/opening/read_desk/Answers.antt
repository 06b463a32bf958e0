use Rattle.std.proofs.Common.{◌∙◌, Ok, sym}
use Rattle.contest_store_tables.specs.Connected.{shown_by}
use Rattle.contest_store_sqlite.proofs.OpenedContests.{celless_kept, celless_read, desk_kept, desk_read}
use Rattle.contest_store_sqlite.proofs.UpgradedContests.{keeps_none, not_celless, not_of_desk}
use Rattle.contest_store_sqlite.proofs.opening.read_desk.Goals as goal

pub returns-in-Ok-clause-read : goal.returns-in-Ok-clause-read
returns-in-Ok-clause-read g c =
    desk_read (shown_by g.S.Store c.args.tables.now) (c.standing.ensures.desk c.in-Desk.is) (sym c.if-is_in_transaction.ensures.value) (c.is_in_transaction.ensures.rest c.if-is_in_transaction.false)
    c.standing.ensures.sound c.requires (shown_by g.S.Store c.read_tables.new.tables) (Ok c.in-Ok.lists) c.in-Ok.ensures.up c.in-Ok.ensures.survives c.in-Ok.ensures.read

pub returns-in-Ok-clause-survives : goal.returns-in-Ok-clause-survives
returns-in-Ok-clause-survives g c =
    desk_kept (shown_by g.S.Store c.args.tables.now) (c.standing.ensures.desk c.in-Desk.is) (sym c.if-is_in_transaction.ensures.value) (c.is_in_transaction.ensures.rest c.if-is_in_transaction.false)
    c.standing.ensures.sound c.requires (shown_by g.S.Store c.read_tables.new.tables) c.read_tables.ensures.survives

pub returns-in-Err-clause-survives : goal.returns-in-Err-clause-survives
returns-in-Err-clause-survives g c =
    desk_kept (shown_by g.S.Store c.args.tables.now) (c.standing.ensures.desk c.in-Desk.is) (sym c.if-is_in_transaction.ensures.value) (c.is_in_transaction.ensures.rest c.if-is_in_transaction.false)
    c.standing.ensures.sound c.requires (shown_by g.S.Store c.read_tables.new.tables) c.read_tables.ensures.survives

pub returns-in-Lacking-clause-survives : goal.returns-in-Lacking-clause-survives
returns-in-Lacking-clause-survives g c =
    keeps_none (shown_by g.S.Store c.args.tables.now) (shown_by g.S.Store c.older_error.new.tables) c.older_error.ensures.survives

pub returns-in-Ok-read_celless-clause-read : goal.returns-in-Ok-read_celless-clause-read
returns-in-Ok-read_celless-clause-read g c =
    celless_read (shown_by g.S.Store c.args.tables.now) (c.standing.ensures.celless c.in-Celless.is) (sym c.if-is_in_transaction.ensures.value) (c.is_in_transaction.ensures.rest c.if-is_in_transaction.false)
    c.standing.ensures.sound c.requires (shown_by g.S.Store c.read_celless.new.tables) (Ok c.in-Ok-read_celless.lists) c.in-Ok-read_celless.ensures.up c.in-Ok-read_celless.ensures.survives c.in-Ok-read_celless.ensures.read

pub returns-in-Ok-read_celless-clause-survives : goal.returns-in-Ok-read_celless-clause-survives
returns-in-Ok-read_celless-clause-survives g c =
    celless_kept (shown_by g.S.Store c.args.tables.now) (c.standing.ensures.celless c.in-Celless.is) (sym c.if-is_in_transaction.ensures.value) (c.is_in_transaction.ensures.rest c.if-is_in_transaction.false)
    c.standing.ensures.sound c.requires (shown_by g.S.Store c.read_celless.new.tables) c.read_celless.ensures.survives

pub returns-in-Err-read_celless-clause-survives : goal.returns-in-Err-read_celless-clause-survives
returns-in-Err-read_celless-clause-survives g c =
    celless_kept (shown_by g.S.Store c.args.tables.now) (c.standing.ensures.celless c.in-Celless.is) (sym c.if-is_in_transaction.ensures.value) (c.is_in_transaction.ensures.rest c.if-is_in_transaction.false)
    c.standing.ensures.sound c.requires (shown_by g.S.Store c.read_celless.new.tables) c.read_celless.ensures.survives

pub returns-then-is_in_transaction-clause-told : goal.returns-then-is_in_transaction-clause-told
returns-then-is_in_transaction-clause-told g c clean on outside first = absurd (let both = sym c.if-is_in_transaction.true ∙ c.is_in_transaction.ensures.value ∙ outside in cc)

pub returns-in-Err-clause-told : goal.returns-in-Err-clause-told
returns-in-Err-clause-told g c clean on outside first = absurd (not_of_desk (shown_by g.S.Store c.args.tables.now) first (c.standing.ensures.desk c.in-Desk.is))

pub returns-in-Err-read_celless-clause-told : goal.returns-in-Err-read_celless-clause-told
returns-in-Err-read_celless-clause-told g c clean on outside first = absurd (not_celless (shown_by g.S.Store c.args.tables.now) first (c.standing.ensures.celless c.in-Celless.is))

pub returns-in-Lacking-clause-told : goal.returns-in-Lacking-clause-told
returns-in-Lacking-clause-told g c clean on outside first = c.older_error.ensures.told clean on first
