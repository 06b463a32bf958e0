use Rattle.std.proofs.Common.{sym}
use Rattle.contest_store_tables.specs.Connected.{shown_by}
use Rattle.contest_store_sqlite.proofs.MadeContests.{is_made, only_this}
use Rattle.contest_store_sqlite.proofs.creation.make_contest.Goals as goal

pub returns-in-Ok-clause-made : goal.returns-in-Ok-clause-made
returns-in-Ok-clause-made g c =
    is_made (shown_by g.S.Store c.args.tables.now) (shown_by g.S.Store c.make_desk.new.tables) _ _ c.deref.result.now c.args.fixed.value c.deref.ensures c.requires.sound
    (sym c.if-is_in_transaction.ensures.value) (c.is_in_transaction.ensures.rest c.if-is_in_transaction.false) c.requires.bare c.in-Ok.field-0 c.empty.result c.empty.ensures c.in-Ok.ensures

pub returns-in-Ok-clause-survives : goal.returns-in-Ok-clause-survives
returns-in-Ok-clause-survives g c =
    only_this (shown_by g.S.Store c.args.tables.now) (shown_by g.S.Store c.make_desk.new.tables) _ _ c.deref.result.now c.args.fixed.value c.deref.ensures c.requires.sound
    (sym c.if-is_in_transaction.ensures.value) (c.is_in_transaction.ensures.rest c.if-is_in_transaction.false) c.requires.bare c.make_desk.result c.make_desk.ensures

pub returns-in-Err-clause-survives : goal.returns-in-Err-clause-survives
returns-in-Err-clause-survives g c =
    only_this (shown_by g.S.Store c.args.tables.now) (shown_by g.S.Store c.make_desk.new.tables) _ _ c.deref.result.now c.args.fixed.value c.deref.ensures c.requires.sound
    (sym c.if-is_in_transaction.ensures.value) (c.is_in_transaction.ensures.rest c.if-is_in_transaction.false) c.requires.bare c.make_desk.result c.make_desk.ensures
