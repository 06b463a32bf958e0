use Rattle.std.proofs.Common.{rules}
use Rattle.sqlite.specs.Held.{state}
use Rattle.sqlite.proofs.StateLemmas.{survives_weaker}
use Rattle.contest_store_tables.proofs.UndoLemmas.{rolled_back, rollback_keeps}
use Rattle.contest_store_tables.proofs.tables.roll_back.Goals as goal

pub returns-then-not-is_autocommit-clause-undone : goal.returns-then-not-is_autocommit-clause-undone
returns-then-not-is_autocommit-clause-undone g c clean =
    rolled_back (state g.S.Store c.args.conn.now) (state g.S.Store c.execute.new.self) c.execute.result (search rules) (c.execute.ensures.runs clean)

pub returns-then-not-is_autocommit-clause-survives : goal.returns-then-not-is_autocommit-clause-survives
returns-then-not-is_autocommit-clause-survives g c =
    survives_weaker (state g.S.Store c.args.conn.now) (state g.S.Store c.execute.new.self) _ _ (λ _ db h. rollback_keeps (state g.S.Store c.args.conn.now) db h) c.execute.ensures.survives
