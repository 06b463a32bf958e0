use Rattle.std.proofs.Common.{IsTrue, inl, inr, subst, sym}
use Rattle.sqlite.specs.Held.{state}
use Rattle.contest_store.specs.Keeping.{LeavesNoMore}
use Rattle.contest_store_sqlite.specs.Contests.{may_leave_of}
use Rattle.contest_store_sqlite.specs.Keeping.{IsTrusted}
use Rattle.contest_store_sqlite.specs.Opening.{may_leave_filled}
use Rattle.contest_store_sqlite.specs.Value.{stored}
use Rattle.contest_cli_commands.specs.Import.{LeavesStep, Steps}
use Rattle.contest_cli_commands.proofs.ImportLemmas.{finds, keeps_nothing, leaves_step, steps}
use Rattle.contest_cli_commands.proofs.PrintLemmas.{leaves_no_more}
use Rattle.contest_cli_commands.proofs.import_command.import_bytes.Goals as goal

pub returns-in-Ok-clause-steps : goal.returns-in-Ok-clause-steps
returns-in-Ok-clause-steps g c input read plain = inr (λ clean.
    let old = state g.S.Store c.args.conn in
    let after = c.import-added.new.self.conn in
    let same = rw c.into_store.ensures.store at c.into_connection.ensures.connection in
    let trusted = subst (λ conn. IsTrusted (state g.S.Store conn)) same (c.into_connection.ensures.clean clean) in
    subst (λ conn. Steps c.args.now c.args.kind input old (state g.S.Store conn) c.import-added.result) (sym same)
    (steps c.args.now c.args.kind input old (state g.S.Store after) c.args.bytes.now read (stored g.S.Store c.in-Ok.desk) (c.in-Ok.ensures.opened (c.import-added.ensures.leaves.clean trusted).0)
    c.import-added.result (c.import-added.ensures.answer trusted plain) (c.import-added.ensures.leaves.kept trusted plain)))

pub returns-in-Err-clause-steps : goal.returns-in-Err-clause-steps
returns-in-Err-clause-steps g c input read =
    finds c.args.now c.args.kind input (state g.S.Store c.args.conn) (state g.S.Store c.in-Err.conn) c.in-Err.error c.refusal.result c.refusal.ensures.value (λ is clean up. c.in-Err.ensures.first clean is up)

pub returns-in-Ok-clause-leaves : goal.returns-in-Ok-clause-leaves
returns-in-Ok-clause-leaves g c input read clean =
    let old = state g.S.Store c.args.conn in
    let after = c.import-added.new.self.conn in
    let same = rw c.into_store.ensures.store at c.into_connection.ensures.connection in
    let trusted = subst (λ conn. IsTrusted (state g.S.Store conn)) same (c.into_connection.ensures.clean clean) in
    subst (λ conn. LeavesStep c.args.now c.args.kind input old (state g.S.Store conn)) (sym same)
    (leaves_step c.args.now c.args.kind input old (state g.S.Store after) c.args.bytes.now read (stored g.S.Store c.in-Ok.desk) (c.in-Ok.ensures.opened (c.import-added.ensures.leaves.clean trusted).0)
    (c.import-added.ensures.leaves.crash trusted))

pub returns-in-Err-clause-leaves : goal.returns-in-Err-clause-leaves
returns-in-Err-clause-leaves g c input read clean d left = inl (leaves_no_more (state g.S.Store c.args.conn) (state g.S.Store c.in-Err.conn) c.in-Err.ensures.refused clean d left)

pub returns-in-Ok-clause-fails : goal.returns-in-Ok-clause-fails
returns-in-Ok-clause-fails g c failed clean up =
    let old = state g.S.Store c.args.conn in
    let after = c.import-added.new.self.conn in
    let left = c.import-added.ensures.leaves in
    let same = rw c.into_store.ensures.store at c.into_connection.ensures.connection in
    let trusted = subst (λ conn. IsTrusted (state g.S.Store conn)) same (c.into_connection.ensures.clean clean) in
    let opens : IsTrue (state g.S.Store after).is_open = subst (λ conn. IsTrue (state g.S.Store conn).is_open) same up in
    let none = keeps_nothing old (state g.S.Store after) (stored g.S.Store c.in-Ok.desk) (stored g.S.Store c.import-added.new.self) (c.in-Ok.ensures.opened (left.clean trusted).0)
    (left.unchanged trusted opens failed) (left.settled trusted opens) in
    subst (λ conn. LeavesNoMore (may_leave_filled old) (may_leave_of (state g.S.Store conn))) (sym same) none

pub returns-in-Err-clause-fails : goal.returns-in-Err-clause-fails
returns-in-Err-clause-fails g c failed clean up = leaves_no_more (state g.S.Store c.args.conn) (state g.S.Store c.in-Err.conn) c.in-Err.ensures.refused clean
