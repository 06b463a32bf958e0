use Rattle.std.proofs.Common.{Err, ap, subst}
use Rattle.sqlite.specs.Held.{state}
use Rattle.contest_streams.specs.Streams.{stream}
use Rattle.contest_desk.specs.Items.{HasStoreError}
use Rattle.contest_cli_commands.specs.Import.{KeepsNothing, StepsOrFinds}
use Rattle.contest_cli_commands.proofs.ImportLemmas.{added_steps, fault_stops, no_error, refuses}
use Rattle.contest_cli_commands.proofs.InputLemmas.{was_read}
use Rattle.contest_cli_commands.proofs.import_command.import.Goals as goal

pub returns-in-Err-clause-err : goal.returns-in-Err-clause-err
returns-in-Err-clause-err g c =
    rw c.from.ensures (fault_stops c.args.now c.args.kind (stream g.R.Read.remaining c.args.reader.now) (stream g.R.Read.remaining c.read_limited.new.reader) (state g.S.Store c.args.conn) c.in-Err.fault
    (λ is. c.in-Err.ensures.too_large (ap Err is)) (λ is. c.in-Err.ensures.failed (ap Err is)))

pub returns-in-Ok-added-clause-leaves : goal.returns-in-Ok-added-clause-leaves
returns-in-Ok-added-clause-leaves g c =
    let input = stream g.R.Read.remaining c.args.reader.now in
    c.import_bytes-added.ensures.leaves input (was_read input c.in-Ok.ensures.ok c.deref.ensures.value)

pub returns-clause-err : goal.returns-clause-err
returns-clause-err g c =
    let input = stream g.R.Read.remaining c.args.reader.now in
    let old = state g.S.Store c.args.conn in
    let new = state g.S.Store c.import_bytes-added.result.1 in
    let steps = c.import_bytes-added.ensures.steps input (was_read input c.in-Ok.ensures.ok c.deref.ensures.value) in
    refuses c.args.now c.args.kind input old new c.in-Err-added.refusal
    (subst (λ answer. ¬ HasStoreError answer → StepsOrFinds c.args.now c.args.kind input old new answer) c.in-Err-added.is steps)
    (subst (λ answer. HasStoreError answer → KeepsNothing old new) c.in-Err-added.is c.import_bytes-added.ensures.fails)

pub returns-in-Ok-added-clause-ok : goal.returns-in-Ok-added-clause-ok
returns-in-Ok-added-clause-ok g c =
    let input = stream g.R.Read.remaining c.args.reader.now in
    let old = state g.S.Store c.args.conn in
    let new = state g.S.Store c.import_bytes-added.result.1 in
    let steps = c.import_bytes-added.ensures.steps input (was_read input c.in-Ok.ensures.ok c.deref.ensures.value) in
    added_steps c.args.now c.args.kind input old new c.in-Ok-added.added
    (subst (λ answer. ¬ HasStoreError answer → StepsOrFinds c.args.now c.args.kind input old new answer) c.in-Ok-added.is steps (λ failed. no_error c.in-Ok-added.added failed))

pub returns-clause-leaves : goal.returns-clause-leaves
returns-clause-leaves g c =
    let input = stream g.R.Read.remaining c.args.reader.now in
    c.import_bytes-added.ensures.leaves input (was_read input c.in-Ok.ensures.ok c.deref.ensures.value)
