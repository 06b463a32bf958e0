use Rattle.std.proofs.Common.{subst}
use Rattle.contest_demo.specs.Demo.{demo_entries}
use Rattle.contest_demo.specs.Filling.{AddsAll}
use Rattle.contest_demo.proofs.FillLemmas.{may_add, may_be_own, own_want}
use Rattle.contest_demo.proofs.filling.fill_store.Goals as goal

pub add_all-requires-clause-addable : goal.add_all-requires-clause-addable
add_all-requires-clause-addable g c = may_add (g.S.ContestStore.kept c.args.store.now) c.args.teams c.args.problems c.in-Ok.entries.items c.requires.created c.in-Ok.ensures

pub returns-in-Ok : goal.returns-in-Ok
returns-in-Ok g c =
    let old = g.S.ContestStore.kept c.args.store.now in
    let new = g.S.ContestStore.kept c.add_all.new.store in
    subst (λ entries. AddsAll c.add_all.result old new entries (Unit {0})) c.in-Ok.ensures (may_be_own c.add_all.result old new c.in-Ok.entries.items c.add_all.ensures)

pub returns-in-Err : goal.returns-in-Err
returns-in-Err g c = own_want (g.S.ContestStore.kept c.args.store.now) (demo_entries c.args.teams c.args.problems) c.requires.created
