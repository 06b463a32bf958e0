use Rattle.std.proofs.Common.{Ok, take}
use Rattle.contest_types.specs.declared.entry.Entry.TheVariants.{NewRejudging}
use Rattle.contest_store_tables.specs.Connected.{shown_by, counts_of}
use Rattle.contest_store_tables.specs.Steps.{Step, MakesNone}
use Rattle.contest_store_changes.specs.Additions.{Admits, HasListed}
use Rattle.contest_store_changes.proofs.MemberSteps.{with_front}
use Rattle.contest_store_changes.proofs.rejudging_rows.insert_rejudging.Given as goal

abbrev pub invariant-loop-place : goal.invariant-loop-place
invariant-loop-place g l = Step {T = Unit {0}} (Ok tt) (shown_by g.S.Store l.fn.tables) (shown_by g.S.Store l.tables) (counts_of l.fn.tables) (counts_of l.tables)
    (Admits l.fn.lists (NewRejudging l.fn.rejudging)) (HasListed l.fn.lists (with_front l.fn.rejudging (take l.place l.fn.rejudging.members)))
    (MakesNone (shown_by g.S.Store l.fn.tables) (Admits l.fn.lists (NewRejudging l.fn.rejudging)))
