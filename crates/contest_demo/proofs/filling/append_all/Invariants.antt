use Rattle.contest_demo.proofs.FillLemmas.{Appends}
use Rattle.contest_demo.proofs.filling.append_all.Given as goal

abbrev pub invariant-loop-entry : goal.invariant-loop-entry
invariant-loop-entry g l = Appends (g.S.ContestStore.kept l.fn.store) (g.S.ContestStore.kept l.store) l.fn.entries.items l.entry-iterator.rest.items
