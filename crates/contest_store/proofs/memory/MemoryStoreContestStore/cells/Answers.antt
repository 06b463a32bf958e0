use Rattle.std.proofs.Common.{◌∙◌}
use Rattle.contest_lists.specs.Lists.{filed}
use Rattle.contest_store.specs.InMemory.{contest_of, lists_of}
use Rattle.contest_store.proofs.memory.MemoryStoreContestStore.cells.Goals as goal

pub returns : goal.returns
returns c = λ clean valid. c.cells.ensures (contest_of c.args.self.now) valid (c.latest.ensures.lists ∙ (λ i. filed (c.latest.ensures.filed i) (lists_of c.args.self.now)))
