use Rattle.std.proofs.Common.{◌∙◌}
use Rattle.contest_lists.specs.Lists.{filed}
use Rattle.contest_store.specs.InMemory.{lists_of}
use Rattle.contest_store.proofs.memory.MemoryStoreContestStore.lists.Goals as goal

pub returns : goal.returns
returns c = λ clean. c.lists.ensures ∙ (c.latest.ensures.lists ∙ (λ i. filed (c.latest.ensures.filed i) (lists_of c.args.self.now)))
