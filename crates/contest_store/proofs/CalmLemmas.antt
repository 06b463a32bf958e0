-- Want of memory in a store in memory.
use Rattle.std.proofs.Common.{inl, inr, rules}
use Rattle.contest_store.specs.InMemory.{MemoryStaysCalm}

pub stays_calm : MemoryStaysCalm
stays_calm old new (inl reads) = (reads.faults, search rules)
stays_calm old new (inr (inl adds)) = (adds.1.faults, search rules)
stays_calm old new (inr (inr commits)) = (commits.1.faults, search rules)
