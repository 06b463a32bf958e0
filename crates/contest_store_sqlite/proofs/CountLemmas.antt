-- What the calls on the tables count, as contracts see it of the store.
use Rattle.std.proofs.Common.{ℕ, Result, Ok, Err, ap, inl, arith}
use Rattle.sqlite_disk.specs.Disk.{MoreFaults}
use Rattle.contest_store.specs.Keeping.{CountsFaults, CountsRefusals}
use Rattle.contest_store.specs.declared.store_error.StoreError.{StoreError}
use Rattle.contest_store.specs.declared.store_error.StoreError.TheVariants.{Fault, Memory}
use Rattle.contest_store_tables.specs.Counts.{CountsCall}
use Rattle.contest_store_tables.specs.declared.counts.Counts.{Counts}
use Rattle.contest_streams.specs.Streams.{Failed}

pub counts_faults : {T : Type 0} (r : Result T StoreError) (b a : Counts) → CountsCall r b a → CountsFaults r b.faults a.faults
counts_faults (Ok x) b a is = ap (λ (c : Counts). c.faults) is
counts_faults (Err Fault) b a is = ap (λ (c : Counts). c.faults) is
counts_faults (Err Memory) b a is = ap (λ (c : Counts). c.faults) is

pub counts_refusals : {T : Type 0} (r : Result T StoreError) (b a : Counts) → CountsCall r b a → CountsRefusals ⊥ r b.refusals a.refusals
counts_refusals (Ok x) b a is = ap (λ (c : Counts). c.refusals) is
counts_refusals (Err Fault) b a is = ap (λ (c : Counts). c.refusals) is
counts_refusals (Err Memory) b a is = inl (ap (λ (c : Counts). c.refusals) is)

-- what the disk failed is seen
pub has_failed : (old new : ℕ) → MoreFaults old new → Failed old new
has_failed old new more = grind (arith, more)
