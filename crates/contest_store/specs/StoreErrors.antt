-- How a failure of a store is refused.
use Rattle.contest_types.specs.declared.refusal.Refusal.{Refusal}
use Rattle.contest_types.specs.declared.refusal.Refusal.TheVariants as refusal
use Rattle.contest_store.specs.declared.store_error.StoreError.{StoreError}
use Rattle.contest_store.specs.declared.store_error.StoreError.TheVariants.{Fault, Memory}

abbrev pub refusal_of : StoreError → Refusal
refusal_of Fault = refusal.StoreFault
refusal_of Memory = refusal.Memory
