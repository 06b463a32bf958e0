-- What is counted of the calls of a connection (own).
use Rattle.std.specs.Prelude.{◌≡◌, Result, Ok, Err}
use Rattle.sqlite.specs.declared.error.Error.{Error}
use Rattle.sqlite.specs.declared.error.Error.TheVariants.{SqliteFailure}
use Rattle.sqlite.specs.declared.error.ErrorCode.TheVariants.{OutOfMemory}
use Rattle.contest_streams.specs.Streams.{one_more}
use Rattle.contest_store.specs.declared.store_error.StoreError.{StoreError}
use Rattle.contest_store.specs.declared.store_error.StoreError.TheVariants.{Fault, Memory}
use Rattle.contest_store_tables.specs.declared.counts.Counts.{Counts}

-- want of memory is told apart, and nothing else is
abbrev pub cause_of : Error → StoreError
cause_of (SqliteFailure OutOfMemory) = Memory
cause_of _ = Fault

abbrev pub counted : StoreError → Counts → Counts
counted Fault c = record c { faults = one_more c.faults }
counted Memory c = record c { refusals = one_more c.refusals }

-- what fails is counted, and nothing else is
abbrev pub CountsCall : {T : Type 0} → Result T StoreError → Counts → Counts → Type 0
CountsCall (Ok v) old new = new ≡ old
CountsCall (Err e) old new = new ≡ counted e old
