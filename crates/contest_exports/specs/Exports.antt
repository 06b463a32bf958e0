-- What an export leaves (own).
use Rattle.std.specs.Prelude.{ℕ, List, [], slice_get, Result, Ok, Err}
use Rattle.std.specs.Io.KnownBytes.{Appends}
use Rattle.std.specs.Option.{option_map_or}
use Rattle.contest_types.specs.State.{ContestState}
use Rattle.contest_streams.specs.Streams.{AppendsFront, Fails, Stream}
use Rattle.contest_store.specs.declared.store_error.StoreError.{StoreError}
use Rattle.contest_exports.specs.SubmissionsCsv.{record_of}
use Rattle.contest_exports.specs.Walks.{all_in_order}
use Rattle.contest_exports.specs.declared.export.ExportFault.{ExportFault}
use Rattle.contest_exports.specs.declared.export.ExportFault.TheVariants.{Write, Store}

-- all of the text is out, or a front of it
abbrev pub Writes : Result (Unit {0}) ExportFault → (old new : Stream) → List ℕ → Type 0
Writes (Ok done) old new text = Appends old.bytes new.bytes text
Writes (Err fault) old new text = AppendsFront old.bytes new.bytes text

-- what the store answered
abbrev pub of_store : Result (Unit {0}) ExportFault → Result (Unit {0}) StoreError
of_store (Ok done) = Ok tt
of_store (Err Write) = Ok tt
of_store (Err (Store error)) = Err error

-- where the stream is the cause, it failed
abbrev pub FailsIfWrite : Result (Unit {0}) ExportFault → (old new : Stream) → Type 0
FailsIfWrite (Ok done) old new = Unit {0}
FailsIfWrite (Err Write) old new = Fails old new
FailsIfWrite (Err (Store error)) old new = Unit {0}

-- A word of private functions: nothing public is said with it.

-- the record of the next submission of a walk; nothing at its end
abbrev pub next_record : ContestState → (given : ℕ) → List ℕ
next_record x given = option_map_or (record_of x) (slice_get (all_in_order x) given) []
