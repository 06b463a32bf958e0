-- What filling a store with the demo contest comes to.
use Rattle.std.specs.Prelude.{◌≡◌, List, Some, Result, Ok, Err}
use Rattle.contest_types.specs.State.{add_all, new_contest}
use Rattle.contest_streams.specs.Streams.{one_more}
use Rattle.contest_types.specs.declared.contest.Contest.{Contest}
use Rattle.contest_types.specs.declared.entry.Entry.{Entry}
use Rattle.contest_types.specs.declared.refusal.Refusal.{Refusal}
use Rattle.contest_store.specs.Keeping.{Kept, Leaves, Shows}
use Rattle.contest_store.specs.StoreErrors.{refusal_of}
use Rattle.contest_store.specs.declared.store_error.StoreError.{StoreError}

-- the store was just created
abbrev pub IsJustCreated : Kept → Type 0
IsJustCreated store = store.is_clean → (c : Contest) × Shows store (new_contest c) (new_contest c)

-- the entries are added by one commit; `own` is where memory may be refused while the store isn't
abbrev pub AddsAll : {T : Type 0} → Result T StoreError → Kept → Kept → List Entry → (own : Type 0) → Type 0
AddsAll result old new entries own =
    Leaves result old new (add_all old.contest entries) (add_all old.contest entries) (λ c. c ≡ Some (add_all old.contest entries)) one_more own

-- what a store answered, told as a refusal
abbrev pub told : {T : Type 0} → Result T StoreError → Result T Refusal
told (Ok value) = Ok value
told (Err error) = Err (refusal_of error)
