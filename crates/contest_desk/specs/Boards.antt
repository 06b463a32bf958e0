-- How a board, or awards, that are asked for are told (own).
use Rattle.std.specs.Prelude.{Option, Some, None, Result, Ok, Err}
use Rattle.contest_types.specs.declared.refusal.Refusal.{Refusal}
use Rattle.contest_types.specs.declared.refusal.Refusal.TheVariants.{NotFound}
use Rattle.contest_store.specs.StoreErrors.{refusal_of}
use Rattle.contest_store.specs.declared.store_error.StoreError.{StoreError}

-- a team that isn't there has none; a failure is told as its refusal
abbrev pub found_told : {A : Type 0} → Result (Option A) StoreError → Result A Refusal
found_told (Ok (Some it)) = Ok it
found_told (Ok None) = Err NotFound
found_told (Err e) = Err (refusal_of e)
