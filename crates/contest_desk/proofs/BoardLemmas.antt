-- What is told of a board, or of awards, that were found or weren't.
use Rattle.std.proofs.Common.{◌≡◌, Option, Some, None, Result, Ok, Err, IfOk, sym}
use Rattle.contest_types.specs.declared.refusal.Refusal.TheVariants.{NotFound}
use Rattle.contest_store.specs.declared.store_error.StoreError.{StoreError}
use Rattle.contest_store.specs.declared.store_error.StoreError.TheVariants as error
use Rattle.contest_desk.specs.Boards.{found_told}

module _ {A : Type 0} where
  pub told_found : (found : Result (Option A) StoreError) (it : Option A) → IfOk found (λ o. o ≡ it) → IfOk (found_told found) (λ a. it ≡ Some a)
  told_found (Ok (Some a)) it is = sym is
  told_found (Ok None) it is = tt
  told_found (Err error.Fault) it is = tt
  told_found (Err error.Memory) it is = tt

  pub told_missing : (found : Result (Option A) StoreError) (it : Option A) → IfOk found (λ o. o ≡ it) → found_told found ≡ Err NotFound → it ≡ None
  told_missing (Ok (Some a)) it is none = absurd (cc none)
  told_missing (Ok None) it is none = sym is
  told_missing (Err error.Fault) it is none = absurd (cc none)
  told_missing (Err error.Memory) it is none = absurd (cc none)
