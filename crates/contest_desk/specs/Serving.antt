-- What serving a request or an import asks of a kept contest, and what it leaves of it, whoever keeps it (own).
use Rattle.std.specs.Prelude.{◌≡◌, ℕ, true, List, [], ◌∷◌, Some, IsTrue, Result, Ok, Err}
use Rattle.contest_types.specs.State.{ContestState, add_all}
use Rattle.contest_streams.specs.Streams.{one_more}
use Rattle.contest_types.specs.Valid.{is_valid}
use Rattle.contest_types.specs.declared.entry.Entry.{Entry}
use Rattle.contest_types.specs.declared.refusal.Refusal.{Refusal}
use Rattle.contest_store.specs.Keeping.{Kept, Leaves}
use Rattle.contest_store.specs.StoreErrors.{refusal_of}
use Rattle.contest_store.specs.declared.store_error.StoreError.{StoreError}
use Rattle.contest_operations.specs.declared.outcome.Outcome.{Outcome}

-- while the store is open and read right, no change stands that isn't committed, and the contest is valid
abbrev pub IsSettled : Kept → Type 0
IsSettled store = store.is_clean → IsTrue store.is_open → (store.contest ≡ store.committed) × (is_valid store.contest ≡ true)

-- it is open, no such change stands, and the contest is valid
pub record IsReady (store : Kept) : Type 0 where
  pub up : IsTrue store.is_open
  pub settled : store.contest ≡ store.committed
  pub valid : is_valid store.contest ≡ true

-- one commit where something is added, and none where nothing is
abbrev pub commits_for : List Entry → ℕ → ℕ
commits_for [] n = n
commits_for (e ∷ es) n = one_more n

-- what is added is committed, all of it at once
abbrev pub Keeps : {T : Type 0} → Result T StoreError → Kept → Kept → List Entry → (own : Type 0) → Type 0
Keeps result old new entries own =
    Leaves result old new (add_all old.contest entries) (add_all old.contest entries) (λ c. c ≡ Some (add_all old.contest entries)) (commits_for entries) own

-- what a request comes to is committed; `own` is where it may be refused memory while the store isn't
abbrev pub Serves : {T : Type 0} → Result T StoreError → Kept → Kept → (ContestState → Outcome) → (own : Type 0) → Type 0
Serves result old new outcome own = Keeps result old new (outcome old.contest).entries own

-- nothing changes; the desk itself may be refused memory too
abbrev pub OnlyReads : {T : Type 0} → Result T StoreError → Kept → Kept → Type 0
OnlyReads result old new = Leaves result old new old.contest old.committed (λ c. ⊥) (λ n. n) (Unit {0})

-- a failure is told as its refusal
abbrev pub refused_as : {T : Type 0} → Result T StoreError → Result T Refusal
refused_as (Ok v) = Ok v
refused_as (Err e) = Err (refusal_of e)
