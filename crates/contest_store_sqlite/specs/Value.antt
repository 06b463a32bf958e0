-- What contracts see of a store over a connection.
use Rattle.std.specs.Prelude.{ℕ, Bool, refl}
use Rattle.std.specs.Coded.{Coded, code_by, coded×, coded_ℕ, coded_bool}
use Rattle.sqlite.specs.Held.{Held, held_code, state}
use Rattle.sqlite.specs.State.{State}
use Rattle.sqlite_trees.specs.declared.store.Store.{Ghosts}
use Rattle.contest_store.specs.Keeping.{Kept}
use Rattle.contest_store_sqlite.specs.Keeping.{kept_of}

-- the connection, how many calls failed and how many commits were answered, whether the lists are in memory, and whether
-- a change was made since the last commit
pub record StoreValue (S : Type 0) : Type 0 where
  pub conn : Held S
  pub faults : ℕ
  pub refusals : ℕ
  pub commits : ℕ
  pub is_loaded : Bool
  pub is_changed : Bool

abbrev pub store_code : {S : Type 0} → Coded S → Coded (StoreValue S)
store_code {S} code =
    code_by (Held S × (ℕ × (ℕ × (ℕ × (Bool × Bool))))) (coded× (held_code code) (coded× coded_ℕ (coded× coded_ℕ (coded× coded_ℕ (coded× coded_bool coded_bool)))))
    (λ v. (v.conn, (v.faults, (v.refusals, (v.commits, (v.is_loaded, v.is_changed))))))
    (λ p. record { conn = p.0; faults = p.1.0; refusals = p.1.1.0; commits = p.1.1.1.0; is_loaded = p.1.1.1.1.0; is_changed = p.1.1.1.1.1 })
    (λ _. refl)

-- what its tables show
abbrev pub shown_in : {S : Type 0} → Ghosts S → StoreValue S → State
shown_in g v = state g v.conn

-- the store as its contracts see it
abbrev pub stored : {S : Type 0} → Ghosts S → StoreValue S → Kept
stored g v = kept_of (shown_in g v) (record { faults = v.faults; refusals = v.refusals }) v.commits v.is_loaded
