-- What a connection shows, and what is undone where a call failed (own).
use Rattle.std.specs.Prelude.{◌≡◌, false, [], IsTrue}
use Rattle.sqlite.specs.State.{State}
use Rattle.sqlite.specs.Held.{Held, state}
use Rattle.sqlite_trees.specs.declared.store.Store.{Ghosts}
use Rattle.contest_store_tables.specs.Schema.{celless_schema, desk_schema, schema_before}
use Rattle.contest_store_tables.specs.declared.counts.Counts.{Counts}
use Rattle.contest_store_tables.specs.declared.later_table.LaterTable.{LaterTable}
use Rattle.contest_store_tables.specs.declared.tables.Tables.{Tables}

abbrev pub connection_of : {S : Type 0} → Tables S → Held S
connection_of t = t.conn

abbrev pub shown_by : {S : Type 0} → Ghosts S → Tables S → State
shown_by g t = state g (connection_of t)

abbrev pub counts_of : {S : Type 0} → Tables S → Counts
counts_of t = t.counts

-- open, and all that it sees is committed
abbrev pub IsAtRest : State → Type 0
IsAtRest s = IsTrue s.is_open × (s.now ≡ s.committed)

-- the tables of a contest stand, and no others
abbrev pub IsOfDesk : State → Type 0
IsOfDesk s = s.now.schema ≡ desk_schema

-- those that are made before this one stand, and no others
abbrev pub IsLacking : LaterTable → State → Type 0
IsLacking table s = s.now.schema ≡ schema_before table

-- all but that of the cells stand, which was taken out, and no others; the notices in that place
abbrev pub IsCelless : (place : LaterTable) → State → Type 0
IsCelless place s = s.now.schema ≡ celless_schema place

-- no table stands
abbrev pub IsBare : State → Type 0
IsBare s = s.now.schema ≡ record { tables = []; indexes = []; views = [] }

-- no change stands that was not committed
pub record IsUndone (old new : State) : Type 0 where
  pub was_open : IsTrue new.is_open → IsTrue old.is_open
  pub undone : IsTrue new.is_open → (new.now ≡ old.committed) × (new.committed ≡ old.committed)
  pub autocommit : new.in_transaction ≡ false
