-- A keeper as contracts see the store over it, and what it keeps true of itself.
use Rattle.std.specs.Prelude.{is_some}
use Rattle.sqlite_trees.specs.declared.store.Store.{Ghosts}
use Rattle.contest_store.specs.Keeping.{Kept}
use Rattle.contest_store_tables.specs.Connected.{shown_by, counts_of}
use Rattle.contest_store_sqlite.specs.Keeping.{kept_of, StaysCommitted, StaysHeld, StaysKept}
use Rattle.contest_store_sqlite.specs.declared.keeper.Keeper.{Keeper}

abbrev pub keeps : {S : Type 0} → Ghosts S → Keeper S → Kept
keeps g k = kept_of (shown_by g k.tables) (counts_of k.tables) k.commits (is_some k.held)

abbrev pub IsWhole : {S : Type 0} → Ghosts S → Keeper S → Type 0
IsWhole g k = StaysKept (shown_by g k.tables) × StaysHeld (shown_by g k.tables) k.held × StaysCommitted (shown_by g k.tables) k.is_changed
