use Rattle.contest_store_tables.specs.Connected.{shown_by, counts_of}
use Rattle.contest_store_tables.specs.Steps.{Full, Showing}
use Rattle.contest_store_changes.specs.ContestTables.{table_rows}
use Rattle.contest_store_sqlite.specs.Steps.{HoldsDesk}
use Rattle.contest_store_sqlite.proofs.BegunLemmas.{begun_within, is_full, still_holds}
use Rattle.contest_store_sqlite.proofs.CallLemmas.{begun_then, not_begun}
use Rattle.contest_store_sqlite.proofs.files.load_file.Goals as goal

pub returns-in-Ok-clause-value : goal.returns-in-Ok-clause-value
returns-in-Ok-clause-value g c clean x kept sound holds =
    let old = shown_by g.S.Store c.args.tables.now in
    let mid = shown_by g.S.Store c.begin.new.self in
    let new = shown_by g.S.Store c.file_within.new.tables in
    c.file_within.ensures.value clean x kept sound (begun_within _ old mid new _ _ _ (Showing (table_rows x)) kept c.in-Ok.ensures c.file_within.ensures.step.survives clean holds)

pub returns-in-Ok-clause-call : goal.returns-in-Ok-clause-call
returns-in-Ok-clause-call g c =
    let old = shown_by g.S.Store c.args.tables.now in
    let mid = shown_by g.S.Store c.begin.new.self in
    let new = shown_by g.S.Store c.file_within.new.tables in
    begun_then old mid new _ _ _ HoldsDesk Full Full (still_holds old) _ _ c.in-Ok.ensures c.file_within.ensures.step (is_full old mid)

pub returns-in-Err-clause-call : goal.returns-in-Err-clause-call
returns-in-Err-clause-call g c =
    let old = shown_by g.S.Store c.args.tables.now in
    let new = shown_by g.S.Store c.begin.new.self in
    not_begun old old new (counts_of c.args.tables.now) (counts_of c.args.tables.now) (counts_of c.begin.new.self) HoldsDesk Full Full (still_holds old) _ c.in-Err.ensures
