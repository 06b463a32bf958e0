use Rattle.contest_store_reading.specs.Spelling.{without_rows}
use Rattle.contest_store_tables.specs.Connected.{counts_of, shown_by}
use Rattle.contest_store_tables.specs.Steps.{HasFirst}
use Rattle.contest_store_sqlite.specs.Creation.{HasContest, HoldsNone}
use Rattle.contest_store_sqlite.proofs.CallLemmas.{begun_then, not_begun}
use Rattle.contest_store_sqlite.proofs.MadeContests.{has_none, none_holds}
use Rattle.contest_store_sqlite.proofs.creation.make_rows.Goals as goal

pub returns-in-Ok : goal.returns-in-Ok
returns-in-Ok g c =
    let old = shown_by g.S.Store c.args.tables.now in
    let mid = shown_by g.S.Store c.begin.new.self in
    begun_then old mid (shown_by g.S.Store c.make_within.new.tables) _ _ _ HoldsNone (HasFirst 0) (HasContest (without_rows c.args.fixed.now)) (none_holds old)
    c.in-Ok.field-0 c.make_within.result c.in-Ok.ensures c.make_within.ensures (has_none old mid)

pub returns-in-Err : goal.returns-in-Err
returns-in-Err g c =
    let old = shown_by g.S.Store c.args.tables.now in
    let counts = counts_of c.args.tables.now in
    not_begun old old (shown_by g.S.Store c.begin.new.self) counts counts _ HoldsNone (HasFirst 0) (HasContest (without_rows c.args.fixed.now)) (none_holds old)
    c.in-Err.error c.in-Err.ensures
