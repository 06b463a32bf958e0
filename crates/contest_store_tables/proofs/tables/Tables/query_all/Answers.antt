use Rattle.std.proofs.Common.{arith}
use Rattle.sqlite.specs.Values.{bound}
use Rattle.sqlite.specs.Held.{state}
use Rattle.contest_store_tables.specs.Connected.{shown_by}
use Rattle.contest_store_tables.proofs.UndoLemmas.{query_failed, undone_after}
use Rattle.contest_store_tables.proofs.tables.Tables.query_all.Goals as goal

pub returns-in-Err-clause-err : goal.returns-in-Err-clause-err
returns-in-Err-clause-err g c clean =
    let mid = state g.S.Store c.query_all.new.self in
    undone_after (shown_by g.S.Store c.args.self.now) mid (shown_by g.S.Store c.fail.new.self)
    (query_failed c.args.sql.now (bound c.args.params.now) _ mid c.in-Err.error (c.in-Err.ensures.err (omega (arith, c.fail.ensures.survives.clean))))
    (c.fail.ensures.undone clean)
