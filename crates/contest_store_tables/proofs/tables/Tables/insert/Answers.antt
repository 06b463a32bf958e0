use Rattle.sqlite.specs.Values.{bound}
use Rattle.sqlite.specs.State.{CommitsBy}
use Rattle.contest_store_tables.specs.Connected.{shown_by}
use Rattle.contest_store_tables.specs.Steps.{Full, HasInserted, MakesNone}
use Rattle.contest_store_tables.proofs.HoldLemmas.{on_ok}
use Rattle.contest_store_tables.proofs.RowLemmas.{inserted, insert_makes_none}
use Rattle.contest_store_tables.proofs.StepLemmas.{ran}
use Rattle.contest_store_tables.proofs.tables.Tables.insert.Goals as goal

pub returns : goal.returns
returns g c =
    let old = shown_by g.S.Store c.args.self.now in
    let new = shown_by g.S.Store c.execute.new.self in
    let row = bound c.args.row.now in
    let means = c.insert_text.ensures in
    ran c.execute.result old new _ _ Full (HasInserted c.args.table row) (CommitsBy c.insert_text.result.now row old) (MakesNone old Full) (λ _ _ h. h.0.0) c.execute.ensures.err c.execute.ensures.counts c.execute.ensures.survives
    (λ clean now kept h. on_ok c.execute.result (λ r. inserted c.args.table row _ means old new now kept r.0 h.0 r.1) (c.execute.ensures.ok clean))
    (λ db may now kept h. insert_makes_none c.args.table row _ means old new now kept db h may)
