use Rattle.std.proofs.Common.{[]}
use Rattle.sqlite.specs.State.{CommitsBy}
use Rattle.contest_store_tables.specs.Celless.{FullCelless, HasDropped}
use Rattle.contest_store_tables.specs.Connected.{shown_by}
use Rattle.contest_store_tables.specs.Steps.{MakesNone}
use Rattle.contest_store_tables.proofs.CellessLemmas.{drop_makes_none, has_dropped}
use Rattle.contest_store_tables.proofs.HoldLemmas.{on_ok}
use Rattle.contest_store_tables.proofs.StepLemmas.{ran}
use Rattle.contest_store_tables.proofs.tables.Tables.drop_moved_notices.Goals as goal

pub returns : goal.returns
returns g c =
    let old = shown_by g.S.Store c.args.self.now in
    let new = shown_by g.S.Store c.execute.new.self in
    let sql = c.drop_text.result.now in
    let means = c.drop_text.ensures in
    ran c.execute.result old new _ _ FullCelless HasDropped (CommitsBy sql [] old) (MakesNone old FullCelless) (λ _ _ h. h.0.0) c.execute.ensures.err c.execute.ensures.counts c.execute.ensures.survives
    (λ clean now kept h. on_ok c.execute.result (λ r. has_dropped sql means old now kept new r.0 h.0 r.1) (c.execute.ensures.ok clean))
    (λ db may now kept h. drop_makes_none sql means old now kept db h may)
