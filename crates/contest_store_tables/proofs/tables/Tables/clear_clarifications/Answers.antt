use Rattle.std.proofs.Common.{[]}
use Rattle.sqlite.specs.State.{CommitsBy}
use Rattle.contest_store_tables.specs.Clearing.{HasCleared}
use Rattle.contest_store_tables.specs.Connected.{shown_by}
use Rattle.contest_store_tables.specs.Steps.{Full, MakesNone}
use Rattle.contest_store_tables.specs.declared.table_name.TableName.TheVariants.{Clarifications}
use Rattle.contest_store_tables.proofs.ClearLemmas.{cleared, clear_makes_none}
use Rattle.contest_store_tables.proofs.HoldLemmas.{on_ok}
use Rattle.contest_store_tables.proofs.StepLemmas.{ran}
use Rattle.contest_store_tables.proofs.tables.Tables.clear_clarifications.Goals as goal

pub returns : goal.returns
returns g c =
    let old = shown_by g.S.Store c.args.self.now in
    let new = shown_by g.S.Store c.execute.new.self in
    let sql = c.clear_text.result.now in
    let means = c.clear_text.ensures in
    ran c.execute.result old new _ _ Full (HasCleared Clarifications) (CommitsBy sql [] old) (MakesNone old Full) (λ _ _ h. h.0.0) c.execute.ensures.err c.execute.ensures.counts c.execute.ensures.survives
    (λ clean now kept h. on_ok c.execute.result (λ r. cleared sql means old now kept new r.0 h.0 r.1) (c.execute.ensures.ok clean))
    (λ db may now kept h. clear_makes_none sql means old now kept db h may)
