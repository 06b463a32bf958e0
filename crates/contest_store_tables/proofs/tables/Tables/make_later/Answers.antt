use Rattle.std.proofs.Common.{[], subst}
use Rattle.sqlite.specs.State.{CommitsBy}
use Rattle.contest_store_tables.specs.Connected.{shown_by}
use Rattle.contest_store_tables.specs.Making.{Creates}
use Rattle.contest_store_tables.specs.Steps.{FullLacking, HasLater, MakesNone}
use Rattle.contest_store_tables.proofs.HoldLemmas.{on_ok}
use Rattle.contest_store_tables.proofs.LaterLemmas.{later_created, later_makes_none}
use Rattle.contest_store_tables.proofs.StepLemmas.{ran}
use Rattle.contest_store_tables.proofs.tables.Tables.make_later.Goals as goal

pub returns : goal.returns
returns g c =
    let old = shown_by g.S.Store c.args.self.now in
    let new = shown_by g.S.Store c.execute.new.self in
    let table = c.args.table in
    let sql = c.create_text.result.now in
    let means = subst (λ name. Creates name sql) c.name.ensures c.create_text.ensures in
    ran c.execute.result old new _ _ (FullLacking table) (HasLater table) (CommitsBy sql [] old) (MakesNone old (FullLacking table)) (λ _ _ h. h.0.0) c.execute.ensures.err c.execute.ensures.counts c.execute.ensures.survives
    (λ clean now kept h. on_ok c.execute.result (λ r. later_created table sql means old now kept new r.0 h.0 r.1) (c.execute.ensures.ok clean))
    (λ db may now kept h. later_makes_none table sql means old now kept db h may)
