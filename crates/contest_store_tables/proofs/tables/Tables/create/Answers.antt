use Rattle.std.proofs.Common.{[], ◌+◌}
use Rattle.sqlite.specs.State.{CommitsBy}
use Rattle.contest_store_tables.specs.Connected.{shown_by}
use Rattle.contest_store_tables.specs.Schema.{index_of}
use Rattle.contest_store_tables.specs.Steps.{HasFirst, HasCreated, MakesNone}
use Rattle.contest_store_tables.proofs.HoldLemmas.{on_ok}
use Rattle.contest_store_tables.proofs.MakingLemmas.{table_created, create_makes_none}
use Rattle.contest_store_tables.proofs.StepLemmas.{ran}
use Rattle.contest_store_tables.proofs.tables.Tables.create.Goals as goal

pub returns : goal.returns
returns g c =
    let old = shown_by g.S.Store c.args.self.now in
    let new = shown_by g.S.Store c.execute.new.self in
    let name = c.args.table in
    let sql = c.create_text.result.now in
    let means = c.create_text.ensures in
    ran c.execute.result old new _ _ (HasFirst (index_of name)) (HasCreated (index_of name + 1)) (CommitsBy sql [] old) (MakesNone old (HasFirst (index_of name))) (λ _ _ h. h.0.0) c.execute.ensures.err c.execute.ensures.counts c.execute.ensures.survives
    (λ clean now kept h. on_ok c.execute.result (λ r. table_created name sql means old new now kept r.0 h r.1) (c.execute.ensures.ok clean))
    (λ db may now kept h. create_makes_none name sql means old now kept db h may)
