use Rattle.sqlite.specs.Values.{bound}
use Rattle.sqlite.specs.State.{CommitsBy}
use Rattle.contest_store_tables.specs.Changes.{HasChanged}
use Rattle.contest_store_tables.specs.Connected.{shown_by}
use Rattle.contest_store_tables.specs.Steps.{Full, MakesNone}
use Rattle.contest_store_tables.proofs.ChangeLemmas.{changed, change_makes_none}
use Rattle.contest_store_tables.proofs.HoldLemmas.{on_ok}
use Rattle.contest_store_tables.proofs.StepLemmas.{ran}
use Rattle.contest_store_tables.proofs.tables.Tables.change.Goals as goal

pub returns : goal.returns
returns g c =
    let old = shown_by g.S.Store c.args.self.now in
    let new = shown_by g.S.Store c.execute.new.self in
    let given = bound c.args.given.now in
    let sql = c.change_text.result.now in
    let means = c.change_text.ensures in
    ran c.execute.result old new _ _ Full (HasChanged c.args.change given) (CommitsBy sql given old) (MakesNone old Full) (λ _ _ h. h.0.0) c.execute.ensures.err c.execute.ensures.counts c.execute.ensures.survives
    (λ clean now kept h. on_ok c.execute.result (λ r. changed c.args.change given sql means old new now kept r.0 h.0 r.1) (c.execute.ensures.ok clean))
    (λ db may now kept h. change_makes_none c.args.change given sql means old new now kept db h may)
