use Rattle.std.proofs.Common.{[], codes}
use Rattle.sqlite.specs.State.{CommitsBy}
use Rattle.contest_store_tables.specs.Connected.{shown_by}
use Rattle.contest_store_tables.specs.Steps.{Holds, Within}
use Rattle.contest_store_tables.proofs.HoldLemmas.{on_ok, begun, begin_keeps, begin_open}
use Rattle.contest_store_tables.proofs.StepLemmas.{ran, beginning}
use Rattle.contest_store_tables.proofs.tables.Tables.begin.Goals as goal

pub returns : goal.returns
returns g c =
    let old = shown_by g.S.Store c.args.self.now in
    let new = shown_by g.S.Store c.execute.new.self in
    beginning c.execute.result old new _ _
    (ran c.execute.result old new _ _ Holds Within (CommitsBy (codes "BEGIN") [] old) (λ _. ⊥) (λ _ _ h. h) c.execute.ensures.err c.execute.ensures.counts c.execute.ensures.survives
    (λ clean now kept h. on_ok c.execute.result (λ r. begun old new now kept r.0 h r.1) (c.execute.ensures.ok clean)) (λ db may. begin_keeps old db may))
    (λ clean _. on_ok c.execute.result (λ r. begin_open old new r.0 r.1) (c.execute.ensures.ok clean)) c.execute.ensures.err
