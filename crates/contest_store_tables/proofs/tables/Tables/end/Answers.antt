use Rattle.std.proofs.Common.{[], codes}
use Rattle.sqlite.specs.State.{CommitsBy}
use Rattle.contest_store_tables.specs.Connected.{shown_by}
use Rattle.contest_store_tables.specs.Steps.{Within, Ended, MakesNow}
use Rattle.contest_store_tables.proofs.HoldLemmas.{on_ok, committed, commit_leaves, commit_rests}
use Rattle.contest_store_tables.proofs.StepLemmas.{ran}
use Rattle.contest_store_tables.proofs.tables.Tables.end.Goals as goal

pub returns-clause-ended : goal.returns-clause-ended
returns-clause-ended g c =
    let old = shown_by g.S.Store c.args.self.now in
    let new = shown_by g.S.Store c.execute.new.self in
    ran c.execute.result old new _ _ Within Ended (CommitsBy (codes "COMMIT") [] old) (MakesNow old Within) (λ _ _ h. h.0) c.execute.ensures.err c.execute.ensures.counts c.execute.ensures.survives
    (λ clean now kept h. on_ok c.execute.result (λ r. committed old new now kept r.0 h.0 r.1) (c.execute.ensures.ok clean)) (λ db may now kept h. commit_leaves old now kept db h.0 may)

pub returns-clause-rest : goal.returns-clause-rest
returns-clause-rest g c = λ clean. commit_rests c.execute.result (shown_by g.S.Store c.args.self.now) (shown_by g.S.Store c.execute.new.self) (c.execute.ensures.ok clean) (c.execute.ensures.err clean)
