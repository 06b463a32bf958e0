use Rattle.contest_store_tables.specs.Connected.{shown_by}
use Rattle.contest_store_tables.specs.Steps.{Holds, Within, Ended, MakesNow}
use Rattle.contest_store_tables.proofs.StepLemmas.{then, stop}
use Rattle.contest_store_tables.proofs.tables.Tables.commit.Goals as goal

pub returns-in-Ok-clause-ended : goal.returns-in-Ok-clause-ended
returns-in-Ok-clause-ended g c =
    let old = shown_by g.S.Store c.args.self.now in
    let mid = shown_by g.S.Store c.begin.new.self in
    let new = shown_by g.S.Store c.end.new.self in
    then _ _ old mid new _ _ _ Ended (MakesNow old Holds) (MakesNow mid Within) c.in-Ok.ensures c.end.ensures.ended (λ db within made now kept h. made now kept (within now kept h))

pub returns-in-Err-clause-ended : goal.returns-in-Err-clause-ended
returns-in-Err-clause-ended g c = stop _ (shown_by g.S.Store c.args.self.now) (shown_by g.S.Store c.begin.new.self) _ _ Ended _ c.in-Err.ensures

pub returns-in-Err-clause-rest : goal.returns-in-Err-clause-rest
returns-in-Err-clause-rest g c = λ clean. (c.in-Err.ensures.step.err clean).autocommit
