use Rattle.std.proofs.Common.{◌≡◌, Some, refl, subst}
use Rattle.std.specs.Prelude.{IfSome}
use Rattle.contest_store_reading.specs.Spelling.{lists_in_version}
use Rattle.contest_store_rows.specs.declared.versions.TheConstants.{VERSION}
use Rattle.contest_store_tables.specs.Connected.{shown_by}
use Rattle.contest_store_tables.specs.Steps.{Celless}
use Rattle.contest_store_changes.specs.ContestTables.{loaded_tables}
use Rattle.contest_store_sqlite.specs.Celless.{HoldsCelless}
use Rattle.contest_store_sqlite.proofs.CellessContests.{makes_celless, reads_celless}
use Rattle.contest_store_sqlite.proofs.OpenedContests.{are_checked, makes_none, makes_none_then}
use Rattle.contest_store_sqlite.proofs.celless.read_celless.Goals as goal

pub returns-in-Some-clause-read : goal.returns-in-Some-clause-read
returns-in-Some-clause-read g c =
    let found = c.in-Ok.ensures in
    let back = c.put_back.ensures in
    reads_celless _ (shown_by g.S.Store c.args.tables.now) (shown_by g.S.Store c.find_celless.new.tables) (shown_by g.S.Store c.put_back.new.tables) _ _ c.in-Some.lists found.call
    (λ clean rows last holds up. subst (λ o. IfSome o (λ lists. lists_in_version VERSION (loaded_tables rows) ≡ Some lists)) c.in-Some.is (found.lists clean rows last holds up))
    (are_checked c.in-Ok.found c.in-Some.lists c.in-Some.is found.checked) back.survives c.put_back.result back.lists back.back

pub returns-in-Some-clause-survives : goal.returns-in-Some-clause-survives
returns-in-Some-clause-survives g c =
    let found = c.in-Ok.ensures in
    makes_celless _ (shown_by g.S.Store c.args.tables.now) (shown_by g.S.Store c.find_celless.new.tables) (shown_by g.S.Store c.put_back.new.tables) _ _ c.in-Some.lists found.call
    (λ clean rows last holds up. subst (λ o. IfSome o (λ lists. lists_in_version VERSION (loaded_tables rows) ≡ Some lists)) c.in-Some.is (found.lists clean rows last holds up))
    (are_checked c.in-Ok.found c.in-Some.lists c.in-Some.is found.checked) c.put_back.ensures.survives

pub returns-in-None-clause-survives : goal.returns-in-None-clause-survives
returns-in-None-clause-survives g c =
    makes_none_then Celless (shown_by g.S.Store c.args.tables.now) HoldsCelless (λ rows kept holds. (holds, (rows, refl))) (shown_by g.S.Store c.find_celless.new.tables) (shown_by g.S.Store c.roll_back.new.self)
    c.find_celless.ensures.call.step.survives c.roll_back.ensures.survives

pub returns-in-Err-clause-survives : goal.returns-in-Err-clause-survives
returns-in-Err-clause-survives g c =
    makes_none Celless (shown_by g.S.Store c.args.tables.now) HoldsCelless (λ rows kept holds. (holds, (rows, refl))) (shown_by g.S.Store c.find_celless.new.tables) c.find_celless.ensures.call.step.survives
