use Rattle.std.proofs.Common.{◌≡◌, Some, refl, subst}
use Rattle.std.specs.Prelude.{IfSome}
use Rattle.contest_store_reading.specs.Spelling.{lists_in_version}
use Rattle.contest_store_rows.specs.declared.versions.TheConstants.{VERSION}
use Rattle.contest_store_tables.specs.Connected.{shown_by}
use Rattle.contest_store_tables.specs.Steps.{Showing}
use Rattle.contest_store_changes.specs.ContestTables.{loaded_tables}
use Rattle.contest_store_sqlite.specs.Steps.{HoldsDesk}
use Rattle.contest_store_sqlite.proofs.OpenedContests.{are_checked, makes_none, makes_none_then, makes_right, reads_tables}
use Rattle.contest_store_sqlite.proofs.opening.read_tables.Goals as goal

pub returns-in-Some-clause-read : goal.returns-in-Some-clause-read
returns-in-Some-clause-read g c =
    let found = c.in-Ok.ensures in
    let kept = c.keep_mended.ensures in
    reads_tables _ (shown_by g.S.Store c.args.tables.now) (shown_by g.S.Store c.begin_and_read.new.tables) (shown_by g.S.Store c.keep_mended.new.tables) _ _ c.in-Some.lists found.call
    (λ clean rows last holds up. subst (λ o. IfSome o (λ lists. lists_in_version VERSION (loaded_tables rows) ≡ Some lists)) c.in-Some.is (found.lists clean rows last holds up))
    (are_checked c.in-Ok.found c.in-Some.lists c.in-Some.is found.checked) kept.survives c.keep_mended.result kept.lists kept.keeps

pub returns-in-Some-clause-survives : goal.returns-in-Some-clause-survives
returns-in-Some-clause-survives g c =
    let found = c.in-Ok.ensures in
    makes_right _ (shown_by g.S.Store c.args.tables.now) (shown_by g.S.Store c.begin_and_read.new.tables) (shown_by g.S.Store c.keep_mended.new.tables) _ _ c.in-Some.lists found.call
    (λ clean rows last holds up. subst (λ o. IfSome o (λ lists. lists_in_version VERSION (loaded_tables rows) ≡ Some lists)) c.in-Some.is (found.lists clean rows last holds up))
    (are_checked c.in-Ok.found c.in-Some.lists c.in-Some.is found.checked) c.keep_mended.ensures.survives

pub returns-in-None-clause-survives : goal.returns-in-None-clause-survives
returns-in-None-clause-survives g c =
    makes_none_then Showing (shown_by g.S.Store c.args.tables.now) HoldsDesk (λ rows kept holds. (holds, (rows, refl))) (shown_by g.S.Store c.begin_and_read.new.tables) (shown_by g.S.Store c.roll_back.new.self)
    c.begin_and_read.ensures.call.step.survives c.roll_back.ensures.survives

pub returns-in-Err-clause-survives : goal.returns-in-Err-clause-survives
returns-in-Err-clause-survives g c =
    makes_none Showing (shown_by g.S.Store c.args.tables.now) HoldsDesk (λ rows kept holds. (holds, (rows, refl))) (shown_by g.S.Store c.begin_and_read.new.tables) c.begin_and_read.ensures.call.step.survives
