use Rattle.std.proofs.Common.{◌≡◌, Some, subst, arith}
use Rattle.std.specs.Prelude.{IfSome}
use Rattle.sqlite.specs.State.{HasCleanDisk}
use Rattle.contest_store_reading.specs.Spelling.{lists_in_version}
use Rattle.contest_store_rows.specs.declared.versions.Version.TheVariants.{First}
use Rattle.contest_store_tables.specs.Connected.{shown_by}
use Rattle.contest_store_changes.specs.ContestTables.{loaded_tables}
use Rattle.contest_store_sqlite.proofs.CallLemmas.{any_ok}
use Rattle.contest_store_sqlite.proofs.OpenedContests.{are_checked}
use Rattle.contest_store_sqlite.proofs.UpgradedContests.{makes_upgraded, upgrades_none, upgrades_none_then, upgrades_tables}
use Rattle.contest_store_sqlite.proofs.upgrading.upgrade_tables.Goals as goal

pub returns-in-Some-clause-upgraded : goal.returns-in-Some-clause-upgraded
returns-in-Some-clause-upgraded g c =
    let found = c.in-Ok.ensures in
    upgrades_tables _ (shown_by g.S.Store c.args.tables.now) (shown_by g.S.Store c.find_first.new.tables) (shown_by g.S.Store c.move_up.new.tables) _ _ c.args.table c.in-Some.lists found.call
    (λ clean rows last holds up. subst (λ o. IfSome o (λ lists. lists_in_version First (loaded_tables rows) ≡ Some lists)) c.in-Some.is (found.lists clean rows last holds up))
    (are_checked c.in-Ok.found c.in-Some.lists c.in-Some.is found.checked) c.move_up.ensures.survives c.move_up.result c.move_up.ensures.moves

pub returns-in-Some-clause-survives : goal.returns-in-Some-clause-survives
returns-in-Some-clause-survives g c =
    let found = c.in-Ok.ensures in
    makes_upgraded _ (shown_by g.S.Store c.args.tables.now) (shown_by g.S.Store c.find_first.new.tables) (shown_by g.S.Store c.move_up.new.tables) _ _ c.args.table c.in-Some.lists found.call
    (λ clean rows last holds up. subst (λ o. IfSome o (λ lists. lists_in_version First (loaded_tables rows) ≡ Some lists)) c.in-Some.is (found.lists clean rows last holds up))
    (are_checked c.in-Ok.found c.in-Some.lists c.in-Some.is found.checked) c.move_up.ensures.survives

pub returns-in-Some-clause-up : goal.returns-in-Some-clause-up
returns-in-Some-clause-up g c clean live =
    let early : HasCleanDisk (shown_by g.S.Store c.find_first.new.tables) = omega (arith, clean, c.move_up.ensures.survives.clean) in
    any_ok c.move_up.result (c.in-Ok.ensures.call.up early live)

pub returns-in-None-clause-survives : goal.returns-in-None-clause-survives
returns-in-None-clause-survives g c =
    upgrades_none_then c.args.table (shown_by g.S.Store c.args.tables.now) (shown_by g.S.Store c.find_first.new.tables) (shown_by g.S.Store c.roll_back.new.self)
    c.find_first.ensures.call.step.survives c.roll_back.ensures.survives

pub returns-in-Err-clause-survives : goal.returns-in-Err-clause-survives
returns-in-Err-clause-survives g c =
    upgrades_none c.args.table (shown_by g.S.Store c.args.tables.now) (shown_by g.S.Store c.find_first.new.tables) c.find_first.ensures.call.step.survives
