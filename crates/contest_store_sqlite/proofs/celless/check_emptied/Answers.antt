use Rattle.std.proofs.Common.{◌≡◌, ◌∙◌, List, [], Some, ap, arith, subst}
use Rattle.std.specs.Prelude.{IfSome}
use Rattle.sqlite.specs.State.{HasCleanDisk}
use Rattle.sqlite_value.specs.Order.{Row}
use Rattle.contest_store_reading.specs.Spelling.{lists_in_version}
use Rattle.contest_store_rows.specs.Tables.{Tables}
use Rattle.contest_store_rows.specs.declared.versions.TheConstants.{VERSION}
use Rattle.contest_store_tables.specs.Connected.{shown_by}
use Rattle.contest_store_tables.specs.Steps.{Full, with_rows}
use Rattle.contest_store_tables.specs.declared.table_name.TableName.TheVariants.{Notices}
use Rattle.contest_store_tables.proofs.HoldLemmas.{if_ok}
use Rattle.contest_store_tables.proofs.StepLemmas.{refuses}
use Rattle.contest_store_changes.specs.ContestTables.{loaded_tables}
use Rattle.contest_store_sqlite.specs.Loading.{with_loaded}
use Rattle.contest_store_sqlite.proofs.CellessContests.{less_rise}
use Rattle.contest_store_sqlite.proofs.LaterSteps.{full_then}
use Rattle.contest_store_sqlite.proofs.celless.check_emptied.Goals as goal

pub returns-in-Ok-clause-lists : goal.returns-in-Ok-clause-lists
returns-in-Ok-clause-lists g c clean now kept within up notices =
    let early : HasCleanDisk (shown_by g.S.Store c.load_rows.new.tables) = omega (arith, clean, c.check_rows.ensures.step.survives.clean) in
    let less = c.in-Ok.ensures.rows early (with_rows Notices [] now) kept within (less_rise now up) in
    let all = c.with_notices.ensures ∙ ap (λ (t : Tables). with_loaded Notices c.args.notices.items t) less ∙ ap (λ (own : List Row). with_loaded Notices own (loaded_tables (with_rows Notices [] now))) notices in
    if_ok c.check_rows.result c.check_rows.ensures.lists (λ found own. subst (λ (t : Tables). IfSome found (λ lists. lists_in_version VERSION t ≡ Some lists)) all own)

pub returns-in-Ok-clause-step : goal.returns-in-Ok-clause-step
returns-in-Ok-clause-step g c =
    full_then _ c.check_rows.result (shown_by g.S.Store c.args.tables.now) (shown_by g.S.Store c.load_rows.new.tables) (shown_by g.S.Store c.check_rows.new.tables) _ _ _ c.in-Ok.ensures.step c.check_rows.ensures.step

pub returns-in-Err-clause-step : goal.returns-in-Err-clause-step
returns-in-Err-clause-step g c = refuses _ (shown_by g.S.Store c.args.tables.now) (shown_by g.S.Store c.load_rows.new.tables) _ _ Full Full Full _ c.in-Err.ensures.step
