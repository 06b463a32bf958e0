use Rattle.std.proofs.Common.{◌∙◌, ap}
use Rattle.std.proofs.lemmas.List.{map-id}
use Rattle.contest_store_reading.specs.FixedParts.{is_desk}
use Rattle.contest_store_rows.specs.declared.versions.Version.TheVariants.{First}
use Rattle.contest_store_tables.specs.Connected.{shown_by}
use Rattle.contest_store_tables.specs.Steps.{Full}
use Rattle.contest_store_tables.specs.declared.table_name.TableName.TheVariants.{Desk}
use Rattle.contest_store_tables.proofs.StepLemmas.{answers, refuses}
use Rattle.contest_store_sqlite.proofs.older.is_first.Goals as goal

pub returns-in-Ok-clause-first : goal.returns-in-Ok-clause-first
returns-in-Ok-clause-first g c clean rows kept within up = c.is_desk.ensures ∙ ap (is_desk First) (c.deref.ensures.value ∙ c.in-Ok.ensures.rows clean rows kept within up ∙ map-id (rows Desk))

pub returns-in-Ok-clause-step : goal.returns-in-Ok-clause-step
returns-in-Ok-clause-step g c = answers _ _ (shown_by g.S.Store c.args.tables.now) (shown_by g.S.Store c.load.new.self) _ _ Full Full _ c.in-Ok.ensures.step

pub returns-in-Err-clause-step : goal.returns-in-Err-clause-step
returns-in-Err-clause-step g c = refuses _ (shown_by g.S.Store c.args.tables.now) (shown_by g.S.Store c.load.new.self) _ _ Full Full Full _ c.in-Err.ensures.step
