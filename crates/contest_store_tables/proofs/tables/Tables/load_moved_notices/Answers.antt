use Rattle.std.proofs.Common.{◌∙◌, [], ap, sym, subst}
use Rattle.contest_store_tables.specs.Connected.{shown_by}
use Rattle.contest_store_tables.specs.Steps.{Rises}
use Rattle.contest_store_tables.specs.declared.table_name.TableName.TheVariants.{Notices}
use Rattle.contest_store_tables.proofs.CellessLemmas.{moved_loads}
use Rattle.contest_store_tables.proofs.HoldLemmas.{if_ok}
use Rattle.contest_store_tables.proofs.StepLemmas.{queried_celless}
use Rattle.contest_store_tables.proofs.tables.Tables.load_moved_notices.Goals as goal

pub returns-clause-rows : goal.returns-clause-rows
returns-clause-rows g c clean now kept h up =
    let old = shown_by g.S.Store c.args.self.now in
    let shows = h.0.shows in
    let same = ap (λ all. all Notices) shows.2 in
    if_ok c.query_all.result (c.query_all.ensures.ok clean) (λ rows shown.
    moved_loads shows.0 _ (c.moved_text.ensures shows.0) old (shown_by g.S.Store c.query_all.new.self) rows.items shows.1 (subst (Rises Notices) (sym same) up) shown ∙ same)

pub returns-clause-step : goal.returns-clause-step
returns-clause-step g c =
    queried_celless c.query_all.result (λ rows. rows.items) _ [] (shown_by g.S.Store c.args.self.now) (shown_by g.S.Store c.query_all.new.self) _ _ (λ place. (c.moved_text.ensures place).plain) c.query_all.ensures.ok c.query_all.ensures.err c.query_all.ensures.counts c.query_all.ensures.survives
