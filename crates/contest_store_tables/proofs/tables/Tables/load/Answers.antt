use Rattle.std.proofs.Common.{◌∙◌, [], ap, sym, subst, map}
use Rattle.contest_store_tables.specs.Connected.{shown_by}
use Rattle.contest_store_tables.specs.Statements.{loaded_row}
use Rattle.contest_store_tables.specs.Steps.{Rises}
use Rattle.contest_store_tables.proofs.HoldLemmas.{if_ok}
use Rattle.contest_store_tables.proofs.LoadLemmas.{loads}
use Rattle.contest_store_tables.proofs.StepLemmas.{queried}
use Rattle.contest_store_tables.proofs.tables.Tables.load.Goals as goal

pub returns-clause-rows : goal.returns-clause-rows
returns-clause-rows g c clean now kept h up =
    let old = shown_by g.S.Store c.args.self.now in
    let table = c.args.table in
    let same = ap (λ all. all table) h.0.shows.1 in
    if_ok c.query_all.result (c.query_all.ensures.ok clean) (λ rows shown.
    loads table _ c.load_text.ensures old (shown_by g.S.Store c.query_all.new.self) rows.items h.0.shows.0 (subst (Rises table) (sym same) up) shown ∙ ap (map (loaded_row table)) same)

pub returns-clause-step : goal.returns-clause-step
returns-clause-step g c =
    queried c.query_all.result (λ rows. rows.items) _ [] (shown_by g.S.Store c.args.self.now) (shown_by g.S.Store c.query_all.new.self) _ _ c.load_text.ensures.plain c.query_all.ensures.ok c.query_all.ensures.err c.query_all.ensures.counts c.query_all.ensures.survives
