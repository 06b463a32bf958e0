use Rattle.std.proofs.Common.{IsPermutation, ap, subst}
use Rattle.sqlite.specs.State.{Shown}
use Rattle.contest_store_tables.specs.Connected.{shown_by}
use Rattle.contest_store_tables.specs.Statements.{files_of}
use Rattle.contest_store_tables.specs.declared.table_name.TableName.TheVariants.{Submissions}
use Rattle.contest_store_tables.proofs.HoldLemmas.{if_ok}
use Rattle.contest_store_tables.proofs.FileLemmas.{finds}
use Rattle.contest_store_tables.proofs.StepLemmas.{queried}
use Rattle.contest_store_tables.proofs.tables.Tables.files.Goals as goal

pub returns-clause-rows : goal.returns-clause-rows
returns-clause-rows g c clean now kept h team number is =
    let old = shown_by g.S.Store c.args.self.now in
    let new = shown_by g.S.Store c.query_all.new.self in
    if_ok c.query_all.result (c.query_all.ensures.ok clean) (λ rows shown.
    subst (λ all. IsPermutation (files_of team number all) rows.items) (ap (λ all. all Submissions) h.0.shows.1)
    (finds team number c.file_text.result.now c.file_text.ensures old new rows.items h.0.shows.0 (subst (λ ps. Shown c.file_text.result.now ps old new rows.items) is shown)))

pub returns-clause-step : goal.returns-clause-step
returns-clause-step g c =
    queried c.query_all.result (λ rows. rows.items) _ _ (shown_by g.S.Store c.args.self.now) (shown_by g.S.Store c.query_all.new.self) _ _ c.file_text.ensures.plain c.query_all.ensures.ok c.query_all.ensures.err c.query_all.ensures.counts c.query_all.ensures.survives
