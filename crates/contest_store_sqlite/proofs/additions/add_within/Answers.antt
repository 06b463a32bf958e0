use Rattle.contest_store_tables.specs.Connected.{shown_by}
use Rattle.contest_store_tables.proofs.StepLemmas.{refuses}
use Rattle.contest_store_changes.specs.Additions.{Admits, HasAdded, HasListed}
use Rattle.contest_store_sqlite.proofs.LaterSteps.{given_up_then}
use Rattle.contest_store_sqlite.proofs.ListsGrown.{lists_grown}
use Rattle.contest_store_sqlite.proofs.ScoredAdditions.{added_and_scored, kept_as, listed_within}
use Rattle.contest_store_sqlite.proofs.additions.add_within.Goals as goal

pub returns-in-Ok-add-clause-lists : goal.returns-in-Ok-add-clause-lists
returns-in-Ok-add-clause-lists g c x held may =
    kept_as c.keep_scored.result c.in-Ok-add.changed _ c.keep_scored.ensures.lists (lists_grown x c.args.entry.now c.args.lists c.in-Ok-add.changed held may c.in-Ok-add.ensures)

pub returns-in-Ok-add-clause-step : goal.returns-in-Ok-add-clause-step
returns-in-Ok-add-clause-step g c =
    added_and_scored _ c.keep_scored.result (shown_by g.S.Store c.args.tables.now) (shown_by g.S.Store c.write_entry.new.tables) (shown_by g.S.Store c.keep_scored.new.tables) _ _ _ c.args.lists c.in-Ok-add.changed
    c.args.entry.now c.is_of_kinds.ensures (λ x held may. lists_grown x c.args.entry.now c.args.lists c.in-Ok-add.changed held may c.in-Ok-add.ensures) (rw c.lists.ensures at c.in-Ok.ensures) c.keep_scored.ensures.step

pub returns-in-Err-add-clause-step : goal.returns-in-Err-add-clause-step
returns-in-Err-add-clause-step g c =
    let lists = c.args.lists in
    let entry = c.args.entry.now in
    let up = c.out_of_memory in
    let mid = shown_by g.S.Store c.write_entry.new.tables in
    given_up_then _ _ _ (shown_by g.S.Store c.args.tables.now) mid (shown_by g.S.Store up.new.self) _ _ _ (Admits lists entry) (HasListed lists entry) (HasAdded lists entry)
    (λ now kept from added. listed_within lists entry mid now kept added) (rw c.lists.ensures at c.in-Ok.ensures) up.ensures.error up.ensures.undone up.ensures.counts up.ensures.survives

pub returns-in-Err-clause-step : goal.returns-in-Err-clause-step
returns-in-Err-clause-step g c =
    let lists = c.args.lists in
    let entry = c.args.entry.now in
    refuses c.in-Err.error (shown_by g.S.Store c.args.tables.now) (shown_by g.S.Store c.write_entry.new.tables) _ _ (Admits lists entry) (HasListed lists entry) (HasAdded lists entry) _ (rw c.lists.ensures at c.in-Err.ensures)
