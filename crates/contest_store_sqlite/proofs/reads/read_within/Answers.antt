use Rattle.std.proofs.Common.{◌∙◌, ap}
use Rattle.contest_store_reading.specs.Spelling.{lists_in_version}
use Rattle.contest_store_tables.specs.Connected.{shown_by}
use Rattle.contest_store_tables.specs.Steps.{Full}
use Rattle.contest_store_sqlite.proofs.LaterSteps.{given_up_then}
use Rattle.contest_store_sqlite.proofs.reads.read_within.Goals as goal

pub returns-in-Ok-read_scored-clause-lists : goal.returns-in-Ok-read_scored-clause-lists
returns-in-Ok-read_scored-clause-lists g c clean now kept within up = c.in-Ok-read_scored.ensures ∙ ap (lists_in_version c.args.version) (c.in-Ok.ensures.rows clean now kept within up)

pub returns-in-Ok-clause-step : goal.returns-in-Ok-clause-step
returns-in-Ok-clause-step g c =
    let up = c.out_of_memory in
    given_up_then _ _ _ (shown_by g.S.Store c.args.tables.now) (shown_by g.S.Store c.load_rows.new.tables) (shown_by g.S.Store up.new.self) _ _ _ Full Full Full
    (λ now kept from full. (now, full.0)) c.in-Ok.ensures.step up.ensures.error up.ensures.undone up.ensures.counts up.ensures.survives
