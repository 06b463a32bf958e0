use Rattle.std.proofs.Common.{◌∙◌, arith, sym}
use Rattle.std.proofs.lemmas.Option.{IfSome_then}
use Rattle.sqlite.specs.State.{HasCleanDisk}
use Rattle.contest_store_tables.specs.Connected.{shown_by}
use Rattle.contest_store_tables.specs.Steps.{Full}
use Rattle.contest_store_tables.proofs.HoldLemmas.{if_ok}
use Rattle.contest_store_tables.proofs.StepLemmas.{refuses}
use Rattle.contest_store_sqlite.proofs.LaterSteps.{full_then}
use Rattle.contest_store_sqlite.proofs.opening.read_valid_within.Goals as goal

pub returns-in-Ok-clause-lists : goal.returns-in-Ok-clause-lists
returns-in-Ok-clause-lists g c clean now kept within up =
    let early : HasCleanDisk (shown_by g.S.Store c.read_within.new.tables) = omega (arith, clean, c.check_valid.ensures.step.survives.clean) in
    if_ok c.check_valid.result c.check_valid.ensures.lists (λ found own. IfSome_then found own (λ lists is. sym (c.in-Ok.ensures.lists early now kept within up) ∙ is))

pub returns-in-Ok-clause-step : goal.returns-in-Ok-clause-step
returns-in-Ok-clause-step g c =
    full_then _ c.check_valid.result (shown_by g.S.Store c.args.tables.now) (shown_by g.S.Store c.read_within.new.tables) (shown_by g.S.Store c.check_valid.new.tables) _ _ _ c.in-Ok.ensures.step c.check_valid.ensures.step

pub returns-in-Err-clause-step : goal.returns-in-Err-clause-step
returns-in-Err-clause-step g c = refuses _ (shown_by g.S.Store c.args.tables.now) (shown_by g.S.Store c.read_within.new.tables) _ _ Full Full Full _ c.in-Err.ensures.step
