use Rattle.std.proofs.Common.{length, subst}
use Rattle.contest_types.specs.State.{ContestState}
use Rattle.contest_store_tables.specs.Connected.{counts_of, shown_by}
use Rattle.contest_store_tables.specs.Steps.{MakesNone, Step}
use Rattle.contest_store_changes.specs.UpgradeSteps.{HasMoved, ShowsNoticeless}
use Rattle.contest_store_sqlite.proofs.CellessContests.{back_none, makes_back, puts_back}
use Rattle.contest_store_sqlite.proofs.celless.put_back.Goals as goal

pub returns-in-Ok-clause-back : goal.returns-in-Ok-clause-back
returns-in-Ok-clause-back g c =
    let old = shown_by g.S.Store c.args.tables.now in
    let mid = shown_by g.S.Store c.insert_notices.new.tables in
    let one = subst (λ (l : ContestState). Step c.insert_notices.result old mid (counts_of c.args.tables.now) (counts_of c.insert_notices.new.tables) (ShowsNoticeless l) (HasMoved l (length l.clarifications)) (MakesNone old (ShowsNoticeless l))) c.lists.ensures c.insert_notices.ensures in
    puts_back c.args.lists c.in-Ok.field-0 c.keep_mended.result old mid (shown_by g.S.Store c.keep_mended.new.tables) _ (counts_of c.insert_notices.new.tables)
    (subst (λ r. Step r old mid (counts_of c.args.tables.now) (counts_of c.insert_notices.new.tables) (ShowsNoticeless c.args.lists) (HasMoved c.args.lists (length c.args.lists.clarifications)) (MakesNone old (ShowsNoticeless c.args.lists))) c.in-Ok.is one)
    c.keep_mended.ensures.survives c.keep_mended.ensures.keeps

pub returns-in-Ok-clause-survives : goal.returns-in-Ok-clause-survives
returns-in-Ok-clause-survives g c =
    let old = shown_by g.S.Store c.args.tables.now in
    let mid = shown_by g.S.Store c.insert_notices.new.tables in
    let one = subst (λ (l : ContestState). Step c.insert_notices.result old mid (counts_of c.args.tables.now) (counts_of c.insert_notices.new.tables) (ShowsNoticeless l) (HasMoved l (length l.clarifications)) (MakesNone old (ShowsNoticeless l))) c.lists.ensures c.insert_notices.ensures in
    makes_back c.args.lists c.in-Ok.field-0 c.keep_mended.result old mid (shown_by g.S.Store c.keep_mended.new.tables) _ (counts_of c.insert_notices.new.tables)
    (subst (λ r. Step r old mid (counts_of c.args.tables.now) (counts_of c.insert_notices.new.tables) (ShowsNoticeless c.args.lists) (HasMoved c.args.lists (length c.args.lists.clarifications)) (MakesNone old (ShowsNoticeless c.args.lists))) c.in-Ok.is one)
    c.keep_mended.ensures.survives

pub returns-in-Err-clause-survives : goal.returns-in-Err-clause-survives
returns-in-Err-clause-survives g c =
    let old = shown_by g.S.Store c.args.tables.now in
    let new = shown_by g.S.Store c.insert_notices.new.tables in
    back_none c.args.lists old new
    (subst (λ (l : ContestState). Step c.insert_notices.result old new (counts_of c.args.tables.now) (counts_of c.insert_notices.new.tables) (ShowsNoticeless l) (HasMoved l (length l.clarifications)) (MakesNone old (ShowsNoticeless l))) c.lists.ensures c.insert_notices.ensures).survives
