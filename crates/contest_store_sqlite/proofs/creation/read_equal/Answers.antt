use Rattle.std.proofs.Common.{◌∙◌, ap, refl, sym}
use Rattle.contest_types.specs.State.{ContestState, FixedPart}
use Rattle.contest_store_tables.specs.Connected.{shown_by}
use Rattle.contest_store_sqlite.proofs.CreatedStores.{is_old}
use Rattle.contest_store_sqlite.proofs.MadeContests.{is_equal}
use Rattle.contest_store_sqlite.proofs.creation.read_equal.Goals as goal

pub returns-then-has_head-clause-equal : goal.returns-then-has_head-clause-equal
returns-then-has_head-clause-equal g c clean =
    is_equal (shown_by g.S.Store c.args.tables.now) (shown_by g.S.Store c.read_desk.new.tables) c.args.head.now c.in-Ok.lists c.requires.stood (c.in-Ok.ensures.read clean)
    (ap (λ (f : FixedPart). f.settings.head) (sym (c.fixed.ensures ∙ ap (λ (x : ContestState). x.fixed) c.lists-in-Ok.ensures)) ∙ c.if-has_head.ensures.0 refl) c.in-Ok.ensures.survives

pub returns-in-Err-clause-first : goal.returns-in-Err-clause-first
returns-in-Err-clause-first g c clean is = c.in-Err.ensures.first clean (is_old c.in-Err.error (sym c.refusal.ensures.value ∙ is))
