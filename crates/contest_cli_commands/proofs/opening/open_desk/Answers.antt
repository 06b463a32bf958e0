use Rattle.std.proofs.Common.{subst, sym}
use Rattle.sqlite.specs.Held.{state}
use Rattle.sqlite.specs.State.{HasCleanDisk}
use Rattle.contest_desk.specs.Serving.{IsSettled}
use Rattle.contest_store_sqlite.specs.Opening.{Opened}
use Rattle.contest_store_sqlite.specs.Value.{shown_in, stored}
use Rattle.contest_cli_commands.proofs.OpeningLemmas.{is_settled, same_err}
use Rattle.contest_cli_commands.proofs.opening.open_desk.Goals as goal

pub returns-in-Ok-clause-opened : goal.returns-in-Ok-clause-opened
returns-in-Ok-clause-opened g c =
    subst (λ desk. HasCleanDisk (shown_in g.S.Store desk) → Opened (state g.S.Store c.args.conn) (stored g.S.Store desk)) (sym c.in-Ok.ensures.ok) c.in_ok-store.ensures.opened

pub returns-in-Ok-clause-settled : goal.returns-in-Ok-clause-settled
returns-in-Ok-clause-settled g c =
    subst (λ desk. IsSettled (stored g.S.Store desk)) (sym c.in-Ok.ensures.ok)
    (λ trusted up. is_settled (stored g.S.Store c.in_ok-store.store) (c.in_ok-store.ensures.shows trusted.0))

pub returns-in_err-store-clause-first : goal.returns-in_err-store-clause-first
returns-in_err-store-clause-first g c = same_err c.from_residual.result _ c.in_err-store.field-0.0 c.from_residual.ensures.1 c.in_err-store.ensures.first
