use Rattle.std.proofs.Common.{◌∙◌, sym, refl}
use Rattle.contest_store_rows.specs.ListRows.{clarification_row}
use Rattle.contest_store_rows.specs.Clarifications.{clarification_said}
use Rattle.contest_store_rows.proofs.ReadLemmas.{kept}
use Rattle.contest_store_rows.proofs.clarifications.ClarificationListed.read.Goals as goal

pub returns : goal.returns
returns c =
    let s = c.args.settings.now in
    let said = sym c.in_ok-clarification.ensures.said ∙ c.in-Some.is in
    kept (clarification_row s c.args.number) c.args.row.now (clarification_said s c.args.row.now) c.then_some.result c.in-Some.clarification said (rw (c.then_some.ensures, c.is_its_row-its.ensures) refl)
