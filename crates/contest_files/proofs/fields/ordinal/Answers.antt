use Rattle.std.proofs.Common.{◌∙◌, ap, Some}
use Rattle.contest_files.proofs.FieldLemmas.{ordinal_none, ordinal_some}
use Rattle.contest_files.proofs.fields.ordinal.Goals as goal

pub returns-in-None : goal.returns-in-None
returns-in-None c = ordinal_none c.args.field.now c.in-None.ensures

pub returns-in-Some : goal.returns-in-Some
returns-in-Some c = ap Some c.in-Some.ensures.1 ∙ ordinal_some c.args.field.now c.in-Some.ensures.0.0 c.in-Some.ensures.0.1
