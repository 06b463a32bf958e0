use Rattle.contest_operations.proofs.RefusalTexts.{told_is_refused}
use Rattle.contest_operations.proofs.reply.Reply.refused.Goals as goal

pub returns : goal.returns
returns c = told_is_refused c.row-row.result c.args.refusal c.refusal_field.result c.fixed.result c.row-row.ensures c.refusal_field.ensures c.fixed.ensures
