use Rattle.std.proofs.Common.{◌∙◌, append_assoc, inr}
use Rattle.contest_cli_words.proofs.serve_words.no_number.Goals as goal

pub returns-in-Ok-clause-said : goal.returns-in-Ok-clause-said
returns-in-Ok-clause-said c = inr (c.in-Ok.ensures.ok ∙ simp append_assoc)
