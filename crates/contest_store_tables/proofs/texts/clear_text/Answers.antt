use Rattle.contest_store_tables.proofs.TextMeanings.{clarifications_cleared}
use Rattle.contest_store_tables.proofs.texts.clear_text.Goals as goal

pub returns : goal.returns
returns c = clarifications_cleared
