use Rattle.contest_store_tables.proofs.TextMeanings.{moved_loaded}
use Rattle.contest_store_tables.proofs.texts.moved_text.Goals as goal

pub returns : goal.returns
returns c = moved_loaded
