use Rattle.contest_store_tables.proofs.TextMeanings.{moved_dropped}
use Rattle.contest_store_tables.proofs.texts.drop_text.Goals as goal

pub returns : goal.returns
returns c = moved_dropped
