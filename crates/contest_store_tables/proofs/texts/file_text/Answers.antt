use Rattle.contest_store_tables.proofs.TextMeanings.{file_found}
use Rattle.contest_store_tables.proofs.texts.file_text.Goals as goal

pub returns : goal.returns
returns c = file_found
