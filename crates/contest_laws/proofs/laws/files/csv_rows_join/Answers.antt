use Rattle.contest_laws.proofs.CsvRows as lemmas
use Rattle.contest_laws.proofs.laws.files.csv_rows_join.Goals as goal

pub returns : goal.returns
returns c = lemmas.csv_rows_join
