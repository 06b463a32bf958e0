use Rattle.std.proofs.Common.{sym}
use Rattle.csv.specs.Records.{fields_of}
use Rattle.contest_files.proofs.RecordLemmas.{field_there}
use Rattle.contest_files.proofs.csv_records.field.Goals as goal

pub unreachable-requires : goal.unreachable-requires
unreachable-requires c = field_there (fields_of c.args.row.now) c.args.place c.requires (sym c.in-None.ensures.value)
