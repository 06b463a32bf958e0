use Rattle.std.proofs.Common.{arith}
use Rattle.contest_files.proofs.Rest.{few}
use Rattle.contest_files.proofs.csv_records.CsvRecords.new.Goals as goal

pub returns-clause-few : goal.returns-clause-few
returns-clause-few c =
    let e = c.from_reader-reader.ensures in
    let l = few c.args.file.now in
    let short = c.if-prove.false in
    rw (e.state, e.source) (omega (arith, l, short))
