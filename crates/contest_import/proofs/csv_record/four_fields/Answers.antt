use Rattle.std.proofs.Common.{◌≡◌, length, arith}
use Rattle.csv.specs.Records.{fields_of}
use Rattle.contest_import.proofs.RecordLemmas.{four_by, not_four}
use Rattle.contest_import.proofs.csv_record.four_fields.Goals as goal

pub returns-then-len-ne4 : goal.returns-then-len-ne4
returns-then-len-ne4 c = not_four (fields_of c.args.row.now) (λ e. omega arith)

pub returns : goal.returns
returns c =
    let n : length (fields_of c.args.row.now) ≡ 4 = omega arith in
    four_by (fields_of c.args.row.now) c.field.result.now c.field-2.result.now c.field-3.result.now c.field-4.result.now n c.field.ensures c.field-2.ensures c.field-3.ensures c.field-4.ensures
