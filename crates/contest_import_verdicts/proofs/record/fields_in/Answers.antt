use Rattle.std.proofs.Common.{◌≡◌, length, arith}
use Rattle.csv.specs.Records.{fields_of}
use Rattle.contest_import_verdicts.proofs.RecordLemmas.{not_two, two_by}
use Rattle.contest_import_verdicts.proofs.record.fields_in.Goals as goal

pub returns-then-len-ne2 : goal.returns-then-len-ne2
returns-then-len-ne2 c = not_two (fields_of c.args.row.now) (λ e. omega arith)

pub returns : goal.returns
returns c =
    let n : length (fields_of c.args.row.now) ≡ 2 = omega arith in
    two_by (fields_of c.args.row.now) c.field.result.now c.field-2.result.now n c.field.ensures c.field-2.ensures
