use Rattle.std.proofs.Common.{◌≡◌, length, arith}
use Rattle.csv.specs.Records.{fields_of}
use Rattle.contest_replay.proofs.RecordLemmas.{five_by, not_five}
use Rattle.contest_replay.proofs.replay.record.five_fields.Goals as goal

pub returns-then-len-ne5 : goal.returns-then-len-ne5
returns-then-len-ne5 c = not_five (fields_of c.args.row.now) (λ e. omega arith)

pub returns : goal.returns
returns c =
    let n : length (fields_of c.args.row.now) ≡ 5 = omega arith in
    five_by (fields_of c.args.row.now) c.field.result.now c.field-2.result.now c.field-3.result.now c.field-4.result.now c.field-5.result.now n c.field.ensures c.field-2.ensures c.field-3.ensures c.field-4.ensures c.field-5.ensures
