use Rattle.std.proofs.Common.{◌≡◌, ◌∷◌, ◌∙◌, sym, rules, arith}
use Rattle.csv.specs.Records.{fields_of}
use Rattle.contest_files.specs.Refused.{Refuses}
use Rattle.contest_import.specs.CsvKinds.{record_row}
use Rattle.contest_import.specs.RowAdditions.{after_records, rows_or_refusal}
use Rattle.contest_import.proofs.FaultLemmas.{refused_from}
use Rattle.contest_import.proofs.csv_files.take_all.Goals as goal

pub returns-in_err-take-clause-err : goal.returns-in_err-take-clause-err
returns-in_err-take-clause-err c =
    let rest : c.loop-n.records ≡ fields_of c.next.new.row ∷ c.next.new.self = search rules in
    let told : Refuses c.in_err-take.field-0.0 (rows_or_refusal (after_records (record_row c.args.kind) c.args.additions.now 1 c.args.records.now)) =
    refused_from _ _ _ (rw rest at c.loop-n.invariant.same) (c.in_err-take.ensures.err c.next.new.self) in
    search rules

pub loop-n-preserved : goal.loop-n-preserved
loop-n-preserved c =
    let rest : c.loop-n.records ≡ fields_of c.next.new.row ∷ c.next.new.self = search rules in
    let few = c.loop-n.invariant.few in
    record {
      same = sym (c.in_ok-take.ensures.ok c.next.new.self) ∙ (rw rest at c.loop-n.invariant.same);
      few = omega (arith, rw rest at few);
    }
