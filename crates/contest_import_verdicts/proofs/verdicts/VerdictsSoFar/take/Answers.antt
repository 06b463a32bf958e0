use Rattle.std.proofs.Common.{◌∙◌, Ok, ap, sym}
use Rattle.csv.specs.Records.{fields_of}
use Rattle.contest_import_verdicts.proofs.SoFarLemmas.{judged, next_so_far, of_record}
use Rattle.contest_import_verdicts.proofs.verdicts.VerdictsSoFar.take.Goals as goal

pub returns-in_ok-add-in-Ok-true-clause-ok : goal.returns-in_ok-add-in-Ok-true-clause-ok
returns-in_ok-add-in-Ok-true-clause-ok c = λ x so_far.
    let row = fields_of c.args.row.now in
    let old = c.args.self.now.verdicts in
    let v = c.in_ok-verdict.verdict in
    let is = c.in_ok-verdict.ensures.ok x so_far.valid so_far.lists_are in
    let adds = c.in_ok-add-in-Ok-true.ensures in (
      judged x c.args.lists.now _ c.args.now old row v _ so_far is (sym c.addition.ensures ∙ (c.in-Ok-true.is ∙ ap Ok c.in-Ok-true.field-0-test)) ∙ ap Ok (sym adds.added),
      next_so_far x c.args.lists.now _ _ c.args.now old _ v so_far (of_record x c.args.now row v is) adds.added (adds.imported _ so_far.imported_are),
    )

pub returns-in-Ok-false-clause-ok : goal.returns-in-Ok-false-clause-ok
returns-in-Ok-false-clause-ok c = λ x so_far.
    let is = c.in_ok-verdict.ensures.ok x so_far.valid so_far.lists_are in
    (judged x c.args.lists.now _ c.args.now c.args.self.now.verdicts (fields_of c.args.row.now) c.in_ok-verdict.verdict _ so_far is (sym c.addition.ensures ∙ (c.in-Ok-false.is ∙ ap Ok c.in-Ok-false.field-0-test)), so_far)

pub returns-in-Err-clause-err : goal.returns-in-Err-clause-err
returns-in-Err-clause-err c = λ x so_far.
    let is = c.in_ok-verdict.ensures.ok x so_far.valid so_far.lists_are in
    judged x c.args.lists.now _ c.args.now c.args.self.now.verdicts (fields_of c.args.row.now) c.in_ok-verdict.verdict _ so_far is (sym c.addition.ensures ∙ c.in-Err.is)
