use Rattle.std.proofs.Common.{◌≡◌, ◌∙◌, Ok, Some, ap, rules, sym}
use Rattle.csv.specs.Records.{fields_of}
use Rattle.contest_types.specs.State.{ContestState, FixedPart}
use Rattle.contest_import_verdicts.specs.VerdictFiles.{imported_verdict, wanted_in}
use Rattle.contest_import_verdicts.proofs.SoFarLemmas.{verdict_of_lists}
use Rattle.contest_import_verdicts.proofs.verdicts.record_verdict.Goals as goal

pub returns-in-Some-clause-ok : goal.returns-in-Some-clause-ok
returns-in-Some-clause-ok c = λ x valid are.
    let wanted : wanted_in (fields_of c.args.row.now) ≡ Some c.in-Ok-Some.wanted = search rules in
    let found = rw c.as_bytes.ensures.bytes at (c.named_submission-submission.ensures x valid (ap (λ (y : ContestState). y.submissions) are)) in
    let made = c.imported_verdict.ensures ∙ ap (λ (f : FixedPart). imported_verdict f c.args.now c.in-Some.named) (c.fixed-in-Some.ensures ∙ ap (λ (y : ContestState). y.fixed) are) in
    verdict_of_lists x c.args.lists.now c.args.now (fields_of c.args.row.now) c.in-Ok-Some.wanted _ _ are wanted c.fixed.ensures found (sym c.in-Some.is ∙ c.verdict_on.ensures) ∙ ap Ok (sym made)

pub returns-in-Ok-Some-clause-err : goal.returns-in-Ok-Some-clause-err
returns-in-Ok-Some-clause-err c = λ x valid are.
    let wanted : wanted_in (fields_of c.args.row.now) ≡ Some c.in-Ok-Some.wanted = search rules in
    let found = rw c.as_bytes.ensures.bytes at (c.named_submission-submission.ensures x valid (ap (λ (y : ContestState). y.submissions) are)) in
    verdict_of_lists x c.args.lists.now c.args.now (fields_of c.args.row.now) c.in-Ok-Some.wanted _ _ are wanted c.fixed.ensures found (sym c.in-None.is ∙ c.verdict_on.ensures)
