use Rattle.std.proofs.Common.{sym, ◌∙◌, subst}
use Rattle.std.specs.Fmt.{decimal}
use Rattle.std.specs.Str.{IsUtf8}
use Rattle.std.proofs.lemmas.Fmt.{IsAscii-decimal}
use Rattle.std.proofs.lemmas.Str.{IsUtf8-from_ascii}
use Rattle.contest_objects.proofs.SubmissionIds.{no_text}
use Rattle.contest_objects.proofs.id_numbers.rejudging_number.Goals as goal

pub returns-in_err-ok-clause-whole : goal.returns-in_err-ok-clause-whole
returns-in_err-ok-clause-whole c = λ number small e.
    absurd (no_text _ c.args.id.now c.from_utf8.result c.from_utf8.ensures.cases (sym c.ok.ensures.value ∙ c.in_err-ok.was) (subst IsUtf8 e (IsUtf8-from_ascii (decimal number) (IsAscii-decimal number small))))
